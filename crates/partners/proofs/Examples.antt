-- Partners on closed circuits. Assumes nothing.
use mathlib.Core.List.{[], ◌∷◌}
use Prim.Native.Nat.{ℕ, zero, suc}
use native.Mathlib.Omega.{arith}
use Rattle.gates.specs.declared.Gate.{Gate}
use Rattle.gates.specs.declared.Gate.TheVariants.{Not}
use Rattle.gates.specs.Circuit.{target, slot, powered}
use Rattle.gates.proofs.Examples.{v, cn}
use Rattle.gates.specs.Sites.{Free, free_nil, free_cons}
use Rattle.partners.specs.Partner.{Placed, still, swap, sums, cancels, Brought}
use Rattle.partners.specs.Steps.{Leaves, partnered, alone, Turns, over, turn}
use Rattle.partners.proofs.Partners.{Meets}
use Rattle.partners.proofs.PartnerSearch.{brought_exactly_if}

-- the gate g at place i
abbrev at : ℕ → Gate → Placed
at i g = record { place = i; gate = g }

-- cn 0 2; cn 1 2, and cn 0 2 after them: one pass brings the first beside the new one
abbrev over_one_target : Brought (cn 0 2 ∷ cn 1 2 ∷ []) (cn 0 2) 0
unfolding target slot powered
over_one_target = record {
  partner = cn 0 2;
  left = [];
  right = at 1 (cn 1 2) ∷ [];
  moves = swap (at 0 (cn 0 2) ∷ []) (at 1 (cn 1 2)) (at 2 (cn 0 2)) [] (omega arith) still;
  merge = [];
  merges = sums 2 2 0 2;
}

-- and both are gone
both_gone : Leaves (cn 0 2 ∷ cn 1 2 ∷ []) (cn 0 2) (cn 1 2 ∷ [])
unfolding target slot powered
both_gone = partnered over_one_target

-- the steps for the three gates in turn: cn 0 2, then cn 0 2; cn 1 2, then cn 1 2 alone
no_gates : (g : Gate) (i : ℕ) → Meets [] g i → ⊥
no_gates g i w = omega (arith, w.inside)

other_control : (i : ℕ) → Meets (cn 0 2 ∷ []) (cn 1 2) i → ⊥
unfolding target slot
other_control zero w = omega (arith, w.site)
other_control (suc i) w = omega (arith, w.inside)

three_turns : Turns [] (cn 0 2 ∷ cn 1 2 ∷ cn 0 2 ∷ []) (cn 1 2 ∷ [])
three_turns =
    turn (alone (λ i b. no_gates _ i ((brought_exactly_if [] (cn 0 2) i).0 b)))
    (turn (alone (λ i b. other_control i ((brought_exactly_if (cn 0 2 ∷ []) (cn 1 2) i).0 b))) (turn both_gone over))

-- v 0 2; not 2; cn 1 2, and v 0 2 after them: a cn in the partner's place
abbrev two_v : Brought (v 0 2 ∷ Not 2 ∷ cn 1 2 ∷ []) (v 0 2) 0
unfolding target slot powered
two_v = record {
  partner = v 0 2;
  left = [];
  right = at 1 (Not 2) ∷ at 2 (cn 1 2) ∷ [];
  moves = swap (at 0 (v 0 2) ∷ at 1 (Not 2) ∷ []) (at 2 (cn 1 2)) (at 3 (v 0 2)) [] (omega arith) (swap (at 0 (v 0 2) ∷ []) (at 1 (Not 2)) (at 3 (v 0 2)) (at 2 (cn 1 2) ∷ []) (omega arith) still);
  merge = cn 0 2 ∷ [];
  merges = sums 1 1 0 2;
}

a_cn_in_its_place : Leaves (v 0 2 ∷ Not 2 ∷ cn 1 2 ∷ []) (v 0 2) (cn 0 2 ∷ Not 2 ∷ cn 1 2 ∷ [])
unfolding target slot powered
a_cn_in_its_place = partnered two_v

-- cn 0 1; cn 1 2, and cn 0 1 after them: the second is in the way, and the new gate is pushed
in_the_way : (i : ℕ) → Meets (cn 0 1 ∷ cn 1 2 ∷ []) (cn 0 1) i → ⊥
unfolding target slot
in_the_way zero w = blocked w.free
  where
    blocked : Free (cn 0 1) (cn 1 2 ∷ []) → ⊥
    blocked (free_cons p f) = omega arith
in_the_way (suc zero) w = omega (arith, w.site)
in_the_way (suc (suc i)) w = omega (arith, w.inside)

none_brought : Leaves (cn 0 1 ∷ cn 1 2 ∷ []) (cn 0 1) (cn 0 1 ∷ cn 1 2 ∷ cn 0 1 ∷ [])
none_brought = alone (λ i b. in_the_way i ((brought_exactly_if _ _ i).0 b))

-- two NOTs on one line
abbrev two_nots : Brought (Not 0 ∷ []) (Not 0) 0
two_nots = record { partner = Not 0; left = []; right = []; moves = still; merge = []; merges = cancels 0 }

none_left : Leaves (Not 0 ∷ []) (Not 0) []
none_left = partnered two_nots

-- v 0 1; v 0 1, and v 0 1 after them: a circuit that is not shortest can have two partners
first_of_two : Meets (v 0 1 ∷ v 0 1 ∷ []) (v 0 1) 0
unfolding target slot
first_of_two = record { inside = omega arith; site = omega arith; free = free_cons {a = v 0 1} (omega arith) free_nil }

second_of_two : Meets (v 0 1 ∷ v 0 1 ∷ []) (v 0 1) 1
unfolding target slot
second_of_two = record { inside = omega arith; site = omega arith; free = free_nil }
