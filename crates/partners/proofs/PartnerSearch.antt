-- The partner search in document 02's terms (order 3): of one step, over any circuit with the fewest gates and one new gate after it; and of the
-- steps for the gates of a circuit in turn. Assumes nothing.
use mathlib.Core.Path.{◌≡◌}
use mathlib.Core.Logic.{◌↔◌, ◌⊎◌, inl, inr}
use mathlib.Core.List.{List, [], ◌∷◌, ◌++◌}
use Prim.Native.Nat.{ℕ, ◌≤◌}
use native.Mathlib.Omega.{arith}
use lib.ListN.{length}
use Rattle.gates.specs.declared.Gate.{Gate}
use Rattle.gates.specs.Circuit.{Valid, AllValid, Linked}
use Rattle.gates.specs.Reduced.{Reduced}
use Rattle.gates.proofs.Chains.{linked_sym, linked_both}
use Rattle.gates.proofs.ReducedLists.{reduced_linked}
use Rattle.partners.specs.Shortest.{Shortest}
use Rattle.partners.specs.Partner.{Brought, NoPartner}
use Rattle.partners.specs.Steps.{Leaves, partnered, alone, Turns, over, turn}
use Rattle.partners.proofs.Partners.{Meets, Partner, partner_meets, meets_partner, partner_brought, brought_partner, look}
use Rattle.partners.proofs.Shortest.{shortest_nil, partner_unique}
use Rattle.partners.proofs.Steps.{leaves_linked, leaves_shortest, leaves_unique, turns_linked, turns_shortest, turns_unique}

-- ---- the partner

-- passes alone bring the gate of place i beside g, to be merged, exactly if it has g's site and every gate after it passes g; whatever the circuit is
pub brought_exactly_if : (c : List Gate) (g : Gate) (i : ℕ) → Brought c g i ↔ Meets c g i
brought_exactly_if c g i = (λ b. partner_meets (brought_partner b), λ w. partner_brought (meets_partner c g i w))

-- passes alone bring some gate beside g, to be merged, or none
pub some_or_none : (c : List Gate) (g : Gate) → ((i : ℕ) × Brought c g i) ⊎ NoPartner c g
some_or_none c g = go (look c g)
  where
    go : ((a : Gate) × (i : ℕ) × Partner g a c i) ⊎ ((a : Gate) (i : ℕ) → Partner g a c i → ⊥) → ((i : ℕ) × Brought c g i) ⊎ NoPartner c g
    go (inl p) = inl (p.1, partner_brought p.2)
    go (inr n) = inr (λ i b. n b.partner i (brought_partner b))

module _ (n : ℕ) where
  -- "at most one is such"
  pub at_most_one : {c : List Gate} {g : Gate} {i j : ℕ} → Shortest n c → Brought c g i → Brought c g j → i ≡ j
  at_most_one w b e = partner_unique n w (brought_partner b) (brought_partner e)

  -- exactly one is, or none
  pub one_or_none : (c : List Gate) (g : Gate) → Shortest n c → ((i : ℕ) × Brought c g i × ((j : ℕ) → Brought c g j → j ≡ i)) ⊎ NoPartner c g
  one_or_none c g w = go (some_or_none c g)
    where
      go : ((i : ℕ) × Brought c g i) ⊎ NoPartner c g → ((i : ℕ) × Brought c g i × ((j : ℕ) → Brought c g j → j ≡ i)) ⊎ NoPartner c g
      go (inl b) = inl (b.0, b.1, λ j e. at_most_one w e b.1)
      go (inr none) = inr none

  -- ---- the step

  -- it leaves exactly one circuit
  pub one_outcome : (c : List Gate) (g : Gate) → Shortest n c → (d : List Gate) × Leaves c g d × ((e : List Gate) → Leaves c g e → e ≡ d)
  one_outcome c g w = go (some_or_none c g)
    where
      go : ((i : ℕ) × Brought c g i) ⊎ NoPartner c g → (d : List Gate) × Leaves c g d × ((e : List Gate) → Leaves c g e → e ≡ d)
      go (inl b) = (_, partnered b.1, λ e l. leaves_unique n w l (partnered b.1))
      go (inr none) = (_, alone none, λ e l. leaves_unique n w l (alone none))

  -- "what the step leaves is linked to the circuit with the new gate at its end"
  pub step_linked : {c d : List Gate} {g : Gate} → Shortest n c → Valid n g → Leaves c g d → Linked n (c ++ g ∷ []) d
  step_linked w k l = leaves_linked n w.valid k l

  -- "and nothing so linked has fewer gates"
  pub step_fewest : {c d : List Gate} {g : Gate} → Shortest n c → Valid n g → Leaves c g d → (e : List Gate) → Linked n (c ++ g ∷ []) e → length d ≤ length e
  step_fewest w k l e m = (leaves_shortest n w k l).fewest e (linked_both (step_linked w k l) m)

  -- so the next step starts from such a circuit again
  pub step_shortest : {c d : List Gate} {g : Gate} → Shortest n c → Valid n g → Leaves c g d → Shortest n d
  step_shortest w k l = leaves_shortest n w k l

  -- ---- the steps in turn

  -- for the gates of c, from the empty circuit on, they leave exactly one circuit
  pub one_end : (c : List Gate) → AllValid n c → (d : List Gate) × Turns [] c d × ((e : List Gate) → Turns [] c e → e ≡ d)
  one_end c f = let r = run [] c (shortest_nil n) f in (r.0, r.1, λ e t. turns_unique n (shortest_nil n) f t r.1)
    where
      run : (u gs : List Gate) → Shortest n u → AllValid n gs → (d : List Gate) × Turns u gs d
      run u [] w k = (u, over)
      run u (g ∷ gs) w k =
          let s = one_outcome u g w in
          let r = run s.0 gs (step_shortest w k.0 s.1) k.1 in
          (r.0, turn s.1 r.1)

  -- it is linked to c, has the fewest gates of all that are, and its reduced list is that of c
  pub turns_linked_to : {c d : List Gate} → AllValid n c → Turns [] c d → Linked n c d
  turns_linked_to f t = turns_linked n (shortest_nil n) f t

  pub turns_fewest : {c d : List Gate} → AllValid n c → Turns [] c d → Shortest n d
  turns_fewest f t = turns_shortest n (shortest_nil n) f t

  pub turns_reduced : {c d : List Gate} → AllValid n c → Turns [] c d → (r : List Gate) → Reduced n d r ↔ Reduced n c r
  turns_reduced f t r = (λ x. reduced_linked n (linked_sym (turns_linked_to f t)) x, λ x. reduced_linked n (turns_linked_to f t) x)

  -- so it has as many gates as that
  pub turns_count : {c d r : List Gate} → AllValid n c → Turns [] c d → Reduced n c r → length d ≡ length r
  turns_count {d = d} {r} f t x =
      let l = turns_linked_to f t in
      let h = (turns_fewest f t).fewest r (linked_both l x.linked) in
      let k = x.fewest d l in
      omega arith
