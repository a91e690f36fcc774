-- A slip run on the numbers of a circuit: the step of a number, and how far a run has come. Assumes nothing.
use mathlib.Core.Path.{◌≡◌, refl, ◌∙◌}
use mathlib.Core.Bool.{Bool, true, false, cond}
use mathlib.Core.List.{List, ◌∷◌}
use Prim.Native.Nat.{ℕ, suc, ◌+◌, ◌/◌, ◌%◌, ◌≤◌, ◌<◌}
use native.Mathlib.Omega.{arith}
use lib.Dec.{eqb}
use lib.ListN.{length, get_or, take, drop, length-map, get_or-map, drop_of_length-le}
use lib.Seq.{drop-cons}
use borrow.Author.Tests.{eq-eqb, ne_eqb}
use Rattle.gates.specs.declared.Gate.{Gate}
use Rattle.gates.specs.Code.{gates}
use Rattle.stepping.specs.Slip.{SlipStep, pass_at, merge_at, makes, not_allowed, passing, merging, at_place, effect, ends_at, refused_at, run_from, run}
use Rattle.stepping.specs.Stepped.{slip_step, slip_steps, Circuit}
use Rattle.stepping.proofs.Steps.{place_0, no_right_neighbour}
use Rattle.stepping.proofs.Slips.{run_makes, run_not_allowed}

-- ---- the step of a number

module _ (x : ℕ) (c : List Gate) where
  pub effect_pass : x % 2 ≡ 0 → effect (slip_step x) c ≡ at_place passing (x / 2) c
  unfolding slip_step effect
  effect_pass e = rw (eq-eqb (x % 2) 0 e)

  pub effect_merge : (x % 2 ≡ 0 → ⊥) → effect (slip_step x) c ≡ at_place merging (x / 2) c
  unfolding slip_step effect
  effect_merge n = rw (ne_eqb (x % 2) 0 n)

  -- what is not allowed at its place, be it a pass or a merge
  neither : at_place passing (x / 2) c ≡ not_allowed → at_place merging (x / 2) c ≡ not_allowed → effect (slip_step x) c ≡ not_allowed
  unfolding slip_step effect
  neither p m = go (eqb (x % 2) 0)
    where
      go : (t : Bool) → effect (cond t (pass_at (x / 2)) (merge_at (x / 2))) c ≡ not_allowed
      go true = p
      go false = m

  pub effect_at_0 : x / 2 ≡ 0 → effect (slip_step x) c ≡ not_allowed
  effect_at_0 e = neither (rw e (place_0 passing c)) (rw e (place_0 merging c))

  pub effect_at_end : length c ≤ x / 2 → effect (slip_step x) c ≡ not_allowed
  effect_at_end h = neither (no_right_neighbour passing (x / 2) c h) (no_right_neighbour merging (x / 2) c h)

-- ---- how far a run has come

-- the first i steps of the slip ss, from c, have left the first n of the numbers
pub record SoFar (ss : List SlipStep) (c : List Gate) (i n : ℕ) (list : List ℕ) : Type 0 where
  pub left : Circuit n list
  pub same : run ss c ≡ run_from (suc i) (drop i ss) (gates (take n list))

pub so_far_start : (ss : List SlipStep) {m : ℕ} {list : List ℕ} → Circuit m list → SoFar ss (gates (take m list)) 0 m list
unfolding run
so_far_start ss w = record { left = w; same = refl }

module _ (steps : List ℕ) (i : ℕ) (c : List Gate) (n : ℕ) (list : List ℕ) (q : SoFar (slip_steps steps) c i n list) where
  rest : List SlipStep
  rest = drop (suc i) (slip_steps steps)

  -- the step on line i + 1 comes next
  next_step : i < length steps → drop i (slip_steps steps) ≡ slip_step (get_or steps i 0) ∷ rest
  unfolding rest
  next_step b =
      let d : i < length (slip_steps steps) = omega (arith, length-map steps slip_step) in
      drop-cons (slip_steps steps) i (slip_step 0) d ∙ rw (get_or-map slip_step steps i 0)

  next_run : i < length steps → run (slip_steps steps) c ≡ run_from (suc i) (slip_step (get_or steps i 0) ∷ rest) (gates (take n list))
  next_run b = q.same ∙ rw (next_step b)

  -- it is allowed
  pub so_far_more : i < length steps → (m : ℕ) (exit : List ℕ) → effect (slip_step (get_or steps i 0)) (gates (take n list)) ≡ makes (gates (take m exit)) → Circuit m exit → SoFar (slip_steps steps) c (i + 1) m exit
  unfolding rest
  so_far_more b m exit e w =
      let z : i + 1 ≡ suc i = omega arith in
      record { left = w; same = rw z (next_run b ∙ run_makes (suc i) (slip_step (get_or steps i 0)) rest (gates (take n list)) (gates (take m exit)) e) }

  -- it is not
  pub so_far_refused : i < length steps → (l : ℕ) → effect (slip_step (get_or steps i 0)) (gates (take n list)) ≡ not_allowed → l ≡ i + 1 → run (slip_steps steps) c ≡ refused_at l
  so_far_refused b l e z = let y : l ≡ suc i = omega arith in rw y (next_run b ∙ run_not_allowed (suc i) (slip_step (get_or steps i 0)) rest (gates (take n list)) e)

  -- there is no step left
  pub so_far_end : length steps ≤ i → run (slip_steps steps) c ≡ ends_at (gates (take n list))
  unfolding run_from
  so_far_end b =
      let d : length (slip_steps steps) ≤ i = omega (arith, length-map steps slip_step) in
      q.same ∙ rw (drop_of_length-le (slip_steps steps) d)
