-- Closed examples of slips, by computation. Assumes nothing.
use mathlib.Core.Path.{◌≡◌, refl}
use mathlib.Core.List.{[], ◌∷◌}
use Rattle.gates.specs.declared.Gate.TheVariants.{Not, Powered}
use Rattle.gates.specs.Circuit.{target, slot, powered}
use Rattle.stepping.specs.Slip.{pass_at, merge_at, makes, not_allowed, amid, passing, merging, neighbours, at_place, effect, ends_at, refused_at, onward, run_from, run}

-- cn 0 2; cn 1 2; cn 0 2: pass the second and third, merge the first two
accepted : run (pass_at 2 ∷ merge_at 1 ∷ []) (Powered 2 0 2 ∷ Powered 2 1 2 ∷ Powered 2 0 2 ∷ []) ≡ ends_at (Powered 2 1 2 ∷ [])
unfolding target slot powered amid passing merging neighbours at_place effect onward run_from run
accepted = refl

-- cn 0 1; cn 1 2 do not pass: line 2 of the slip
crossing : run (merge_at 1 ∷ pass_at 1 ∷ []) (Not 0 ∷ Not 0 ∷ Powered 2 0 1 ∷ Powered 2 1 2 ∷ []) ≡ refused_at 2
unfolding target slot powered amid passing merging neighbours at_place effect onward run_from run
crossing = refl

-- place 0, and a place without a right neighbour
no_place : effect (pass_at 0) (Not 0 ∷ Not 1 ∷ []) ≡ not_allowed
unfolding amid passing merging neighbours at_place effect
no_place = refl

no_neighbour : effect (pass_at 2) (Not 0 ∷ Not 1 ∷ []) ≡ not_allowed
unfolding amid passing merging neighbours at_place effect
no_neighbour = refl

-- v 0 1; v 0 1 merge to cn 0 1; v 0 1; v 0 2 do not merge
two_v : effect (merge_at 2) (Not 0 ∷ Powered 1 0 1 ∷ Powered 1 0 1 ∷ Not 0 ∷ []) ≡ makes (Not 0 ∷ Powered 2 0 1 ∷ Not 0 ∷ [])
unfolding powered amid passing merging neighbours at_place effect
two_v = refl

other_target : effect (merge_at 1) (Powered 1 0 1 ∷ Powered 1 0 2 ∷ []) ≡ not_allowed
unfolding powered amid passing merging neighbours at_place effect
other_target = refl

-- an empty slip
empty : run [] (Not 0 ∷ []) ≡ ends_at (Not 0 ∷ [])
unfolding run_from run
empty = refl
