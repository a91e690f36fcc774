-- `invert` has exchanged v and vp in the gates before the loop's place. Assumes nothing.
use mathlib.Core.Path.{◌≡◌}
use mathlib.Core.List.{◌++◌, map}
use lib.ListN.{take, drop}
use Rattle.composition.proofs.Composed.{inverse_code}
use Rattle.composition.proofs.invert.Given as goal

abbrev pub invariant-loop-code : goal.invariant-loop-code
invariant-loop-code l = l.list ≡ map inverse_code (take l.code-index l.initial.list) ++ drop l.code-index l.initial.list
