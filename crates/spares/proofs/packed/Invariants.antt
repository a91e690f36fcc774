-- `packed` goes down the lines, one digit more for each. Assumes nothing.
use mathlib.Core.Path.{◌≡◌}
use Rattle.spares.proofs.Sets.{digits_from}
use Rattle.spares.proofs.packed.Given as goal

abbrev pub invariant-loop-i : goal.invariant-loop-i
invariant-loop-i l = l.set ≡ digits_from l.marks l.i
