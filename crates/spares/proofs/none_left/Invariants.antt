-- `none_left` goes up the lines as far as they are taken. Assumes nothing.
use mathlib.Core.Path.{◌≡◌}
use Prim.Native.Nat.{◌-◌}
use Rattle.spares.specs.Marks.{none_left}
use Rattle.spares.proofs.none_left.Given as goal

abbrev pub invariant-loop-i : goal.invariant-loop-i
invariant-loop-i l = (none_left (l.lines - l.i) l.i l.rest l.marks l.target ≡ none_left l.lines 0 l.kept l.marks l.target)
