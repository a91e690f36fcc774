-- `close_gaps` has closed the gaps of the first i when i is next. Assumes nothing.
use Rattle.merging.specs.Merged.{Closed}
use Rattle.merging.proofs.close_gaps.Given as goal

abbrev pub invariant-loop-i : goal.invariant-loop-i
invariant-loop-i l = Closed l.initial.list l.i l.r l.list
