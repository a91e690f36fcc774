-- `close_gaps` has closed the gaps of the first i when i is next. Assumes nothing.
use native.Mathlib.Omega.{arith}
use Rattle.merging.proofs.Turning.{closed_start, closed_more}
use Rattle.merging.proofs.close_gaps.Goals as goal

pub loop-i-init : goal.loop-i-init
loop-i-init c = closed_start _

pub loop-i-preserved : goal.loop-i-preserved
loop-i-preserved c = closed_more _ _ _ _ (omega arith) c.loop-i.invariant _ _ c.keep-r.ensures
