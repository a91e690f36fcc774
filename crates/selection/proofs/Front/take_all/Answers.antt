-- `take_all` has taken i gates when i is next. Assumes nothing.
use native.Mathlib.Omega.{arith}
use Rattle.selection.proofs.Ordering.{going_end}
use Rattle.selection.proofs.Front.take_all.Goals as goal

pub returns : goal.returns
returns c = going_end c.loop-i.invariant (omega arith)
