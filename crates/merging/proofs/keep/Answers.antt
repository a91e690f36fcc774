-- `keep` stores a gate that is still there. Assumes nothing.
use native.Mathlib.Omega.{arith}
use Rattle.merging.proofs.Turning.{kept_removed, kept_there}
use Rattle.merging.proofs.keep.Goals as goal

pub returns-then-x-eq0 : goal.returns-then-x-eq0
returns-then-x-eq0 c = kept_removed _ _ _ (omega arith)

pub returns : goal.returns
returns c = kept_there _ _ _ (omega arith) c.if-x-eq0.false
