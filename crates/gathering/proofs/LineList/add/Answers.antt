-- `LineList::add` has one line more. Assumes nothing.
use native.Mathlib.Omega.{arith}
use Rattle.std.proofs.lemmas.Grind.{common_steps}
use Rattle.gathering.specs.Gathering.{added}
use Rattle.gathering.proofs.LineList.add.Goals as goal

pub returns : goal.returns
unfolding added
returns c = grind (arith, common_steps)
