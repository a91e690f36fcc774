-- `note` has one control more. Assumes nothing.
use native.Mathlib.Omega.{arith}
use Rattle.std.proofs.lemmas.Grind.{common_steps}
use Rattle.gathering.specs.Gathering.{noted}
use Rattle.gathering.proofs.note.Goals as goal

pub returns : goal.returns
unfolding noted
returns c = grind (arith, common_steps)
