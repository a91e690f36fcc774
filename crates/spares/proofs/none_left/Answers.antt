-- `none_left` goes up the lines as far as they are taken. Assumes nothing.
use native.Mathlib.Omega.{arith}
use Rattle.std.proofs.lemmas.Grind.{common_steps}
use Rattle.spares.proofs.Sets.{left_taken, left_free, left_end}
use Rattle.spares.proofs.none_left.Goals as goal

pub returns-then-not-taken : goal.returns-then-not-taken
returns-then-not-taken c = grind (arith, common_steps, left_free)

pub loop-i-preserved : goal.loop-i-preserved
loop-i-preserved c = grind (arith, common_steps, left_taken)

pub returns : goal.returns
returns c = grind (arith, common_steps, left_end)
