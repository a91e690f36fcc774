-- `named` marks the target, beside the kept lines, and then one control after the other. Assumes nothing.
use native.Mathlib.Omega.{arith}
use Rattle.std.proofs.lemmas.Grind.{common_steps}
use Rattle.spares.proofs.Lines.{below_at}
use Rattle.spares.proofs.Marked.{mark_step, mark_end, marks_after, length_marks}
use Rattle.spares.proofs.named.Goals as goal

pub loop-c-init : goal.loop-c-init
loop-c-init c = grind (arith, common_steps, length_marks, marks_after)

pub bounds-marks-from-in-loop-c : goal.bounds-marks-from-in-loop-c
bounds-marks-from-in-loop-c c = omega (arith, below_at 32 c.args.controls.now c.loop-c.c-index (omega arith) c.requires.below)

pub loop-c-preserved : goal.loop-c-preserved
loop-c-preserved c = grind (arith, common_steps, mark_step)

pub returns : goal.returns
returns c = grind (arith, common_steps, mark_end)
