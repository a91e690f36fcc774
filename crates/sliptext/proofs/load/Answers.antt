-- `load` refuses a long slip, and reads the lines of any other. Assumes nothing.
use native.Mathlib.Omega.{arith}
use Rattle.sliptext.proofs.Lines.{judged_lines}
use Rattle.sliptext.proofs.load.Goals as goal

pub returns : goal.returns
returns c = λ t. rw (judged_lines t c.args.s.now (omega arith)) (c.load_lines.ensures t)
