-- `top_gate` goes down the stack: what is its top at the start is it at each turn, but for removed gates. Assumes nothing.
use native.Mathlib.Omega.{arith}
use Rattle.stacks.proofs.Stacking.{walking_more}
use Rattle.stacks.proofs.top_gate.Goals as goal

pub loop-h-preserved : goal.loop-h-preserved
loop-h-preserved c = walking_more _ _ _ _ _ (omega arith) (omega arith) c.requires.falls c.loop-h.invariant
