-- `top_gate` goes down the stack: what is its top at the start is it at each turn, but for removed gates. Assumes nothing.
use Rattle.stacks.proofs.Stacking.{Walking}
use Rattle.stacks.proofs.top_gate.Given as goal

abbrev pub invariant-loop-h : goal.invariant-loop-h
invariant-loop-h l = Walking l.list l.below l.top l.h

abbrev pub decreases-loop-h : goal.decreases-loop-h
decreases-loop-h l = l.h
