-- `put_gates` writes a line for each code. The invariant: the lines of the codes done are written, and the other bytes are as they were.
-- Assumes nothing.
use lib.ListN.{take}
use Rattle.writing.specs.Written.{Puts, gate_lines}
use Rattle.writing.proofs.put_gates.Given as goal

abbrev pub invariant-loop-code : goal.invariant-loop-code
invariant-loop-code l = Puts l.initial.out l.out l.at l.next (gate_lines (take l.code-index l.codes))
