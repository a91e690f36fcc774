-- `parts::read` meets its contract. Assumes nothing.
use native.Mathlib.Omega.{arith}
use Rattle.gates.proofs.Codes.{below}
use Rattle.parts.proofs.Numbers.{reads_gate, reads_none}
use Rattle.parts.proofs.read.Goals as goal

pub decode-requires : goal.decode-requires
decode-requires c = below {n = 32} (omega arith) (rw c.if-is_code.true at c.is_code.ensures)

pub returns-then-is_code : goal.returns-then-is_code
returns-then-is_code c =
    rw (c.gate_parts.ensures, c.decode.ensures)
    (reads_gate c.args.code (rw c.if-is_code.true at c.is_code.ensures))

pub returns : goal.returns
returns c = reads_none c.args.code (rw c.if-is_code.false at c.is_code.ensures)
