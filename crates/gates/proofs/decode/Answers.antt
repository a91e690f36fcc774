-- `decode` returns the gate of the number. Assumes nothing.
use Rattle.std.proofs.Common.{arith}
use Rattle.gates.proofs.Codes.{gate_not, gate_powered}
use Rattle.gates.proofs.decode.Goals as goal

pub returns-then-slot-eq0 : goal.returns-then-slot-eq0
returns-then-slot-eq0 c = gate_not c.args.k c.if-slot-eq0.true

pub returns : goal.returns
returns c = gate_powered c.args.k _ (omega (arith, c.if-slot-eq0.false))
