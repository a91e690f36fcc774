-- `write_circuit` writes the head's line and the gates' lines, which are the circuit text. Assumes nothing.
use native.Mathlib.Omega.{arith}
use Rattle.writing.proofs.Bytes.{both, at_front}
use Rattle.writing.proofs.Lines.{circuit_lines, circuit_length}
use Rattle.writing.proofs.write_circuit.Goals as goal

pub put_one-next-requires : goal.put_one-next-requires
put_one-next-requires c =
    omega (arith, circuit_length c.args.head.lines c.args.codes.now c.requires.lines_bound.0)

pub put_gates-requires-clause-codes_in_bounds : goal.put_gates-requires-clause-codes_in_bounds
put_gates-requires-clause-codes_in_bounds c =
    omega (arith, circuit_length c.args.head.lines c.args.codes.now c.requires.lines_bound.0)

pub returns : goal.returns
returns c =
    let w = at_front (both (circuit_lines c.args.head.lines c.args.codes.now c.requires.lines_bound.0) (omega arith) c.put_one-next.ensures c.put_gates.ensures) in
    record { value = w.0; answer_after = w.1 }
