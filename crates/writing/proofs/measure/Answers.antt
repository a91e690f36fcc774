-- `measure` is the length of the circuit text. Assumes nothing.
use native.Mathlib.Omega.{arith}
use Rattle.text.specs.Text.{bytes}
use Rattle.writing.proofs.Lines.{circuit_length, length_one}
use Rattle.writing.proofs.measure.Goals as goal

pub returns : goal.returns
returns c =
    let n = c.args.head.lines in
    omega (arith, circuit_length n c.args.codes.now c.requires.0, length_one (bytes "(lines ") n)
