-- `write_turned_away` writes its form at the front; a number of 64 bits has at most 20 digits, so there is room. Assumes nothing.
use native.Mathlib.Omega.{arith}
use Rattle.text.specs.Text.{bytes}
use Rattle.writing.proofs.Bytes.{at_front}
use Rattle.writing.proofs.Numbers.{few_digits}
use Rattle.writing.proofs.Lines.{length_two}
use Rattle.writing.proofs.write_turned_away.Goals as goal

pub put_two-requires : goal.put_two-requires
put_two-requires c =
    let a = c.args in
    omega (arith, length_two (bytes "(turned-away ") a.number a.line, few_digits 19 a.number (omega arith), few_digits 19 a.line (omega arith))

pub returns : goal.returns
returns c = let w = at_front c.put_two.ensures in record { value = w.0; out_after = w.1 }
