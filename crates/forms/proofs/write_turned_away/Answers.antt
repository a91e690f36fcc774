-- `write_turned_away` writes its form at the front; a line number of 64 bits has at most 20 digits, the other two numbers at most 3, so there
-- is room. Assumes nothing.
use mathlib.Core.List.{[]}
use native.Mathlib.Omega.{arith}
use Rattle.text.specs.Text.{bytes}
use Rattle.writing.proofs.Bytes.{at_front}
use Rattle.writing.proofs.Numbers.{few_digits}
use Rattle.writing.proofs.Lines.{length_two}
use Rattle.forms.proofs.Lines.{length_three}
use Rattle.forms.proofs.write_turned_away.Goals as goal

pub put_three-requires : goal.put_three-requires
put_three-requires c =
    let a = c.args in
    omega (arith, length_three (bytes "(turned-away ") a.number a.line a.text, length_two [] a.line a.text, few_digits 2 a.number (omega arith), few_digits 19 a.line (omega arith), few_digits 2 a.text (omega arith))

pub returns : goal.returns
returns c = let w = at_front c.put_three.ensures in record { value = w.0; out_after = w.1 }
