-- `write_quote` writes its form at the front; a number of 64 bits has at most 20 digits, so there is room. Assumes nothing.
use native.Mathlib.Omega.{arith}
use Rattle.text.specs.Text.{bytes}
use Rattle.writing.proofs.Bytes.{at_front}
use Rattle.writing.proofs.Numbers.{few_digits}
use Rattle.writing.proofs.Lines.{length_one}
use Rattle.writing.proofs.write_quote.Goals as goal

pub put_one-requires : goal.put_one-requires
put_one-requires c =
    let n = c.args.count in omega (arith, length_one (bytes "(quote ") n, few_digits 19 n (omega arith))

pub returns : goal.returns
returns c = let w = at_front c.put_one.ensures in record { value = w.0; out_after = w.1 }
