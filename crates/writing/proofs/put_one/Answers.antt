-- `put_one` writes a form of one number: the opening, then the number with the line's end. Assumes nothing.
use mathlib.Core.Path.{refl}
use native.Mathlib.Omega.{arith}
use Rattle.writing.specs.Decimal.{one_number}
use Rattle.writing.proofs.Bytes.{both}
use Rattle.writing.proofs.Lines.{length_one}
use Rattle.writing.proofs.put_one.Goals as goal

pub put-next-requires : goal.put-next-requires
put-next-requires c =
    let a = c.args in omega (arith, length_one a.opening.now a.n)

pub put_and-requires : goal.put_and-requires
put_and-requires c =
    let a = c.args in omega (arith, length_one a.opening.now a.n)

pub returns : goal.returns
unfolding one_number
returns c =
    both refl c.requires c.put-next.ensures c.put_and.ensures
