-- `put_two` writes a form of two numbers: the opening, the first number with its space, the second with the line's end. Assumes nothing.
use mathlib.Core.Path.{sym, refl}
use mathlib.Core.List.{◌++◌, append_assoc}
use native.Mathlib.Omega.{arith}
use lib.ListN.{length-append}
use Rattle.text.specs.Text.{bytes}
use Rattle.writing.specs.Decimal.{decimal, two_numbers}
use Rattle.writing.proofs.Bytes.{both}
use Rattle.writing.proofs.Lines.{length_two}
use Rattle.writing.proofs.put_two.Goals as goal

pub put-first-requires : goal.put-first-requires
put-first-requires c =
    let a = c.args in omega (arith, length_two a.opening.now a.m a.n)

pub put_and-second-requires : goal.put_and-second-requires
put_and-second-requires c =
    let a = c.args in omega (arith, length_two a.opening.now a.m a.n)

pub put_and-requires : goal.put_and-requires
put_and-requires c =
    let a = c.args in
    omega (arith, length_two a.opening.now a.m a.n, length-append (decimal a.m) (bytes " "))

pub returns : goal.returns
unfolding two_numbers
returns c =
    let a = c.args in
    let e = length-append a.opening.now (decimal a.m ++ bytes " ") in
    both (sym (append_assoc a.opening.now (decimal a.m ++ bytes " ") (decimal a.n ++ bytes ")\n"))) c.requires
    (both refl (omega (arith, e, length-append (decimal a.m) (bytes " "), length_two a.opening.now a.m a.n)) c.put-first.ensures c.put_and-second.ensures)
    c.put_and.ensures
