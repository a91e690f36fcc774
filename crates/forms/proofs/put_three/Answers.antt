-- `put_three` writes a form of three numbers: the opening, the first number with its space, and the two others with the line's end.
-- Assumes nothing.
use mathlib.Core.Path.{refl}
use mathlib.Core.List.{[], ◌++◌}
use native.Mathlib.Omega.{arith}
use lib.ListN.{length-append}
use Rattle.text.specs.Text.{bytes}
use Rattle.writing.specs.Decimal.{decimal, two_numbers}
use Rattle.forms.specs.Forms.{three_numbers}
use Rattle.writing.proofs.Bytes.{both}
use Rattle.forms.proofs.Lines.{length_three}
use Rattle.forms.proofs.put_three.Goals as goal

pub put-first-requires : goal.put-first-requires
put-first-requires c =
    let a = c.args in omega (arith, length_three a.opening.now a.k a.m a.n)

pub put_and-second-requires : goal.put_and-second-requires
put_and-second-requires c =
    let a = c.args in
    omega (arith, length_three a.opening.now a.k a.m a.n)

pub put_two-requires : goal.put_two-requires
put_two-requires c =
    let a = c.args in
    omega (arith, length_three a.opening.now a.k a.m a.n, length-append (decimal a.k) (bytes " "))

pub returns : goal.returns
unfolding three_numbers two_numbers
returns c =
    let a = c.args in
    let x = decimal a.k ++ bytes " " in
    let e = length-append x (two_numbers [] a.m a.n) in
    both refl c.requires c.put-first.ensures
    (both refl (omega (arith, e, length-append (decimal a.k) (bytes " "), length_three a.opening.now a.k a.m a.n)) c.put_and-second.ensures c.put_two.ensures)
