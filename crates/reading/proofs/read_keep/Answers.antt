-- `reading::read_keep` meets its contract. Assumes nothing.
use native.Mathlib.Omega.{arith}
use lib.ListN.{drop}
use Rattle.reading.proofs.Lines.{keep_is, keep_signed, keep_unended, keep_found}
use Rattle.reading.proofs.read_keep.Goals as goal

pub returns-in_err-start : goal.returns-in_err-start
returns-in_err-start c =
    let a = c.args in
    rw (c.from_residual.ensures, keep_is (drop a.at a.s.now), c.in_err-start.ensures)

pub returns-in_err-numbers : goal.returns-in_err-numbers
returns-in_err-numbers c =
    let a = c.args in
    rw (c.from_residual-in_err-numbers.ensures, keep_is (drop a.at a.s.now), c.in_ok-start.ensures.0, c.in_err-numbers.ensures)

pub returns-then-numbers-ne0 : goal.returns-then-numbers-ne0
returns-then-numbers-ne0 c =
    let a = c.args in
    keep_signed a.s.now a.at c.in_ok-numbers.numbers.end c.in_ok-start.ensures.0 c.in_ok-numbers.ensures.0 c.if-numbers-ne0.true

pub returns-in_err-end : goal.returns-in_err-end
returns-in_err-end c =
    let a = c.args in
    rw c.from_residual-in_err-end.ensures (keep_unended a.s.now a.at c.in_ok-numbers.numbers.end c.in_ok-start.ensures.0 c.in_ok-numbers.ensures.0 c.if-numbers-ne0.false c.in_err-end.ensures)

pub returns : goal.returns
returns c =
    let a = c.args in
    let i = c.in_ok-start.ensures in
    let j = c.in_ok-numbers.ensures in
    let k = c.in_ok-end.ensures in
    (keep_found a.s.now a.at c.in_ok-numbers.numbers.end i.0 j.0 c.if-numbers-ne0.false c.in_ok-end.end k.0, (omega (arith, i, j, k), k.2))
