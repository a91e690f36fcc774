-- `tokens::delimited_number` meets its contract. Assumes nothing.
use native.Mathlib.Omega.{arith}
use Rattle.tokens.specs.Seen.{delimited}
use Rattle.tokens.proofs.delimited_number.Goals as goal

pub returns-in_err-start : goal.returns-in_err-start
unfolding delimited
returns-in_err-start c =
    rw (c.from_residual.ensures, c.in_err-start.ensures)

pub returns-in_err-number : goal.returns-in_err-number
unfolding delimited
returns-in_err-number c =
    rw (c.from_residual-in_err-number.ensures, c.in_ok-start.ensures.0, c.in_err-number.ensures)

pub returns-in_err-end : goal.returns-in_err-end
unfolding delimited
returns-in_err-end c =
    rw (c.from_residual-in_err-end.ensures, c.in_ok-start.ensures.0, c.in_ok-number.ensures.0, c.in_err-end.ensures)

pub returns : goal.returns
unfolding delimited
returns c =
    let i = c.in_ok-start.ensures in
    let j = c.in_ok-number.ensures in
    let k = c.in_ok-end.ensures in
    (rw (i.0, j.0, k.0), (omega (arith, i, j, k), omega (arith, k)))
