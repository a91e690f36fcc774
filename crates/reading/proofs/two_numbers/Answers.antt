-- `reading::two_numbers` meets its contract. Assumes nothing.
use native.Mathlib.Omega.{arith}
use lib.ListN.{drop}
use Rattle.reading.proofs.Lines.{two_delimited}
use Rattle.reading.proofs.two_numbers.Goals as goal

pub returns-in_err-c : goal.returns-in_err-c
returns-in_err-c c =
    let a = c.args in
    rw (c.from_residual.ensures, two_delimited a.w.now (drop a.at a.s.now), c.in_err-c.ensures)

pub returns-in_err-t : goal.returns-in_err-t
returns-in_err-t c =
    let a = c.args in
    rw (c.from_residual-in_err-t.ensures, two_delimited a.w.now (drop a.at a.s.now), c.in_ok-c.ensures.0, c.in_err-t.ensures)

pub returns : goal.returns
returns c =
    let a = c.args in
    let i = c.in_ok-c.ensures in
    let j = c.in_ok-t.ensures in
    (rw (two_delimited a.w.now (drop a.at a.s.now), i.0, j.0), (omega (arith, i, j), omega (arith, j)))
