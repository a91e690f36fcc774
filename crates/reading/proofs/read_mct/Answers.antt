-- `reading::read_mct` meets its contract. Assumes nothing.
use native.Mathlib.Omega.{arith}
use lib.ListN.{drop}
use Rattle.reading.proofs.Lines.{mct_is}
use Rattle.reading.proofs.read_mct.Goals as goal

pub returns-in_err-start : goal.returns-in_err-start
returns-in_err-start c =
    let a = c.args in
    rw (c.from_residual.ensures, mct_is (drop a.at a.s.now), c.in_err-start.ensures)

pub returns-in_err-controls : goal.returns-in_err-controls
returns-in_err-controls c =
    let a = c.args in
    rw (c.from_residual-in_err-controls.ensures, mct_is (drop a.at a.s.now), c.in_ok-start.ensures.0, c.in_err-controls.ensures)

pub returns-in_err-target : goal.returns-in_err-target
returns-in_err-target c =
    let a = c.args in
    rw (c.from_residual-in_err-target.ensures, mct_is (drop a.at a.s.now), c.in_ok-start.ensures.0, c.in_ok-controls.ensures.0, c.in_err-target.ensures)

pub returns : goal.returns
returns c =
    let a = c.args in
    let i = c.in_ok-start.ensures in
    let j = c.in_ok-controls.ensures in
    let k = c.in_ok-target.ensures in
    (rw (mct_is (drop a.at a.s.now), i.0, j.0, k.0), (omega (arith, i, j, k), k.1.1))
