-- `reading::control_number` meets its contract. Assumes nothing.
use lib.ListN.{drop}
use Rattle.reading.proofs.Lines.{followed_delimited}
use Rattle.reading.proofs.control_number.Goals as goal

pub returns-in-Some : goal.returns-in-Some
returns-in-Some c =
    let a = c.args in
    let i = c.in-Some.ensures in
    (rw (followed_delimited a.negated (drop a.at a.s.now), i.0), i.1)

pub returns-in_err-line : goal.returns-in_err-line
returns-in_err-line c =
    let a = c.args in
    let i = rw c.in_default.is at c.delimited_number.ensures in
    rw (c.from_residual.ensures, followed_delimited a.negated (drop a.at a.s.now), i, c.in_err-line.ensures)

pub returns : goal.returns
returns c =
    let a = c.args in
    let i = rw c.in_default.is at c.delimited_number.ensures in
    let j = c.in_ok-line.ensures in
    (rw (followed_delimited a.negated (drop a.at a.s.now), i, j.0), j.1)
