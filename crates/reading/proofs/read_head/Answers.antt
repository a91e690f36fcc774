-- `reading::read_head` meets its contract. Assumes nothing.
use lib.ListN.{drop}
use Rattle.reading.proofs.Lines.{head_is}
use Rattle.reading.proofs.read_head.Goals as goal

pub returns-in_err-n : goal.returns-in_err-n
returns-in_err-n c =
    let a = c.args in
    rw (c.from_residual.ensures, head_is (drop a.at a.s.now), c.in_err-n.ensures)

pub returns : goal.returns
returns c =
    let a = c.args in
    let i = c.in_ok-n.ensures in
    (rw (head_is (drop a.at a.s.now), i.0), i.1)
