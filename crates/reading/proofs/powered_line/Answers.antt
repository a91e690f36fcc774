-- `reading::powered_line` meets its contract. Assumes nothing.
use Rattle.reading.specs.Seen.{powered_after}
use Rattle.reading.proofs.powered_line.Goals as goal

pub returns-in_err-lines : goal.returns-in_err-lines
unfolding powered_after
returns-in_err-lines c =
    rw (c.from_residual.ensures, c.in_err-lines.ensures)

pub returns : goal.returns
unfolding powered_after
returns c =
    let i = c.in_ok-lines.ensures in
    (rw i.0, i.1)
