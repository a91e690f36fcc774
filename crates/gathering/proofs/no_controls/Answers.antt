-- `no_controls` has no lines in either list. Assumes nothing.
use Rattle.gathering.specs.Gathering.{no_controls}
use Rattle.gathering.proofs.no_controls.Goals as goal

pub returns : goal.returns
unfolding no_controls
returns c = rw (c.none.ensures, c.none-2.ensures)
