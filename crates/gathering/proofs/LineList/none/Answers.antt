-- `LineList::none` has no lines. Assumes nothing.
use mathlib.Core.Path.{refl}
use Rattle.gathering.specs.Gathering.{no_lines}
use Rattle.gathering.proofs.LineList.none.Goals as goal

pub returns : goal.returns
unfolding no_lines
returns c = refl
