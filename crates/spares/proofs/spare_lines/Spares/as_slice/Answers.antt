-- `as_slice` lends the lines from `first` up to `end`. Assumes nothing.
use Rattle.std.proofs.lemmas.Slice.{between_is}
use Rattle.spares.specs.Spares.{listed}
use Rattle.spares.proofs.spare_lines.Spares.as_slice.Goals as goal

pub returns : goal.returns
unfolding listed
returns c = let s = c.args.self.now in between_is s.lines s.first s.end
