-- `insert` stores the row and the targets, each with a digit more. Assumes nothing.
use Rattle.sites.proofs.Sets.{inserted}
use Rattle.sites.proofs.insert.Goals as goal

pub returns : goal.returns
returns c = inserted _ c.args.t c.args.s c.requires.sites c.requires.t_bound.0 c.requires.t_bound.1
