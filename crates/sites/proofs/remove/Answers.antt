-- `remove` stores the row with a digit less, and where that is 0 the targets, too. Assumes nothing.
use Rattle.sites.proofs.Sets.{removed_last, removed_more}
use Rattle.sites.proofs.remove.Goals as goal

pub returns-then-rows-t-eq0 : goal.returns-then-rows-t-eq0
returns-then-rows-t-eq0 c = removed_last _ c.args.t c.args.s c.requires.sites c.requires.t_bound.0 c.requires.t_bound.1 c.requires.has c.if-rows-t-eq0.true

pub returns-else-rows-t-eq0 : goal.returns-else-rows-t-eq0
returns-else-rows-t-eq0 c = removed_more _ c.args.t c.args.s c.requires.sites c.requires.t_bound.0 c.requires.t_bound.1 c.requires.has c.if-rows-t-eq0.false
