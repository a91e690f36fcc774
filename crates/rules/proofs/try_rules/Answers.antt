-- `rules::try_rules` meets its contract. Assumes nothing.
use Rattle.text.specs.Judging.{first}
use Rattle.rules.proofs.try_rules.Goals as goal

pub returns-then-outside : goal.returns-then-outside
unfolding first
returns-then-outside c = rw c.if-outside.true

pub returns-then-crossed : goal.returns-then-crossed
unfolding first
returns-then-crossed c = rw (c.if-outside.false, c.if-crossed.true)

pub returns-then-not-rising : goal.returns-then-not-rising
unfolding first
returns-then-not-rising c = rw (c.if-outside.false, c.if-crossed.false, c.if-not-rising.true)

pub returns-then-spareless : goal.returns-then-spareless
unfolding first
returns-then-spareless c = rw (c.if-outside.false, c.if-crossed.false, c.if-not-rising.false, c.if-spareless.true)

pub returns-then-wide : goal.returns-then-wide
unfolding first
returns-then-wide c = rw (c.if-outside.false, c.if-crossed.false, c.if-not-rising.false, c.if-spareless.false, c.if-wide.true)

pub returns-then-many : goal.returns-then-many
unfolding first
returns-then-many c = rw (c.if-outside.false, c.if-crossed.false, c.if-not-rising.false, c.if-spareless.false, c.if-wide.false, c.if-many.true)

pub returns : goal.returns
unfolding first
returns c = rw (c.if-outside.false, c.if-crossed.false, c.if-not-rising.false, c.if-spareless.false, c.if-wide.false, c.if-many.false)
