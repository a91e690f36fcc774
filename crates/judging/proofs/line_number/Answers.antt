-- `judging::line_number` meets its contract. Assumes nothing.
use borrow.Author.Tests.{eq-eqb, ne_eqb}
use Rattle.text.specs.Heads.{line_below}
use Rattle.judging.proofs.line_number.Goals as goal

pub returns-then-head-eq0 : goal.returns-then-head-eq0
unfolding line_below
returns-then-head-eq0 c = rw (eq-eqb c.args.head.kept 0 c.if-head-eq0.true)

pub returns : goal.returns
unfolding line_below
returns c = rw (ne_eqb c.args.head.kept 0 c.if-head-eq0.false)
