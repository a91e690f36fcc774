-- `rules::no_spare` meets its contract. Assumes nothing.
use mathlib.Core.Path.{◌∙◌}
use native.Mathlib.Omega.{arith}
use Rattle.rules.proofs.Rules.{spare_few, spare_test}
use Rattle.rules.proofs.no_spare.Goals as goal

pub returns-then-k-lt3 : goal.returns-then-k-lt3
returns-then-k-lt3 c = spare_few c.args.k _ (omega (arith, c.if-k-lt3.true))

pub returns : goal.returns
returns c = c.none_left.ensures ∙ spare_test c.args.k _ (omega (arith, c.if-k-lt3.false))
