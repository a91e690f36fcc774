-- `rules::too_many` meets its contract. Assumes nothing.
use native.Mathlib.Omega.{arith}
use Rattle.rules.proofs.Rules.{over_full, over_wide, over_table, few_gates}
use Rattle.rules.proofs.too_many.Goals as goal

pub returns-then-before-ge256 : goal.returns-then-before-ge256
returns-then-before-ge256 c = let a = c.args in over_full a.before a.total a.k a.negated c.if-before-ge256.true

pub returns-then-k-gt15 : goal.returns-then-k-gt15
returns-then-k-gt15 c = let a = c.args in over_wide a.before a.total a.k a.negated (omega (arith, c.if-before-ge256.false)) c.if-k-gt15.true

pub overflow_add-result : goal.overflow_add-result
overflow_add-result c = record { fits = omega (arith, few_gates c.args.k (omega (arith, c.if-k-gt15.false)), c.count.ensures, c.requires.0) }

pub overflow_mul-result : goal.overflow_mul-result
overflow_mul-result c = record { fits = omega (arith, c.if-k-gt15.false, c.requires.1) }

pub overflow_add-result-2 : goal.overflow_add-result-2
overflow_add-result-2 c = record { fits = omega (arith, few_gates c.args.k (omega (arith, c.if-k-gt15.false)), c.count.ensures, c.if-k-gt15.false, c.requires.0, c.requires.1) }

pub returns : goal.returns
returns c = let a = c.args in rw c.count.ensures (over_table a.before a.total a.k a.negated (omega (arith, c.if-before-ge256.false)) (omega (arith, c.if-k-gt15.false)))
