-- `nots` writes one NOT after the other. Assumes nothing.
use mathlib.Core.Path.{refl}
use native.Mathlib.Omega.{arith}
use borrow.Author.Rules.{rules}
use Rattle.cascades.specs.Signs.{nots as nots_on}
use Rattle.expansion.proofs.Writing.{none}
use Rattle.expansion.proofs.Signed.{more}
use Rattle.expansion.proofs.nots.Goals as goal

pub loop-line-init : goal.loop-line-init
unfolding nots_on
loop-line-init c = let a = c.args in (omega arith, refl, none a.list.now a.at)

pub loop-line-preserved : goal.loop-line-preserved
loop-line-preserved c = let m = more c.args.lines.now (omega arith) c.loop-line.invariant.2 c.put-next.ensures in search (rules, m)
