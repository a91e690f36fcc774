-- `rules::gate_rules` meets its contract. Assumes nothing.
use mathlib.Core.Path.{◌≡◌}
use mathlib.Core.Bool.{◌||◌}
use lib.Dec.{leb}
use Rattle.rules.proofs.Rules.{not_rules, powered_rules, either_first, either_second}
use Rattle.rules.proofs.gate_rules.Goals as goal
use Rattle.rules.proofs.gate_rules.Goals.{then-n-t, else-n-t}

pub returns-in-Not : goal.returns-in-Not
returns-in-Not c = λ l e.
    let a = c.args in
    rw (c.try_rules.ensures, c.in-Not.is) (not_rules a.head _ a.before l e)

pub returns-after-n-t : goal.returns-after-n-t
returns-after-n-t c = λ l e.
    let a = c.args in
    let n = a.head.lines in
    let x = c.in-Powered.t in
    let y = c.in-Powered.c in
    let o : c.if-n-t.try_rules ≡ (leb n x || leb n y) =
    elim c.if-n-t.branch [ then-n-t w ↦ either_first n x y w.if-n-t.true w.try_rules-is | else-n-t w ↦ either_second n x y w.if-n-t.false w.try_rules-is ] in
    rw (c.try_rules-in-Powered.ensures, c.in-Powered.is, o) (powered_rules a.head _ _ _ a.before l e)
