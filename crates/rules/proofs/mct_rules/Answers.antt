-- `rules::mct_rules` meets its contract. Assumes nothing.
use mathlib.Core.Path.{◌≡◌}
use mathlib.Core.Bool.{◌||◌}
use lib.Dec.{leb}
use Rattle.rules.proofs.Rules.{mct_tried, either_first, either_second}
use Rattle.rules.proofs.mct_rules.Goals as goal
use Rattle.rules.proofs.mct_rules.Goals.{then-n-t, else-n-t}

pub returns : goal.returns
returns c = λ cs l q e.
    let n = c.args.head.lines in
    let o : c.if-n-t.outside ≡ (leb n c.args.t || leb n c.args.a.largest) =
    elim c.if-n-t.branch [ then-n-t w ↦ either_first n c.args.t c.args.a.largest w.if-n-t.true w.outside-is | else-n-t w ↦ either_second n c.args.t c.args.a.largest w.if-n-t.false w.outside-is ] in
    rw c.try_rules.ensures (mct_tried c.args.head cs c.args.t c.args.before l c.args.total c.args.a c.requires.le_lines.0 c.requires.le_lines.1 q e
    o c.marked-crossed.ensures c.no_spare-spareless.ensures c.too_many-many.ensures)
