-- `unmarked_lines` goes up the lines, and keeps those that have no mark. Assumes nothing.
use mathlib.Core.Path.{refl, sym, ap, ◌∙◌}
use native.Mathlib.Omega.{arith}
use lib.ListN.{length}
use lib.Seq.{length-take-le}
use Rattle.spares.specs.Spares.{listed}
use Rattle.spares.proofs.Marked.{found_here, found_later, found_all}
use Rattle.spares.proofs.unmarked_lines.Goals as goal
use Rattle.std.proofs.lemmas.Grind.{common_steps}

pub loop-i-preserved : goal.loop-i-preserved
loop-i-preserved c = grind (arith, common_steps, found_here, found_later)

pub returns : goal.returns
unfolding listed
returns c =
    let a = c.args in
    let l = c.loop-i in
    let e = found_all a.lines l.i l.count a.marks l.found (omega arith) l.invariant.2 in
    record { starts = refl; ends = sym (length-take-le l.count l.found (omega arith)) ∙ ap length e; are = e }
