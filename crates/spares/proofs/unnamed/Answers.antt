-- `unnamed` finds the lines that the marks of the kept and the named ones leave. Assumes nothing.
use mathlib.Core.Path.{ap, ◌∙◌}
use mathlib.Core.Bool.{Bool}
use mathlib.Core.List.{List, ◌∷◌, ◌++◌}
use native.Mathlib.Omega.{arith}
use lib.ListN.{length}
use Rattle.cascades.specs.Expansion.{mct_spares}
use Rattle.cascades.specs.LineSets.{unpacked}
use Rattle.spares.specs.Marks.{unmarked}
use Rattle.cascades.proofs.Halves.{below_more}
use Rattle.spares.proofs.Marked.{unmarked_outside}
use Rattle.spares.proofs.unnamed.Goals as goal

pub named-requires : goal.named-requires
named-requires c = let a = c.args in record { target_bound = omega arith; below = below_more a.lines 32 a.controls.now c.requires.lines_bound c.requires.below }

pub returns : goal.returns
unfolding mct_spares
returns c =
    let a = c.args in
    let w = c.unmarked_lines.ensures in
    let e = ap (λ (m : List Bool). unmarked a.lines 0 m) c.named.ensures ∙ unmarked_outside a.lines 0 (unpacked 32 0 a.kept ++ (a.target ∷ a.controls.now)) (omega arith) in
    record { starts = w.starts; ends = w.ends ∙ ap length e; are = w.are ∙ e }
