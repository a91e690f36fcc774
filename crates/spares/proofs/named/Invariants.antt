-- `named` marks the target, beside the kept lines, and then one control after the other. Assumes nothing.
use mathlib.Core.Path.{◌≡◌}
use mathlib.Core.List.{◌∷◌, ◌++◌}
use lib.ListN.{length, drop}
use Rattle.cascades.specs.LineSets.{unpacked}
use Rattle.spares.specs.Marks.{mark, marks as marks_of}
use Rattle.spares.proofs.named.Given as goal

abbrev pub invariant-loop-c : goal.invariant-loop-c
invariant-loop-c l = (length l.marks ≡ 32) × (mark l.marks (drop l.c-index l.controls) ≡ marks_of (unpacked 32 0 l.kept ++ (l.target ∷ l.controls)))
