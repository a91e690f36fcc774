-- `unpacked_marks` goes up the lines, and marks those whose digit is 1. Assumes nothing.
use mathlib.Core.Path.{◌≡◌}
use mathlib.Core.Bool.{false}
use Prim.Native.Nat.{ℕ, ◌-◌, ◌≤◌, ◌<◌}
use lib.ListN.{length, get_or}
use Rattle.cascades.specs.LineSets.{unpacked}
use Rattle.spares.specs.Marks.{mark, marks as marks_of}
use Rattle.spares.proofs.unpacked_marks.Given as goal

abbrev pub invariant-loop-mark : goal.invariant-loop-mark
invariant-loop-mark l =
    (length l.mark-items ≡ 32) × (mark l.mark-items (unpacked (32 - l.mark-index) l.mark-index l.rest) ≡ marks_of (unpacked 32 0 l.set))
    × ((k : ℕ) → l.mark-index ≤ k → k < 32 → get_or l.mark-items k false ≡ false)
