-- `invert` goes down the gates, and writes the inverse of each behind those of the gates above it. Assumes nothing.
use mathlib.Core.Path.{◌≡◌}
use Prim.Native.Nat.{◌+◌, ◌-◌, ◌≤◌}
use lib.ListN.{length}
use lib.Seq.{slice}
use Rattle.gates.specs.Inverse.{inverse}
use Rattle.gates.specs.Code.{gates}
use Rattle.expansion.specs.Written.{Written}
use Rattle.expansion.proofs.invert.Given as goal

abbrev pub invariant-loop-i : goal.invariant-loop-i
invariant-loop-i l =
    (l.from ≤ l.i) × (l.next ≡ l.at + (l.to - l.i)) × (length l.list ≡ length l.initial.list)
    × Written (inverse (gates (slice l.i l.to l.initial.list))) l.initial.list l.at l.list l.next
