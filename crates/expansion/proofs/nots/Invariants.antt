-- `nots` writes one NOT after the other. Assumes nothing.
use mathlib.Core.Path.{◌≡◌}
use Prim.Native.Nat.{◌+◌}
use lib.ListN.{length, take}
use Rattle.cascades.specs.Signs.{nots as nots_on}
use Rattle.expansion.specs.Written.{Written}
use Rattle.expansion.proofs.nots.Given as goal

abbrev pub invariant-loop-line : goal.invariant-loop-line
invariant-loop-line l =
    (l.next ≡ l.at + l.line-index) × (length l.list ≡ length l.initial.list) × Written (nots_on (take l.line-index l.lines)) l.initial.list l.at l.list l.next
