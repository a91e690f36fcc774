-- `more_digits` has read the digits before `end`. Assumes nothing.
use mathlib.Core.Path.{◌≡◌}
use Prim.Native.Nat.{◌+◌, ◌-◌, ◌≤◌, ◌<◌}
use lib.ListN.{length, drop}
use Rattle.sliptext.specs.SlipText.{more}
use Rattle.sliptext.proofs.Printed.{ten}
use Rattle.sliptext.proofs.more_digits.Given as goal

abbrev pub invariant-loop-end : goal.invariant-loop-end
invariant-loop-end l = (more 3 l.first (drop (l.at + 1) l.s) ≡ more (l.at + 4 - l.end) l.value (drop l.end l.s)) × (l.end ≤ length l.s) × (l.value < ten (l.end - (l.at + 1)))
