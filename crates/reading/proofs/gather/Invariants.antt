-- `reading::gather` meets its contract. Assumes nothing.
use mathlib.Core.Path.{◌≡◌}
use Prim.Native.Nat.{ℕ, ◌-◌, ◌≤◌}
use lib.ListN.{length, drop}
use Rattle.text.specs.Reading.{controls}
use Rattle.reading.specs.Seen.{all_gathered}
use Rattle.reading.proofs.Gathering.{rest}
use Rattle.reading.proofs.gather.Given as goal

abbrev pub invariant-loop-c : goal.invariant-loop-c
invariant-loop-c l = (l.at ≤ l.p) × (l.p ≤ length l.s) × (l.sum.lines.count ≤ l.p) × (l.sum.negated.count ≤ l.p) × ((k : ℕ) × (length l.s - l.p ≤ k) × (all_gathered (controls (length (drop l.at l.s)) (drop l.at l.s)) ≡ rest l.s l.sum k l.p))

abbrev pub decreases-loop-c : goal.decreases-loop-c
decreases-loop-c l = length l.s - l.p
