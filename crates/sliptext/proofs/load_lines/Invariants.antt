-- `load_lines` has read the lines before `at`, and kept the numbers of their k steps. Assumes nothing.
use Prim.Native.Nat.{◌-◌, ◌≤◌}
use lib.ListN.{length}
use Rattle.sliptext.proofs.Kept.{Kept}
use Rattle.sliptext.proofs.load_lines.Given as goal

abbrev pub invariant-loop-at : goal.invariant-loop-at
invariant-loop-at l = Kept l.s l.steps l.at l.k × (l.at ≤ length l.s) × (l.k ≤ 4096)

abbrev pub decreases-loop-at : goal.decreases-loop-at
decreases-loop-at l = length l.s - l.at
