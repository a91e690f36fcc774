-- `unmarked_lines` goes up the lines, and keeps those that have no mark. Assumes nothing.
use mathlib.Core.Path.{◌≡◌}
use mathlib.Core.List.{◌++◌}
use Prim.Native.Nat.{◌-◌, ◌≤◌}
use lib.ListN.{length, take}
use Rattle.spares.specs.Marks.{unmarked}
use Rattle.spares.proofs.unmarked_lines.Given as goal

-- the lines found so far, and those that are still to come
abbrev pub invariant-loop-i : goal.invariant-loop-i
invariant-loop-i l = (length l.found ≡ 32) × (l.count ≤ l.i) × (take l.count l.found ++ unmarked (l.lines - l.i) l.i l.marks ≡ unmarked l.lines 0 l.marks)
