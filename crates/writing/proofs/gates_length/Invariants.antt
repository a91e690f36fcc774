-- `gates_length` sums the lengths of the lines. The invariant: the total is the length of the lines of the codes so far, at most 16 for each.
-- Assumes nothing.
use mathlib.Core.Path.{◌≡◌}
use Prim.Native.Nat.{◌*◌, ◌≤◌}
use lib.ListN.{length, take}
use Rattle.writing.specs.Written.{gate_lines}
use Rattle.writing.proofs.gates_length.Given as goal

abbrev pub invariant-loop-code : goal.invariant-loop-code
invariant-loop-code l = (l.total ≡ length (gate_lines (take l.code-index l.codes))) × (l.total ≤ 16 * l.code-index)
