-- Bytes written into a part of lent bytes, the other bytes unchanged; and the lines of gate codes. Assumes nothing.
use Rattle.std.specs.Prelude.{◌≡◌, List, ◌++◌, map, ℕ, ◌+◌, length, take, drop}
use Rattle.gates.specs.Code.{gates}
use Rattle.text.specs.Text.{gate, rendered}

-- the bytes l with w in the place of what stands from `at` on
unfoldable pub written : List ℕ → ℕ → List ℕ → List ℕ
written l at w = take at l ++ (w ++ drop (at + length w) l)

-- of the bytes before, w written at `at` makes the bytes after, and next is the place behind w
pub record Puts (before after : List ℕ) (at next : ℕ) (w : List ℕ) : Type 0 where
  pub place : next ≡ at + length w
  pub bytes : after ≡ written before at w

-- the lines of a circuit text after its first: a line for each gate
unfoldable pub gate_lines : List ℕ → List ℕ
gate_lines l = rendered (map gate (gates l))
