-- The reduced list of a circuit (document 01). It is defined by what holds of it: nothing here runs a reduction. Assumes nothing.
use Rattle.std.specs.Prelude.{◌≡◌, List, ℕ, ◌≤◌, length}
use Rattle.gates.specs.declared.Gate.{Gate}
use Rattle.gates.specs.Circuit.{Linked}
use Rattle.gates.specs.Order.{◌≼◌}

-- r is a "reduced list" of the circuit c on n lines: of all circuits linked to c, one with the fewest gates, and among those the first in
-- dictionary order
pub record Reduced (n : ℕ) (c r : List Gate) : Type 0 where
  pub linked : Linked n c r
  pub fewest : (d : List Gate) → Linked n c d → length r ≤ length d
  pub first : (d : List Gate) → Linked n c d → length r ≡ length d → r ≼ d
