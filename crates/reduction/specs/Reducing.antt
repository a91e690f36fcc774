-- What reducing the gates in the first part of a slice leaves there. Assumes nothing.
use Rattle.std.specs.Prelude.{◌≡◌, List, ◌++◌, ℕ, ◌-◌, ◌≤◌, take, drop, replicate}
use Rattle.gates.specs.Circuit.{AllValid}
use Rattle.gates.specs.Reduced.{Reduced}
use Rattle.gates.specs.Code.{gates, AllCodes}

-- the first m reduced: on whatever number of lines they are a circuit, the first r are then its reduced list; the places from there up to m
-- are 0, and those from m on are as they were
pub record ReducedTo (entry : List ℕ) (m r : ℕ) (exit : List ℕ) : Type 0 where
  pub reduced : (k : ℕ) → AllValid k (gates (take m entry)) → Reduced k (gates (take m entry)) (gates (take r exit))
  pub within : r ≤ m
  pub codes : AllCodes 32 (take r exit)
  pub rest : drop r exit ≡ replicate (m - r) 0 ++ drop m entry
