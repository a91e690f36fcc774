-- What it means that gates are written into a list of their numbers. Assumes nothing.
use Rattle.std.specs.Prelude.{◌≡◌, List, ◌++◌, map, ℕ, ◌+◌, length, take, drop}
use Rattle.gates.specs.declared.Gate.{Gate}
use Rattle.gates.specs.Code.{code}

-- the gates' numbers stand in the list from i up to j, and all before and after them is as it was
pub record Written (gates : List Gate) (before : List ℕ) (i : ℕ) (after : List ℕ) (j : ℕ) : Type 0 where
  pub count : j ≡ i + length gates
  pub front : take j after ≡ take i before ++ map code gates
  pub rest : drop j after ≡ drop j before
