-- What one step leaves among the first places of a list, and what merging all gates with their partners leaves. Assumes nothing.
use Rattle.std.specs.Prelude.{◌≡◌, List, [], ◌++◌, ℕ, ◌+◌, ◌%◌, ◌≤◌, ◌<◌, take, drop, get_or}
use Rattle.gates.specs.Code.{gate, gates, Code, AllCodes}
use Rattle.partners.specs.Steps.{Leaves, Turns}
use Rattle.stacks.specs.Remaining.{kept, remaining}

-- each of the first n that is still there is the number of a gate
abbrev pub Codes : List ℕ → ℕ → Type 0
Codes l n = (j : ℕ) → j < n → 1 ≤ get_or l j 0 % 4 → Code 32 (get_or l j 0)

-- g has merged with its partner among the first n, or is pushed at place n: one step on the circuit that remains, now of the first r
pub record Stepped (entry : List ℕ) (n g r : ℕ) (exit : List ℕ) : Type 0 where
  pub leaves : Leaves (gates (remaining (take n entry))) (gate g) (gates (remaining (take r exit)))
  pub within : r ≤ n + 1
  pub codes : Codes exit r
  pub rest : drop (n + 1) exit ≡ drop (n + 1) entry

-- x put at place r, if it is still there
pub record Kept (entry : List ℕ) (r x r' : ℕ) (exit : List ℕ) : Type 0 where
  pub front : take r' exit ≡ take r entry ++ kept x
  pub within : r' ≤ r + 1
  pub rest : drop (r + 1) exit ≡ drop (r + 1) entry

-- the gaps of the first n closed: the first r are what remains
pub record Closed (entry : List ℕ) (n r : ℕ) (exit : List ℕ) : Type 0 where
  pub front : take r exit ≡ remaining (take n entry)
  pub within : r ≤ n
  pub rest : drop n exit ≡ drop n entry

-- the first m gates, each in turn merged with its partner or left at the end: the first r are what is left
pub record MergedTo (entry : List ℕ) (m r : ℕ) (exit : List ℕ) : Type 0 where
  pub turns : Turns [] (gates (take m entry)) (gates (take r exit))
  pub within : r ≤ m
  pub codes : AllCodes 32 (take r exit)
  pub rest : drop m exit ≡ drop m entry
