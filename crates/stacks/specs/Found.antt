-- The partner of a gate among the first places of a list. Assumes nothing.
use Rattle.std.specs.Prelude.{List, ℕ, ◌%◌, ◌≤◌, ◌<◌, length, take, get_or, Option, Some, None}
use Rattle.gates.specs.Code.{gate, gates}
use Rattle.partners.specs.Partner.{Brought, NoPartner}
use Rattle.stacks.specs.Remaining.{remaining}

-- the gate at place j is the partner of g in the circuit that remains of the first n: its place there is the number of gates that remain before j
pub record PartnerAt (l : List ℕ) (n g j : ℕ) : Type 0 where
  pub inside : j < n
  pub there : 1 ≤ get_or l j 0 % 4
  pub brought : Brought (gates (remaining (take n l))) (gate g) (length (remaining (take j l)))

-- where the partner of g stands among the first n; none if the circuit that remains of them has none
abbrev pub Found : List ℕ → ℕ → ℕ → Option ℕ → Type 0
Found l n g (Some j) = PartnerAt l n g j
Found l n g None = NoPartner (gates (remaining (take n l))) (gate g)
