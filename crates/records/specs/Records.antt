-- What a job leaves in the gate records lent to it (document 01, "Lent memory and the ten numbers"): first the gates of its codes,
-- then `not 0`; where no record is written the list stays as it was. Assumes nothing.
use Rattle.std.specs.Prelude.{List, ◌++◌, map, ℕ, ◌-◌, ◌≤◌, length, take, drop, replicate}
use Rattle.gates.specs.declared.Gate.{Gate}
use Rattle.gates.specs.declared.Gate.TheVariants.{Not}
use Rattle.gates.specs.Code.{gates, AllCodes}
use Rattle.records.specs.declared.Filling.{Filling}

-- the number of `not 0`
abbrev pub not_0 : ℕ
not_0 = 2

-- so many records: those of the codes, and `not 0` in every later one, where `of` is what stands for the gate of a code
abbrev pub padded : {A : Type 0} → (ℕ → A) → List ℕ → ℕ → List A
padded of codes room = map of (codes ++ replicate (room - length codes) not_0)

-- the first `limit` records: the gates of the first `count` codes, and `not 0` in every later one
abbrev pub front : List ℕ → ℕ → ℕ → List Gate
front codes count limit = gates (take count codes) ++ replicate (limit - count) (Not 0)

-- a list after its first `limit` records are written: the rest is as it was
abbrev pub written : List ℕ → ℕ → ℕ → List Gate → List Gate
written codes count limit l = front codes count limit ++ drop limit l

-- a list after a job has handed f over for it
abbrev pub filled_by : Filling → List Gate → List Gate
filled_by f l = written f.codes f.gates f.limit l

-- what a job hands over can be written into a list of `room` records
pub record Fits (f : Filling) (room : ℕ) : Type 0 where
  pub there : f.gates ≤ 4096
  pub valid : AllCodes 32 (take f.gates f.codes)
  pub few : f.gates ≤ f.limit
  pub within : f.limit ≤ room
