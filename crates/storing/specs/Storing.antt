-- A gate list as numbers, and what stands in it after a job has handed something over for it. Assumes nothing.
use Rattle.std.specs.Prelude.{List, ◌++◌, ℕ, ◌-◌, take, drop, replicate}
use Rattle.records.specs.declared.Filling.{Filling}

-- the number of `not 0`
abbrev pub not_0 : ℕ
not_0 = 2

-- the first `limit` records: the first `count` codes, and `not 0` in every later one
abbrev pub front : List ℕ → ℕ → ℕ → List ℕ
front ks count limit = take count ks ++ replicate (limit - count) not_0

-- a list after its first `limit` records are written: the rest is as it was
abbrev pub written : List ℕ → ℕ → ℕ → List ℕ → List ℕ
written ks count limit l = front ks count limit ++ drop limit l

-- a list after a job has handed f over for it
abbrev pub stored : Filling → List ℕ → List ℕ
stored f l = written f.codes f.gates f.limit l
