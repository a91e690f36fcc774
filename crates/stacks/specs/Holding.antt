-- The three sets of stacks of a circuit's gates. Assumes nothing.
use Rattle.std.specs.Prelude.{◌≡◌, List, ℕ, length, replicate}
use Rattle.stacks.specs.declared.StackSet.{StackSet}
use Rattle.stacks.specs.declared.GateStacks.{GateStacks}
use Rattle.stacks.specs.Stacks.{Stacked}

-- a set of so many stacks, all of them empty, with room for 4096 places
pub record IsEmpty (size : ℕ) (s : StackSet) : Type 0 where
  pub tops : s.tops.now ≡ replicate size 0
  pub room : length s.below.now ≡ 4096

-- they hold the first n places of a list
abbrev pub Holds : GateStacks → List ℕ → ℕ → Type 0
Holds s l n = Stacked l n s.sites.tops.now s.targets.tops.now s.controls.tops.now s.sites.below.now s.targets.below.now s.controls.below.now

-- what lies below each place is the same in both
pub record SameBelow (s t : GateStacks) : Type 0 where
  pub sites : t.sites.below.now ≡ s.sites.below.now
  pub targets : t.targets.below.now ≡ s.targets.below.now
  pub controls : t.controls.below.now ≡ s.controls.below.now
