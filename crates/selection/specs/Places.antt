-- A list of gate numbers from which gates are taken, 0 standing where one has been taken: what is left, the lines of a gate, and the gates in
-- front. Assumes nothing.
use Rattle.std.specs.Prelude.{◌≡◌, ◌≢◌, List, [], ◌∷◌, ℕ, zero, suc, ◌+◌, ◌/◌, ◌%◌, ◌≤◌, ◌<◌, length, get_or}
use Rattle.gates.specs.Code.{Code}
use Rattle.selection.specs.declared.Kind.{Kind}
use Rattle.selection.specs.declared.Kind.TheVariants.{Target, Control}

-- what is left of the numbers
abbrev pub rest : List ℕ → List ℕ
rest [] = []
rest (zero ∷ l) = rest l
rest (suc k ∷ l) = suc k ∷ rest l

-- what is left are numbers of gates, at most 4,096
pub record Numbers (l : List ℕ) (r : ℕ) : Type 0 where
  pub size : length l ≡ r
  pub few : r ≤ 4096
  pub code : (i : ℕ) → get_or l i 0 ≢ 0 → Code 32 (get_or l i 0)

-- the other kind of use
abbrev pub opposite : Kind → Kind
opposite Target = Control
opposite Control = Target

-- the line of the gate of number k, its target's or its control's, as a slot: line c is c + 1, and 0 is no line
abbrev pub line : Kind → ℕ → ℕ
line Target k = k / 132 + 1
line Control k = k / 4 % 33

-- the gate at place i is left and passes all left before it: none of them has its target as control, none its control as target
pub record InFront (l : List ℕ) (i : ℕ) : Type 0 where
  pub left : get_or l i 0 ≢ 0
  pub there : (j : ℕ) → j < i → get_or l j 0 ≢ 0 → line Control (get_or l j 0) ≢ line Target (get_or l i 0)
  pub back : (j : ℕ) → j < i → get_or l j 0 ≢ 0 → line Target (get_or l j 0) ≢ line Control (get_or l i 0)

-- no two of one site are in front
abbrev pub Single : List ℕ → Type 0
Single l = (i j : ℕ) → InFront l i → InFront l j → get_or l i 0 / 4 ≡ get_or l j 0 / 4 → i ≡ j
