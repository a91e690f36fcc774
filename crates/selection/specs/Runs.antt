-- The uses of a line, as target or as control, come in runs of one kind, and of each line one run is open: `opened` has, for each line, the first
-- place whose use of it is not open, and `running` how many gates that use it are left before that place. Assumes nothing.
use Rattle.std.specs.Prelude.{◌≡◌, ◌≢◌, List, [], ◌∷◌, ℕ, zero, suc, ◌+◌, ◌≤◌, ◌<◌, length, get_or}
use Rattle.std.proofs.Math.Decide.{ℕ_discrete}
use Rattle.selection.specs.declared.Kind.{Kind}
use Rattle.selection.specs.declared.Kind.TheVariants.{Target, Control}
use Rattle.selection.specs.Places.{line}

-- ---- uses of a line

-- neither line of the gate of number k is y
abbrev pub Off : ℕ → ℕ → Type 0
Off k y = (b : Kind) → line b k ≢ y

-- the gate at place q is left, and y is its line of this kind
pub record Uses (l : List ℕ) (y q : ℕ) : Type 0 where
  pub left : get_or l q 0 ≢ 0
  pub kind : Kind
  pub own : line kind (get_or l q 0) ≡ y

-- q is the first use of line y from place p on, or r if there is none
pub record NextUse (l : List ℕ) (r y p q : ℕ) : Type 0 where
  pub from : p ≤ q
  pub within : q ≤ r
  pub gap : (j : ℕ) → p ≤ j → j < q → get_or l j 0 ≢ 0 → Off (get_or l j 0) y
  pub found : q < r → Uses l y q

-- `next` has, for each gate whose use of its line of this kind is not open, the next use of that line
abbrev pub NextUses : List ℕ → ℕ → List ℕ → Kind → List ℕ → Type 0
NextUses l r opened b next = (p : ℕ) → get_or l p 0 ≢ 0 → get_or opened (line b (get_or l p 0)) 0 ≤ p → NextUse l r (line b (get_or l p 0)) (suc p) (get_or next p 0)

-- ---- how many are left

-- 1 if one of two things holds, else 0
unfoldable pub either : {A B : Type 0} → Dec A → Dec B → ℕ
either (yes a) d = 1
either (no a) (yes b) = 1
either (no a) (no b) = 0

-- 1 if a number is that of a gate on line y, else 0
unfoldable pub use_of : ℕ → ℕ → ℕ
use_of y zero = 0
use_of y (suc k) = either (ℕ_discrete (line Target (suc k)) y) (ℕ_discrete (line Control (suc k)) y)

-- how many gates on line y are left before place h
unfoldable pub number : ℕ → List ℕ → ℕ → ℕ
number y [] h = 0
number y (k ∷ l) zero = 0
number y (k ∷ l) (suc h) = use_of y k + number y l h

-- ---- runs

-- of the gates left before place h, none has line y as target where one has it as control
abbrev pub Alike : List ℕ → ℕ → ℕ → Type 0
Alike l y h = (i j : ℕ) → i < h → j < h → get_or l i 0 ≢ 0 → get_or l j 0 ≢ 0 → line Target (get_or l i 0) ≡ y → line Control (get_or l j 0) ≡ y → ⊥

-- line y is open up to place h, where the next use of it stands, if any is left
pub record Open (l : List ℕ) (r y h : ℕ) : Type 0 where
  pub within : h ≤ r
  pub found : h < r → Uses l y h
  pub alike : Alike l y h

-- each line is open up to its place, and its count is right
pub record Lines (l : List ℕ) (r : ℕ) (opened running : List ℕ) : Type 0 where
  pub places : length opened ≡ 33
  pub counts : length running ≡ 33
  pub each : (y : ℕ) → y < 33 → Open l r y (get_or opened y 0)
  pub count : (y : ℕ) → y < 33 → get_or running y 0 ≡ number y l (get_or opened y 0)

-- the use of line y at place h is of another kind than those left before it
abbrev pub Differs : List ℕ → ℕ → ℕ → Type 0
Differs l y h = (b : Kind) → line b (get_or l h 0) ≡ y → (j : ℕ) → j < h → get_or l j 0 ≢ 0 → line b (get_or l j 0) ≢ y

-- where a use of line y is not open, it is of another kind than the open ones, of which one is left
abbrev pub Whole : List ℕ → ℕ → List ℕ → List ℕ → ℕ → Type 0
Whole l r opened running y = get_or opened y 0 < r → (get_or running y 0 ≢ 0) × Differs l y (get_or opened y 0)
