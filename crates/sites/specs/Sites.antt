-- A set of sites, a site being a number below 1056 = 32 * 33 (target * 33 + slot), in 33 numbers: for each target a row, with a binary digit
-- for each slot, and last the targets, with a digit for each target whose row is not empty. Assumes nothing.
use Rattle.std.specs.Prelude.{◌≡◌, ◌≢◌, List, ℕ, zero, suc, ◌+◌, ◌*◌, ◌/◌, ◌%◌, ◌^◌, ◌<◌, length, get_or}

-- the binary digit i of m, the lowest being digit 0
unfoldable pub digit : ℕ → ℕ → ℕ
digit zero m = m % 2
digit (suc i) m = digit i (m / 2)

-- the row of a target; at 32, the targets
abbrev pub row : List ℕ → ℕ → ℕ
row rows t = get_or rows t 0

-- the site x is in the set
abbrev pub Has : List ℕ → ℕ → Type 0
Has rows x = digit (x % 33) (row rows (x / 33)) ≡ 1

-- the numbers are those of a set: rows of 33 digits, and the targets of the rows that are not empty
pub record Sites (rows : List ℕ) : Type 0 where
  pub length_is : length rows ≡ 33
  pub slots : (t : ℕ) → t < 32 → row rows t < 2 ^ 33
  pub targets : row rows 32 < 2 ^ 32
  pub listed : (t : ℕ) → t < 32 → 0 < row rows t → digit t (row rows 32) ≡ 1
  pub filled : (t : ℕ) → t < 32 → digit t (row rows 32) ≡ 1 → 0 < row rows t

-- the site x has been put into the set
pub record Inserted (before : List ℕ) (x : ℕ) (after : List ℕ) : Type 0 where
  pub sites : Sites after
  pub there : Has after x
  pub stays : (y : ℕ) → y < 1056 → Has before y → Has after y
  pub was : (y : ℕ) → y < 1056 → y ≢ x → Has after y → Has before y

-- the site x has been taken out of the set
pub record Removed (before : List ℕ) (x : ℕ) (after : List ℕ) : Type 0 where
  pub sites : Sites after
  pub gone : Has after x → ⊥
  pub stays : (y : ℕ) → y < 1056 → y ≢ x → Has before y → Has after y
  pub was : (y : ℕ) → y < 1056 → Has after y → Has before y

-- target t and slot s are those of the lowest site of the set
pub record Lowest (rows : List ℕ) (t s : ℕ) : Type 0 where
  pub target : t < 32
  pub slot : s < 33
  pub there : Has rows (t * 33 + s)
  pub least : (y : ℕ) → y < t * 33 + s → Has rows y → ⊥
