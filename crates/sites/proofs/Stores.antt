-- What the numbers of a set are after a store of a row and of the targets. Assumes nothing.
use mathlib.Core.Path.{◌≡◌, ap, ◌∙◌}
use mathlib.Core.Logic.{◌≢◌}
use mathlib.Core.List.{List}
use Prim.Native.Nat.{ℕ, ◌+◌, ◌*◌, ◌/◌, ◌%◌, ◌^◌, ◌<◌}
use native.Mathlib.Omega.{arith}
use native.Mathlib.Decide.{ℕ_discrete}
use lib.ListN.{set, length-set}
use lib.Seq.{get_or-set_same, get_or-set_other}
use Rattle.sites.specs.Sites.{digit, row, Sites}
use Rattle.sites.proofs.Digits.{Changed}

-- the digit of a site is that of its slot in the row of its target
pub site_digit : (rows : List ℕ) (t s : ℕ) → s < 33 → digit ((t * 33 + s) % 33) (row rows ((t * 33 + s) / 33)) ≡ digit s (row rows t)
site_digit rows t s h =
    let i : (t * 33 + s) % 33 ≡ s = omega arith in
    let j : (t * 33 + s) / 33 ≡ t = omega arith in
    rw (i, j)

-- a stored as row t, and b as the targets
abbrev pub put : List ℕ → ℕ → ℕ → ℕ → List ℕ
put rows t a b = set (set rows t a) 32 b

-- a is row t with the digit of slot s made d, and b the targets, of which t is one exactly if a is not 0
pub record Stores (rows : List ℕ) (t s d a b : ℕ) : Type 0 where
  pub target : t < 32
  pub slot : s < 33
  pub slots : a < 2 ^ 33
  pub changed : Changed s d (row rows t) a
  pub targets : b < 2 ^ 32
  pub listed : 0 < a → digit t b ≡ 1
  pub filled : digit t b ≡ 1 → 0 < a
  pub others : (u : ℕ) → u ≢ t → digit u b ≡ digit u (row rows 32)

module _ {rows : List ℕ} {t s d a b : ℕ} (w : Sites rows) (x : Stores rows t s d a b) where
  put_same : row (put rows t a b) t ≡ a
  put_same = get_or-set_other (set rows t a) 32 t b 0 (λ e. omega arith) ∙ get_or-set_same rows t a 0 (omega arith)

  put_other : (u : ℕ) → u < 32 → u ≢ t → row (put rows t a b) u ≡ row rows u
  put_other u h n = get_or-set_other (set rows t a) 32 u b 0 (λ e. omega arith) ∙ get_or-set_other rows t u a 0 n

  put_targets : row (put rows t a b) 32 ≡ b
  put_targets = get_or-set_same (set rows t a) 32 b 0 (omega (arith, length-set rows t a))

  -- the numbers are those of a set again
  pub stored_sites : Sites (put rows t a b)
  stored_sites = record {
    length_is = length-set (set rows t a) 32 b ∙ length-set rows t a ∙ w.length_is;
    slots = λ u h. slots u h (ℕ_discrete u t);
    targets = rw put_targets x.targets;
    listed = λ u h. listed u h (ℕ_discrete u t);
    filled = λ u h. filled u h (ℕ_discrete u t);
  }
    where
      slots : (u : ℕ) → u < 32 → Dec (u ≡ t) → row (put rows t a b) u < 2 ^ 33
      slots u h (yes e) = rw (e, put_same) x.slots
      slots u h (no n) = rw (put_other u h n) (w.slots u h)

      listed : (u : ℕ) → u < 32 → Dec (u ≡ t) → 0 < row (put rows t a b) u → digit u (row (put rows t a b) 32) ≡ 1
      listed u h (yes e) = rw (e, put_same, put_targets) x.listed
      listed u h (no n) = rw (put_other u h n, put_targets, x.others u n) (w.listed u h)

      filled : (u : ℕ) → u < 32 → Dec (u ≡ t) → digit u (row (put rows t a b) 32) ≡ 1 → 0 < row (put rows t a b) u
      filled u h (yes e) = rw (e, put_same, put_targets) x.filled
      filled u h (no n) = rw (put_other u h n, put_targets, x.others u n) (w.filled u h)

  -- the digit of the site is d
  pub stored_here : digit ((t * 33 + s) % 33) (row (put rows t a b) ((t * 33 + s) / 33)) ≡ d
  stored_here = site_digit (put rows t a b) t s x.slot ∙ rw put_same x.changed.same

  -- the digit of another site is what it was
  pub stored_other : (y : ℕ) → y < 1056 → y ≢ t * 33 + s → digit (y % 33) (row (put rows t a b) (y / 33)) ≡ digit (y % 33) (row rows (y / 33))
  stored_other y h n = go (ℕ_discrete (y / 33) t)
    where
      go : Dec (y / 33 ≡ t) → digit (y % 33) (row (put rows t a b) (y / 33)) ≡ digit (y % 33) (row rows (y / 33))
      go (yes e) = rw (e, put_same) (x.changed.other (y % 33) (λ i. n (omega arith)))
      go (no k) = ap (digit (y % 33)) (put_other (y / 33) (omega arith) k)
