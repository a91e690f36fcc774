-- The laws of the set, one for each function, and of the set with no site. Assumes nothing.
use mathlib.Core.Path.{◌≡◌, refl, sym, ◌∙◌}
use mathlib.Core.Logic.{◌≢◌}
use mathlib.Core.List.{List}
use Prim.Native.Nat.{ℕ, zero, suc, ◌+◌, ◌*◌, ◌/◌, ◌%◌, ◌^◌, ◌<◌}
use native.Mathlib.Omega.{arith}
use native.Mathlib.Decide.{ℕ_discrete}
use lib.ListN.{set, replicate}
use lib.Seq.{get_or-set_same, get_or-set_other, set-get_or}
use lib.Bits.{bit_or, bit_xor}
use lib.Count.{count_trailing_zeros}
use Rattle.sites.specs.Sites.{digit, row, Has, Sites, Inserted, Removed, Lowest}
use Rattle.sites.proofs.Digits.{positive, place, bit, or_changes, xor_changes, or_below, xor_below, lowest_one, below_zero}
use Rattle.sites.proofs.Stores.{site_digit, put, Stores, stored_sites, stored_here, stored_other}

-- ---- no site

none_row : (n i : ℕ) → row (replicate n 0) i ≡ 0
none_row zero i = refl
none_row (suc n) zero = refl
none_row (suc n) (suc i) = none_row n i

-- nothing is in 33 zeros
pub none_has : (x : ℕ) → Has (replicate 33 0) x → ⊥
none_has x e = omega (arith, positive (x % 33) _ e, none_row 33 (x / 33))

-- 33 zeros are a set
pub sites_none : Sites (replicate 33 0)
sites_none = record {
  length_is = refl;
  slots = λ t h. rw (none_row 33 t) (omega arith);
  targets = omega arith;
  listed = λ t h e. omega (arith, none_row 33 t);
  filled = λ t h e. omega (arith, positive t 0 e);
}

-- ---- a site more

stores_inserted : {rows : List ℕ} {t s a b : ℕ} → Sites rows → Stores rows t s 1 a b → Inserted rows (t * 33 + s) (put rows t a b)
stores_inserted {rows} {t} {s} {a} {b} w x =
    record {
      sites = stored_sites w x;
      there = stored_here w x;
      stays = λ y h. stays y h (ℕ_discrete y (t * 33 + s));
      was = λ y h n i. sym (stored_other w x y h n) ∙ i;
    }
  where
    stays : (y : ℕ) → y < 1056 → Dec (y ≡ t * 33 + s) → Has rows y → Has (put rows t a b) y
    stays y h (yes e) i = rw e (stored_here w x)
    stays y h (no n) i = stored_other w x y h n ∙ i

-- the targets after the store of row t
kept_targets : (rows : List ℕ) (t a : ℕ) → t < 32 → row (set rows t a) 32 ≡ row rows 32
kept_targets rows t a h = get_or-set_other rows t 32 a 0 (λ e. omega arith)

-- row t with slot s put in, and taken out
abbrev pub with : List ℕ → ℕ → ℕ → ℕ
with rows t s = bit_or (row rows t) (bit s)

abbrev pub without : List ℕ → ℕ → ℕ → ℕ
without rows t s = bit_xor (row rows t) (bit s)

-- what `insert` leaves
pub inserted : (rows : List ℕ) (t s : ℕ) → Sites rows → t < 32 → s < 33
    → Inserted rows (t * 33 + s) (put rows t (with rows t s) (with (set rows t (with rows t s)) 32 t))
inserted rows t s w h l =
    let p = or_changes s (row rows t) (omega arith) in
    let q = or_changes t (row rows 32) (omega arith) in
    rw (kept_targets rows t (with rows t s) h) (stores_inserted w (record {
      target = h;
      slot = l;
      slots = or_below s 33 (row rows t) l (omega arith) (w.slots t h);
      changed = p;
      targets = or_below t 32 (row rows 32) h (omega arith) w.targets;
      listed = λ _. q.same;
      filled = λ _. positive s _ p.same;
      others = q.other;
    }))

-- ---- a site less

stores_removed : {rows : List ℕ} {t s a b : ℕ} → Sites rows → Has rows (t * 33 + s) → Stores rows t s 0 a b → Removed rows (t * 33 + s) (put rows t a b)
stores_removed {rows} {t} {s} {a} {b} w here x =
    record {
      sites = stored_sites w x;
      gone = λ i. omega (arith, stored_here w x);
      stays = λ y h n i. stored_other w x y h n ∙ i;
      was = λ y h. was y h (ℕ_discrete y (t * 33 + s));
    }
  where
    was : (y : ℕ) → y < 1056 → Dec (y ≡ t * 33 + s) → Has (put rows t a b) y → Has rows y
    was y h (yes e) i = rw e here
    was y h (no n) i = sym (stored_other w x y h n) ∙ i

module _ (rows : List ℕ) (t s : ℕ) (w : Sites rows) (h : t < 32) (l : s < 33) (here : Has rows (t * 33 + s)) where
  -- the digit of the site
  digit_here : digit s (row rows t) ≡ 1
  digit_here = sym (site_digit rows t s l) ∙ here

  -- that of its target
  target_here : digit t (row rows 32) ≡ 1
  target_here = w.listed t h (positive s (row rows t) digit_here)

  -- the row that is stored
  stored_row : row (set rows t (without rows t s)) t ≡ without rows t s
  stored_row = get_or-set_same rows t (without rows t s) 0 (omega (arith, w.length_is))

  -- what `remove` leaves where the row is then empty
  pub removed_last : row (set rows t (without rows t s)) t ≡ 0 → Removed rows (t * 33 + s) (put rows t (without rows t s) (without (set rows t (without rows t s)) 32 t))
  removed_last e =
      let q = xor_changes t (row rows 32) (omega arith) target_here in
      rw (kept_targets rows t (without rows t s) h) (stores_removed w here (record {
        target = h;
        slot = l;
        slots = xor_below s 33 (row rows t) l (omega arith) (w.slots t h);
        changed = xor_changes s (row rows t) (omega arith) digit_here;
        targets = xor_below t 32 (row rows 32) h (omega arith) w.targets;
        listed = λ i. omega (arith, stored_row);
        filled = λ i. omega (arith, q.same);
        others = q.other;
      }))

  -- and where it is not
  pub removed_more : row (set rows t (without rows t s)) t ≢ 0 → Removed rows (t * 33 + s) (set rows t (without rows t s))
  removed_more n =
      rw (set-get_or (set rows t (without rows t s)) 32 0) at (rw (← kept_targets rows t (without rows t s) h) at (stores_removed w here (record {
        target = h;
        slot = l;
        slots = xor_below s 33 (row rows t) l (omega arith) (w.slots t h);
        changed = xor_changes s (row rows t) (omega arith) digit_here;
        targets = w.targets;
        listed = λ i. target_here;
        filled = λ i. omega (arith, stored_row);
        others = λ u k. refl;
      })))

-- ---- the lowest site

-- the lowest digit of a row that is 1, as `lowest` finds it
abbrev pub first : List ℕ → ℕ → ℕ
first rows t = count_trailing_zeros 64 (row rows t)

module _ (rows : List ℕ) (w : Sites rows) where
  -- a site's target is one of the targets
  target_of : (x : ℕ) → x < 1056 → Has rows x → digit (x / 33) (row rows 32) ≡ 1
  target_of x h e = w.listed (x / 33) (omega arith) (positive (x % 33) (row rows (x / 33)) e)

  module _ (x : ℕ) (h : x < 1056) (e : Has rows x) where
    first_target : digit (first rows 32) (row rows 32) ≡ 1
    first_target = lowest_one 64 (row rows 32) (positive (x / 33) (row rows 32) (target_of x h e)) (omega (arith, w.targets))

    pub target_lt : first rows 32 < 32
    target_lt = place (first rows 32) 32 (row rows 32) w.targets first_target

    slots_lt : row rows (first rows 32) < 2 ^ 33
    slots_lt = w.slots (first rows 32) target_lt

    first_slot : digit (first rows (first rows 32)) (row rows (first rows 32)) ≡ 1
    first_slot = lowest_one 64 (row rows (first rows 32)) (w.filled (first rows 32) target_lt first_target) (omega (arith, slots_lt))

    slot_lt : first rows (first rows 32) < 33
    slot_lt = place (first rows (first rows 32)) 33 (row rows (first rows 32)) slots_lt first_slot

    pub lowest_first : Lowest rows (first rows 32) (first rows (first rows 32))
    lowest_first = record { target = target_lt; slot = slot_lt; there = site_digit rows _ _ slot_lt ∙ first_slot; least = least }
      where
        least : (y : ℕ) → y < first rows 32 * 33 + first rows (first rows 32) → Has rows y → ⊥
        least y k f = go (ℕ_discrete (y / 33) (first rows 32))
          where
            go : Dec (y / 33 ≡ first rows 32) → ⊥
            go (yes e) = omega (arith, below_zero 64 (row rows (first rows 32)) (y % 33) (omega arith), rw e at f)
            go (no n) = omega (arith, below_zero 64 (row rows 32) (y / 33) (omega (arith, slot_lt)), target_of y (omega (arith, slot_lt, target_lt)) f)
