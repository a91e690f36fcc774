-- How often a line is in a list: lists of different lines of n, said by counting, so that rearranging a list is a sum. Assumes nothing.
use mathlib.Core.Path.{◌≡◌, refl}
use mathlib.Core.Logic.{◌≢◌}
use mathlib.Core.Bool.{Bool, true, false, not, cond, ◌||◌, false≢true}
use mathlib.Core.List.{List, [], ◌∷◌, ◌++◌}
use Prim.Native.Nat.{ℕ, ◌+◌, ◌≤◌, ◌<◌}
use native.Mathlib.Omega.{arith}
use lib.Dec.{eqb}
use borrow.Author.Tests.{eq-eqb, ne_eqb, eqb-true, not-true}
use Rattle.gates.specs.Every.{Every}
use Rattle.meaning.specs.Pattern.{has, distinct}
use Rattle.meaning.proofs.Flips.{neither, both}
use Rattle.cascades.specs.Cascade.{Below}

-- 1 if the line j is c, else 0
unfoldable pub once : ℕ → ℕ → ℕ
once j c = cond (eqb j c) 1 0

-- how often the line j is in the list
unfoldable pub times : ℕ → List ℕ → ℕ
times j [] = 0
times j (c ∷ l) = once j c + times j l

pub times_append : (j : ℕ) (a b : List ℕ) → times j (a ++ b) ≡ times j a + times j b
unfolding times
times_append j [] b = omega arith
times_append j (c ∷ a) b = omega (arith, times_append j a b)

pub once_same : (j : ℕ) → once j j ≡ 1
unfolding once
once_same j = rw (eq-eqb j j refl)

pub once_other : (j c : ℕ) → j ≢ c → once j c ≡ 0
unfolding once
once_other j c h = rw (ne_eqb j c h)

-- ---- lines that a list has, and has not

pub has_times : (j : ℕ) (l : List ℕ) → has j l ≡ true → 1 ≤ times j l
unfolding has times once
has_times j [] e = absurd (false≢true e)
has_times j (c ∷ l) e = go (eqb j c) e (has_times j l)
  where
    go : (b : Bool) → (b || has j l) ≡ true → (has j l ≡ true → 1 ≤ times j l) → 1 ≤ cond b 1 0 + times j l
    go true e rest = omega arith
    go false e rest = omega (arith, rest e)

pub out_times : (j : ℕ) (l : List ℕ) → has j l ≡ false → times j l ≡ 0
unfolding has times once
out_times j [] e = refl
out_times j (c ∷ l) e = let u = neither (eqb j c) (has j l) e in rw u.0 (omega (arith, out_times j l u.1))

pub times_out : (j : ℕ) (l : List ℕ) → times j l ≡ 0 → has j l ≡ false
times_out j l e = go (has j l) refl
  where
    go : (b : Bool) → has j l ≡ b → b ≡ false
    go true h = absurd (omega (arith, has_times j l h))
    go false h = refl

pub times_has : (j : ℕ) (l : List ℕ) → 1 ≤ times j l → has j l ≡ true
times_has j l h = go (has j l) refl
  where
    go : (b : Bool) → has j l ≡ b → b ≡ true
    go true e = refl
    go false e = absurd (omega (arith, out_times j l e))

-- ---- different lines of n

-- "different lines of the n": each line is in the list once at most, and is one of the n if it is
pub record Lines (n : ℕ) (l : List ℕ) : Type 0 where
  pub apart : (j : ℕ) → times j l ≤ 1
  pub below : (j : ℕ) → 1 ≤ times j l → j < n

distinct_times : (l : List ℕ) → distinct l ≡ true → (j : ℕ) → times j l ≤ 1
unfolding distinct times once
distinct_times [] d j = omega arith
distinct_times (c ∷ l) d j =
    let u = both (not (has c l)) (distinct l) d in
    go (eqb j c) refl (out_times c l (not-true (has c l) u.0)) (distinct_times l u.1 j)
  where
    go : (b : Bool) → eqb j c ≡ b → times c l ≡ 0 → times j l ≤ 1 → cond b 1 0 + times j l ≤ 1
    go true e f rest = let q : times j l ≡ 0 = rw (eqb-true j c e) f in omega arith
    go false e f rest = omega arith

times_distinct : (l : List ℕ) → ((j : ℕ) → times j l ≤ 1) → distinct l ≡ true
unfolding distinct times
times_distinct [] h = refl
times_distinct (c ∷ l) h =
    let e : has c l ≡ false = times_out c l (omega (arith, h c, once_same c)) in
    rw (e, times_distinct l (λ j. omega (arith, h j)))

-- what holds of each line of a list, line by line
pub every_times : (P : ℕ → Type 0) (l : List ℕ) → Every P l → (j : ℕ) → 1 ≤ times j l → P j
unfolding times once
every_times P [] b j h = absurd (omega arith)
every_times P (c ∷ l) b j h = go (eqb j c) refl h (every_times P l b.1 j)
  where
    go : (p : Bool) → eqb j c ≡ p → 1 ≤ cond p 1 0 + times j l → (1 ≤ times j l → P j) → P j
    go true e k rest = rw (eqb-true j c e) b.0
    go false e k rest = rest (omega arith)

pub times_every : (P : ℕ → Type 0) (l : List ℕ) → ((j : ℕ) → 1 ≤ times j l → P j) → Every P l
unfolding times
times_every P [] h = tt
times_every P (c ∷ l) h = (h c (omega (arith, once_same c)), times_every P l (λ j k. h j (omega arith)))

pub lines_of : (n : ℕ) (l : List ℕ) → distinct l ≡ true → Below n l → Lines n l
lines_of n l d b = record { apart = distinct_times l d; below = unfold Below in every_times (λ c. c < n) l b }

pub lines_distinct : {n : ℕ} {l : List ℕ} → Lines n l → distinct l ≡ true
lines_distinct {l = l} w = times_distinct l w.apart

pub lines_below : {n : ℕ} {l : List ℕ} → Lines n l → Below n l
unfolding Below
lines_below {n} {l} w = times_every (λ c. c < n) l w.below

-- a list with no more of each line
pub lines_fewer : {n : ℕ} (k l : List ℕ) → ((j : ℕ) → times j k ≤ times j l) → Lines n l → Lines n k
lines_fewer k l h w = record { apart = λ j. omega (arith, h j, w.apart j); below = λ j p. w.below j (omega (arith, h j)) }
