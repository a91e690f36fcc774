-- Lists of spares: those of one mct gate and its smaller gates, by computation; which lines an mct gate's list has, that it rises, when it is empty,
-- and that its first line is the lowest. Assumes nothing.
use mathlib.Core.Path.{◌≡◌, refl, sym, ◌∙◌}
use mathlib.Core.Logic.{◌↔◌}
use mathlib.Core.Bool.{Bool, true, false, cond, ◌||◌, true≢false}
use mathlib.Core.List.{List, [], ◌∷◌, ◌++◌}
use Prim.Native.Nat.{ℕ, zero, suc, ◌+◌, ◌≤◌, ◌<◌}
use native.Mathlib.Omega.{arith}
use native.Mathlib.Decide.{ℕ_discrete}
use lib.ListN.{length}
use Rattle.gates.specs.Every.{Every}
use Rattle.meaning.specs.Pattern.{has, distinct}
use Rattle.meaning.proofs.Flips.{has_append}
use Rattle.cascades.specs.Expansion.{c1, lines_outside, mct_spares, m0_spares, m1_spares, Expandable}
use Rattle.cascades.proofs.Times.{once, times, once_same, once_other, has_times, times_has, every_times}

-- ---- closed gates: `(mct (0 1 2 3 4) 5)` on 8 lines

abbrev pub five : List ℕ
five = 0 ∷ 1 ∷ 2 ∷ 3 ∷ 4 ∷ []

-- all unnamed lines, rising: 6 and 7; s is 6
five_spares : mct_spares 8 [] five 5 ≡ 6 ∷ 7 ∷ []
unfolding mct_spares lines_outside has
five_spares = refl

-- M0, with controls 0 1: t, which is 5; the remaining spare, 7; C1, which is 2 3 4
five_m0 : m0_spares (mct_spares 8 [] five 5) five 5 ≡ 5 ∷ 7 ∷ 2 ∷ 3 ∷ 4 ∷ []
unfolding mct_spares lines_outside has
five_m0 = refl

-- M1, with controls 2 3 4: the remaining spare, 7; C0, which is 0 1; its s is 7
five_m1 : m1_spares (mct_spares 8 [] five 5) five ≡ 7 ∷ 0 ∷ 1 ∷ []
unfolding mct_spares lines_outside has
five_m1 = refl

-- M0 of M1, with control 2: the target of M1, which is 6; the remaining spares, 0 1; the C1 of M1, which is 3 4
five_m1_m0 : m0_spares (m1_spares (mct_spares 8 [] five 5) five) (c1 five) 6 ≡ 6 ∷ 0 ∷ 1 ∷ 3 ∷ 4 ∷ []
unfolding mct_spares lines_outside has
five_m1_m0 = refl

-- M1 of M1, with controls 3 4: the remaining spares, 0 1; the C0 of M1, which is 2
five_m1_m1 : m1_spares (m1_spares (mct_spares 8 [] five 5) five) (c1 five) ≡ 0 ∷ 1 ∷ 2 ∷ []
unfolding mct_spares lines_outside has
five_m1_m1 = refl

-- ---- kept lines

-- `(mct (0 1 2) 3)` with `(keep 4)`: no spare on 5 lines, and 5 on 6 lines
three_kept : mct_spares 5 (4 ∷ []) (0 ∷ 1 ∷ 2 ∷ []) 3 ≡ []
unfolding mct_spares lines_outside has
three_kept = refl

three_kept_six : mct_spares 6 (4 ∷ []) (0 ∷ 1 ∷ 2 ∷ []) 3 ≡ 5 ∷ []
unfolding mct_spares lines_outside has
three_kept_six = refl

-- `(mct (0 1 2 3 4) 5)` on 7 lines with `(keep 0)`: its M1 may borrow 0, which the mct names
five_kept_m1 : m1_spares (mct_spares 7 (0 ∷ []) five 5) five ≡ 0 ∷ 1 ∷ []
unfolding mct_spares lines_outside has
five_kept_m1 = refl

-- ---- the lines outside a list

-- each of them is one of the m lines from i on, and not in the list
outside_every : (P : ℕ → Type 0) (m i : ℕ) (l : List ℕ) → ((j : ℕ) → i ≤ j → j < i + m → has j l ≡ false → P j) → Every P (lines_outside m i l)
unfolding lines_outside
outside_every P zero i l h = tt
outside_every P (suc m) i l h = go (has i l) refl (outside_every P m (suc i) l (λ j a b e. h j (omega arith) (omega arith) e))
  where
    go : (b : Bool) → has i l ≡ b → Every P (lines_outside m (suc i) l) → Every P (cond b (lines_outside m (suc i) l) (i ∷ lines_outside m (suc i) l))
    go true e rest = rest
    go false e rest = (h i (omega arith) (omega arith) e, rest)

-- and each such line is among them
outside_has : (m i : ℕ) (l : List ℕ) (j : ℕ) → i ≤ j → j < i + m → has j l ≡ false → 1 ≤ times j (lines_outside m i l)
unfolding lines_outside times
outside_has zero i l j a b e = absurd (omega arith)
outside_has (suc m) i l j a b e = go (has i l) refl (ℕ_discrete i j) (λ q. outside_has m (suc i) l j q (omega arith) e)
  where
    go : (b : Bool) → has i l ≡ b → Dec (i ≡ j) → (suc i ≤ j → 1 ≤ times j (lines_outside m (suc i) l)) → 1 ≤ times j (cond b (lines_outside m (suc i) l) (i ∷ lines_outside m (suc i) l))
    go true f (yes q) rest = absurd (true≢false (sym f ∙ rw q e))
    go true f (no q) rest = rest (omega arith)
    go false f (yes q) rest = rw q (omega (arith, once_same j))
    go false f (no q) rest = omega (arith, rest (omega arith))

-- rising: each line before all that follow it
unfoldable pub Rises : List ℕ → Type 0
Rises [] = Unit {0}
Rises (c ∷ l) = Every (λ d. c < d) l × Rises l

outside_rise : (m i : ℕ) (l : List ℕ) → Rises (lines_outside m i l)
unfolding lines_outside Rises
outside_rise zero i l = tt
outside_rise (suc m) i l = go (has i l) (outside_every (λ d. i < d) m (suc i) l (λ j a b e. a)) (outside_rise m (suc i) l)
  where
    go : (b : Bool) → Every (λ d. i < d) (lines_outside m (suc i) l) → Rises (lines_outside m (suc i) l) → Rises (cond b (lines_outside m (suc i) l) (i ∷ lines_outside m (suc i) l))
    go true low rest = rest
    go false low rest = (low, rest)

-- none of them twice
outside_once : (m i : ℕ) (l : List ℕ) (j : ℕ) → times j (lines_outside m i l) ≤ 1
unfolding lines_outside times
outside_once zero i l j = omega arith
outside_once (suc m) i l j = go (has i l) (ℕ_discrete j i) (outside_once m (suc i) l j) (every_times (λ d. i < d) (lines_outside m (suc i) l) (outside_every (λ d. i < d) m (suc i) l (λ k a b e. a)) j)
  where
    go : (b : Bool) → Dec (j ≡ i) → times j (lines_outside m (suc i) l) ≤ 1 → (1 ≤ times j (lines_outside m (suc i) l) → i < j) → times j (cond b (lines_outside m (suc i) l) (i ∷ lines_outside m (suc i) l)) ≤ 1
    go true d rest low = rest
    go false (no q) rest low = omega (arith, once_other j i q)
    go false (yes q) rest low = few (times j (lines_outside m (suc i) l)) low
      where
        few : (k : ℕ) → (1 ≤ k → i < j) → once j i + k ≤ 1
        few zero h = rw q (omega (arith, once_same i))
        few (suc k) h = absurd (omega (arith, h (omega arith)))

-- they go by which of these lines are in the list
pub outside_alike : (m i : ℕ) (k l : List ℕ) → ((j : ℕ) → i ≤ j → j < i + m → has j k ≡ has j l) → lines_outside m i k ≡ lines_outside m i l
unfolding lines_outside
outside_alike zero i k l h = refl
outside_alike (suc m) i k l h = rw (h i (omega arith) (omega arith), outside_alike m (suc i) k l (λ j a b. h j (omega arith) (omega arith)))

-- ---- an mct gate's spares

module _ (n : ℕ) (kept cs : List ℕ) (t : ℕ) where
  -- each of them is a line of the n that the gate does not name, and no kept one
  pub mct_spares_every : (P : ℕ → Type 0) → ((j : ℕ) → j < n → has j (kept ++ (t ∷ cs)) ≡ false → P j) → Every P (mct_spares n kept cs t)
  unfolding mct_spares
  mct_spares_every P h = outside_every P n 0 (kept ++ (t ∷ cs)) (λ j a b e. h j (omega arith) e)

  mct_spares_has : (j : ℕ) → j < n → has j (kept ++ (t ∷ cs)) ≡ false → 1 ≤ times j (mct_spares n kept cs t)
  unfolding mct_spares
  mct_spares_has j h e = outside_has n 0 (kept ++ (t ∷ cs)) j (omega arith) (omega arith) e

  -- all unnamed, unkept lines,
  pub mct_spares_exactly : (j : ℕ) → (has j (mct_spares n kept cs t) ≡ true) ↔ ((j < n) × (has j (kept ++ (t ∷ cs)) ≡ false))
  mct_spares_exactly j = (
    λ e. every_times (λ i. (i < n) × (has i (kept ++ (t ∷ cs)) ≡ false)) (mct_spares n kept cs t) (mct_spares_every _ (λ i a u. (a, u))) j (has_times j (mct_spares n kept cs t) e),
    λ w. times_has j (mct_spares n kept cs t) (mct_spares_has j w.0 w.1),
  )

  -- rising
  pub mct_spares_rise : Rises (mct_spares n kept cs t)
  unfolding mct_spares
  mct_spares_rise = outside_rise n 0 (kept ++ (t ∷ cs))

  pub mct_spares_once : (j : ℕ) → times j (mct_spares n kept cs t) ≤ 1
  unfolding mct_spares
  mct_spares_once = outside_once n 0 (kept ++ (t ∷ cs))

  -- there is one if there is an unnamed, unkept line
  pub mct_spares_some : (j : ℕ) → j < n → has j (kept ++ (t ∷ cs)) ≡ false → 1 ≤ length (mct_spares n kept cs t)
  mct_spares_some j h e = some (mct_spares n kept cs t) (mct_spares_has j h e)
    where
      some : (l : List ℕ) → 1 ≤ times j l → 1 ≤ length l
      some [] k = unfold times in absurd (omega arith)
      some (c ∷ l) k = omega arith

  -- and only if
  pub spare_there : 1 ≤ length (mct_spares n kept cs t) → (j : ℕ) × (j < n) × (has j (kept ++ (t ∷ cs)) ≡ false)
  spare_there = first_of (mct_spares n kept cs t) (mct_spares_every (λ j. (j < n) × (has j (kept ++ (t ∷ cs)) ≡ false)) (λ j a e. (a, e)))
    where
      first_of : (l : List ℕ) → Every (λ j. (j < n) × (has j (kept ++ (t ∷ cs)) ≡ false)) l → 1 ≤ length l → (j : ℕ) × (j < n) × (has j (kept ++ (t ∷ cs)) ≡ false)
      first_of [] w h = absurd (omega arith)
      first_of (j ∷ l) w h = (j, w.0.0, w.0.1)

  -- kept lines that the gate names change nothing
  pub spares_named : ((i : ℕ) → has i kept ≡ true → has i (t ∷ cs) ≡ true) → mct_spares n kept cs t ≡ mct_spares n [] cs t
  unfolding mct_spares
  spares_named h = outside_alike n 0 (kept ++ (t ∷ cs)) (t ∷ cs) (λ j a b. has_append j kept (t ∷ cs) ∙ go j (has j kept) refl)
    where
      go : (j : ℕ) (b : Bool) → has j kept ≡ b → (b || has j (t ∷ cs)) ≡ has j (t ∷ cs)
      go j true e = sym (h j e)
      go j false e = refl

  -- what rules 4 to 8 let through: numbers below n, the target no control, different controls, and a spare where there are three or more
  pub by_rules : t < n → has t cs ≡ false → distinct cs ≡ true → (3 ≤ length cs → 1 ≤ length (mct_spares n kept cs t)) → Expandable n kept cs t
  by_rules h e d k = record { apart = d; other = e; line = h; spare = λ m. spare_there (k m) }
