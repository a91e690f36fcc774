-- The kept lines as a number: they are read back from it, and it is 0 exactly if there are none. Assumes nothing.
use mathlib.Core.Path.{◌≡◌, refl, sym, ap, ◌∙◌}
use mathlib.Core.Logic.{◌≢◌}
use mathlib.Core.Bool.{Bool, true, false, cond}
use mathlib.Core.List.{List, [], ◌∷◌}
use Prim.Native.Nat.{ℕ, zero, suc, ◌+◌, ◌≤◌, ◌<◌}
use native.Mathlib.Omega.{arith}
use lib.Dec.{eqb, ltb}
use borrow.Author.Tests.{ne_eqb, eqb-true, eqb-false, ltb-true}
use Rattle.gates.specs.Every.{Every}
use Rattle.gates.proofs.Every.{every_follows}
use Rattle.meaning.specs.Pattern.{Pattern, number, has}
use Rattle.meaning.proofs.Flips.{both}
use Rattle.meaning.proofs.Patterns.{lowest_digit, other_digits}
use Rattle.cascades.specs.Cascade.{Below}
use Rattle.text.specs.declared.Head.{Head}
use Rattle.cascades.specs.LineSets.{unpacked}
use Rattle.text.specs.Heads.{head_of, kept_lines, unkept}
use Rattle.text.specs.Judging.{rising}

-- ---- examples

-- `(keep 4)` is 16, `(keep 0 31)` is 2^31 + 1
four_kept : (head_of 5 (4 ∷ [])).kept ≡ 16
unfolding head_of number has
four_kept = refl

both_ends_kept : kept_lines (head_of 32 (0 ∷ 31 ∷ [])) ≡ 0 ∷ 31 ∷ []
unfolding head_of number has kept_lines unpacked
both_ends_kept = refl

-- ---- what is packed is unpacked

-- of the m lines from i on, those of the list, rising
unfoldable lines_inside : ℕ → ℕ → List ℕ → List ℕ
lines_inside zero i l = []
lines_inside (suc m) i l = cond (has i l) (i ∷ lines_inside m (suc i) l) (lines_inside m (suc i) l)

-- they are those of the number of a pattern in which they are 1
unpacked_number : (m i : ℕ) (x : Pattern) (l : List ℕ) → ((j : ℕ) → x j ≡ has (i + j) l) → unpacked m i (number m x) ≡ lines_inside m i l
unfolding number unpacked lines_inside
unpacked_number zero i x l h = refl
unpacked_number (suc m) i x l h =
    let k = number m (λ j. x (suc j)) in
    let here : x 0 ≡ has i l = let e : i + 0 ≡ i = omega arith in h 0 ∙ rw e in
    let later : (j : ℕ) → x (suc j) ≡ has (suc i + j) l = λ j. let e : i + suc j ≡ suc i + j = omega arith in h (suc j) ∙ rw e in
    rw (lowest_digit (x 0) k, other_digits (x 0) k, here, unpacked_number m (suc i) (λ j. x (suc j)) l later)

-- ---- rising lines are those of the list

-- from i on
abbrev From : ℕ → List ℕ → Type 0
From i l = Every (λ c. i ≤ c) l

rising_from : (c : ℕ) (l : List ℕ) → rising (c ∷ l) ≡ true → From (suc c) l × (rising l ≡ true)
unfolding rising
rising_from c [] e = (tt, refl)
rising_from c (d ∷ l) e =
    let u = both (ltb c d) (rising (d ∷ l)) e in
    let h : c < d = ltb-true c d u.0 in
    let w = rising_from d l u.1 in
    ((omega arith, every_follows (λ x. suc d ≤ x) (λ x. suc c ≤ x) (λ x k. omega arith) l w.0), u.1)

-- a line that is lower than each is none of them
lower_out : (i : ℕ) (l : List ℕ) → From (suc i) l → has i l ≡ false
unfolding has
lower_out i [] w = refl
lower_out i (c ∷ l) w = rw (ne_eqb i c (λ e. omega (arith, w.0)), lower_out i l w.1)

-- without the first, from the next line on
inside_rest : (m i c : ℕ) (l : List ℕ) → c < i → lines_inside m i (c ∷ l) ≡ lines_inside m i l
unfolding lines_inside has
inside_rest zero i c l h = refl
inside_rest (suc m) i c l h = rw (ne_eqb i c (λ e. omega arith), inside_rest m (suc i) c l (omega arith))

inside_none : (m i : ℕ) → lines_inside m i [] ≡ []
unfolding lines_inside has
inside_none zero i = refl
inside_none (suc m) i = inside_none m (suc i)

inside_all : (m i : ℕ) (l : List ℕ) → From i l → Below (i + m) l → rising l ≡ true → lines_inside m i l ≡ l
unfolding Below lines_inside
inside_all m i [] f b e = inside_none m i
inside_all zero i (c ∷ l) f b e = absurd (omega (arith, f.0, b.0))
inside_all (suc m) i (c ∷ l) f b e = go (eqb i c) refl (inside_all m (suc i) l) (inside_all m (suc i) (c ∷ l))
  where
    w : From (suc c) l × (rising l ≡ true)
    w = rising_from c l e

    below : (k : List ℕ) → Every (λ x. x < i + suc m) k → Every (λ x. x < suc i + m) k
    below = every_follows (λ x. x < i + suc m) (λ x. x < suc i + m) (λ x h. omega arith)

    go : (b : Bool) → eqb i c ≡ b → (From (suc i) l → Below (suc i + m) l → rising l ≡ true → lines_inside m (suc i) l ≡ l)
        → (From (suc i) (c ∷ l) → Below (suc i + m) (c ∷ l) → rising (c ∷ l) ≡ true → lines_inside m (suc i) (c ∷ l) ≡ c ∷ l)
        → cond (has i (c ∷ l)) (i ∷ lines_inside m (suc i) (c ∷ l)) (lines_inside m (suc i) (c ∷ l)) ≡ c ∷ l
    go true q tail whole =
        let z : i ≡ c = eqb-true i c q in
        let here : has i (c ∷ l) ≡ true = unfold has in rw q in
        rw (here, inside_rest m (suc i) c l (omega arith), tail (rw z w.0) (below l b.1) w.1, z)
    go false q tail whole =
        let z : i ≢ c = eqb-false i c q in
        let late : From (suc i) (c ∷ l) = (omega (arith, f.0), every_follows (λ x. suc c ≤ x) (λ x. suc i ≤ x) (λ x h. omega (arith, f.0)) l w.0) in
        rw (lower_out i (c ∷ l) late) (whole late (below (c ∷ l) b) e)

-- the kept lines of a text are those of its head
pub kept_read : (n : ℕ) (kept : List ℕ) → Below 32 kept → rising kept ≡ true → kept_lines (head_of n kept) ≡ kept
unfolding kept_lines head_of
kept_read n kept b e = unpacked_number 32 0 (λ j. has j kept) kept (λ j. let z : 0 + j ≡ j = omega arith in rw z) ∙ inside_all 32 0 kept (each kept) b e
  where
    each : (l : List ℕ) → From 0 l
    each [] = tt
    each (c ∷ l) = (omega arith, each l)

-- ---- no kept lines

pub none_kept : (n : ℕ) → kept_lines (unkept n) ≡ []
unfolding kept_lines unpacked
none_kept n = refl

pub head_unkept : (n : ℕ) → head_of n [] ≡ unkept n
unfolding head_of number has
head_unkept n = refl

no_digits : (h : Head) → h.kept ≡ 0 → kept_lines h ≡ []
unfolding kept_lines
no_digits h e = ap (unpacked 32 0) e ∙ unfold unpacked in refl

-- the number is 0 only if there are none
pub kept_some : (n a : ℕ) (l : List ℕ) → Below 32 (a ∷ l) → rising (a ∷ l) ≡ true → (head_of n (a ∷ l)).kept ≢ 0
kept_some n a l b e z = cons_nil (sym (kept_read n (a ∷ l) b e) ∙ no_digits (head_of n (a ∷ l)) z)
  where
    cons_nil : a ∷ l ≡ [] → ⊥
    cons_nil q = let x : ◌≡◌ {A = ℕ} 0 1 = cc in omega arith
