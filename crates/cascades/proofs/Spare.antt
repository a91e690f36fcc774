-- A spare line is there by count: fewer than n lines leave one of n lines unnamed, and different lines of n are at most n. Assumes nothing.
use mathlib.Core.Path.{◌≡◌, refl, ap}
use mathlib.Core.Logic.{◌≢◌}
use mathlib.Core.Bool.{Bool, true, false, not, cond, ◌||◌, false≢true}
use mathlib.Core.List.{List, [], ◌∷◌}
use Prim.Native.Nat.{ℕ, zero, suc, ◌≤◌, ◌<◌}
use native.Mathlib.Omega.{arith}
use lib.Dec.{T, eqb, eqb→eq}
use borrow.Author.Tests.{ne_eqb, eqb-false, not-true}
use lib.ListN.{length}
use Rattle.meaning.specs.Pattern.{has, distinct}
use Rattle.cascades.specs.Cascade.{Below}
use Rattle.meaning.proofs.Flips.{neither, both}

-- the list without a line
remove : ℕ → List ℕ → List ℕ
remove j [] = []
remove j (c ∷ cs) = cond (eqb j c) (remove j cs) (c ∷ remove j cs)

no_longer : (j : ℕ) (cs : List ℕ) → length (remove j cs) ≤ length cs
unfolding remove
no_longer j [] = omega arith
no_longer j (c ∷ cs) = go (eqb j c) (no_longer j cs)
  where
    go : (b : Bool) → length (remove j cs) ≤ length cs → length (cond b (remove j cs) (c ∷ remove j cs)) ≤ suc (length cs)
    go true h = omega arith
    go false h = omega arith

shorter : (j : ℕ) (cs : List ℕ) → has j cs ≡ true → length (remove j cs) < length cs
unfolding remove has
shorter j [] e = absurd (false≢true e)
shorter j (c ∷ cs) e = go (eqb j c) e (shorter j cs)
  where
    go : (b : Bool) → (b || has j cs) ≡ true → (has j cs ≡ true → length (remove j cs) < length cs) → length (cond b (remove j cs) (c ∷ remove j cs)) < suc (length cs)
    go true f rest = omega (arith, no_longer j cs)
    go false f rest = omega (arith, rest f)

kept : (i j : ℕ) (cs : List ℕ) → i ≢ j → has i (remove j cs) ≡ false → has i cs ≡ false
unfolding remove has
kept i j [] n e = refl
kept i j (c ∷ cs) n e = go (eqb j c) (eqb→eq j c) e (kept i j cs n)
  where
    go : (b : Bool) → (T b → j ≡ c) → has i (cond b (remove j cs) (c ∷ remove j cs)) ≡ false → (has i (remove j cs) ≡ false → has i cs ≡ false) → (eqb i c || has i cs) ≡ false
    go true q f rest = let r : j ≡ c = q tt in rw (ne_eqb i c (omega arith), rest f)
    go false q f rest = let u = neither (eqb i c) (has i (remove j cs)) f in rw (u.0, rest u.1)

pub spare_line : (n : ℕ) (l : List ℕ) → length l < n → (j : ℕ) × (j < n) × (has j l ≡ false)
spare_line zero l h = absurd (omega arith)
spare_line (suc n) l h = go (has n l) refl (λ k. spare_line n (remove n l) k)
  where
    go : (b : Bool) → has n l ≡ b → (length (remove n l) < n → (j : ℕ) × (j < n) × (has j (remove n l) ≡ false)) → (j : ℕ) × (j < suc n) × (has j l ≡ false)
    go true e rest = let r = rest (omega (arith, shorter n l e)) in (r.0, omega (arith, r.1), kept r.0 n l (omega (arith, r.1)) r.2)
    go false e rest = (n, omega arith, e)

-- ---- different lines of n

not_there : (j : ℕ) (cs : List ℕ) → has j cs ≡ false → remove j cs ≡ cs
unfolding remove has
not_there j [] e = refl
not_there j (c ∷ cs) e = let u = neither (eqb j c) (has j cs) e in rw (u.0, not_there j cs u.1)

still_out : (i j : ℕ) (cs : List ℕ) → has i cs ≡ false → has i (remove j cs) ≡ false
unfolding remove has
still_out i j [] e = refl
still_out i j (c ∷ cs) e = let u = neither (eqb i c) (has i cs) e in go (eqb j c) u.0 (still_out i j cs u.1)
  where
    go : (b : Bool) → eqb i c ≡ false → has i (remove j cs) ≡ false → has i (cond b (remove j cs) (c ∷ remove j cs)) ≡ false
    go true f g = g
    go false f g = rw (f, g)

-- different lines below n, of which a list of different lines has at most one more
record OneFewer (n : ℕ) (l k : List ℕ) : Type 0 where
  apart : distinct k ≡ true
  fewer : length l ≤ suc (length k)
  below : Below n k

without : (n : ℕ) (l : List ℕ) → distinct l ≡ true → Below (suc n) l → OneFewer n l (remove n l)
unfolding remove distinct Below
without n [] d b = record { apart = refl; fewer = omega arith; below = tt }
without n (c ∷ cs) d b = let u = both (not (has c cs)) (distinct cs) d in go (eqb n c) refl (eqb→eq n c) (not-true (has c cs) u.0) (without n cs u.1 b.1)
  where
    go : (q : Bool) → eqb n c ≡ q → (T q → n ≡ c) → has c cs ≡ false → OneFewer n cs (remove n cs) → OneFewer n (c ∷ cs) (cond q (remove n cs) (c ∷ remove n cs))
    go true f g h rest =
        let r : n ≡ c = g tt in
        let e : remove n cs ≡ cs = not_there n cs (rw r h) in
        record { apart = rest.apart; fewer = omega (arith, ap length e); below = rest.below }
    go false f g h rest =
        let m : n ≢ c = eqb-false n c f in
        record { apart = rw (still_out c n cs h, rest.apart); fewer = omega (arith, rest.fewer); below = (omega (arith, b.0), rest.below) }

none_below : (l : List ℕ) → Below 0 l → length l ≡ 0
unfolding Below
none_below [] b = refl
none_below (c ∷ cs) b = absurd (omega (arith, b.0))

-- different lines of n are at most n
pub distinct_length : (n : ℕ) (l : List ℕ) → distinct l ≡ true → Below n l → length l ≤ n
distinct_length zero l d b = omega (arith, none_below l b)
distinct_length (suc n) l d b = let w = without n l d b in omega (arith, w.fewer, distinct_length n (remove n l) w.apart w.below)
