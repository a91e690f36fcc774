-- Laws of decimal numbers: the last digit and those before it, their length, and numbers of one or two digits. Assumes nothing.
use mathlib.Core.Path.{◌≡◌, refl, sym, ap, ◌∙◌}
use mathlib.Core.Bool.{Bool, true, false, cond}
use mathlib.Core.List.{List, [], ◌∷◌, ◌++◌}
use Prim.Native.Nat.{ℕ, zero, suc, ◌+◌, ◌^◌, ◌/◌, ◌%◌, ◌≤◌, ◌<◌}
use native.Mathlib.Nat.{pow-suc}
use native.Mathlib.Omega.{arith}
use lib.ListN.{length, length-append}
use lib.Dec.{ltb}
use borrow.Author.Tests.{lt-ltb, le-ltb, ltb-true, ltb-false}
use Rattle.text.specs.Text.{digits}
use Rattle.writing.specs.Decimal.{last_digits, decimal}

-- any more than n is enough
enough : (f g n : ℕ) → n < f → n < g → last_digits f n ≡ last_digits g n
unfolding last_digits
enough zero g n h k = absurd (omega arith)
enough (suc f) zero n h k = absurd (omega arith)
enough (suc f) (suc g) n h k = go (ltb n 10) refl (enough f g (n / 10))
  where
    go : (b : Bool) → ltb n 10 ≡ b → (n / 10 < f → n / 10 < g → last_digits f (n / 10) ≡ last_digits g (n / 10)) →
        cond b ((48 + n) ∷ []) (last_digits f (n / 10) ++ (48 + n % 10) ∷ []) ≡ cond b ((48 + n) ∷ []) (last_digits g (n / 10) ++ (48 + n % 10) ∷ [])
    go true e ih = refl
    go false e ih = let l = ltb-false n 10 e in ap (λ (x : List ℕ). x ++ (48 + n % 10) ∷ []) (ih (omega arith) (omega arith))

pub one_digit : (n : ℕ) → n < 10 → decimal n ≡ (48 + n) ∷ []
unfolding decimal last_digits
one_digit n h = rw (lt-ltb n 10 h)

pub more_digits : (n : ℕ) → 10 ≤ n → decimal n ≡ decimal (n / 10) ++ (48 + n % 10) ∷ []
unfolding decimal last_digits
more_digits n h = rw (le-ltb n 10 h) (ap (λ (x : List ℕ). x ++ (48 + n % 10) ∷ []) (enough n (suc (n / 10)) (n / 10) (omega arith) (omega arith)))

pub decimal_length : (n : ℕ) → 10 ≤ n → length (decimal n) ≡ length (decimal (n / 10)) + 1
decimal_length n h = ap length (more_digits n h) ∙ length-append (decimal (n / 10)) ((48 + n % 10) ∷ [])

-- a tenth of a number has at most as many digits
pub tenth_length : (n : ℕ) → length (decimal (n / 10)) ≤ length (decimal n)
tenth_length n = go (ltb n 10) refl
  where
    go : (b : Bool) → ltb n 10 ≡ b → length (decimal (n / 10)) ≤ length (decimal n)
    go true e = let l = ltb-true n 10 e in rw (one_digit n l, one_digit (n / 10) (omega arith)) (omega arith)
    go false e = let l = ltb-false n 10 e in omega (arith, decimal_length n l)

-- a number of one or two digits
pub digits_decimal : (n : ℕ) → n < 100 → digits n ≡ decimal n
unfolding digits
digits_decimal n h = go (ltb n 10) refl
  where
    go : (b : Bool) → ltb n 10 ≡ b → cond b ((48 + n) ∷ []) ((48 + n / 10) ∷ (48 + n % 10) ∷ []) ≡ decimal n
    go true e = let l = ltb-true n 10 e in sym (one_digit n l)
    go false e = let l = ltb-false n 10 e in sym (more_digits n l ∙ rw (one_digit (n / 10) (omega arith)))

-- a number below 10 to the k + 1 has at most k + 1 digits
pub few_digits : (k n : ℕ) → n < 10 ^ suc k → length (decimal n) ≤ suc k
few_digits zero n h = rw (one_digit n h) (omega arith)
few_digits (suc k) n h = go (ltb n 10) refl (few_digits k (n / 10))
  where
    go : (b : Bool) → ltb n 10 ≡ b → (n / 10 < 10 ^ suc k → length (decimal (n / 10)) ≤ suc k) → length (decimal n) ≤ suc (suc k)
    go true e ih = let l = ltb-true n 10 e in rw (one_digit n l) (omega arith)
    go false e ih =
        let l = ltb-false n 10 e in
        let p = pow-suc 10 (suc k) in
        let s = ih (omega arith) in
        omega (arith, decimal_length n l)
