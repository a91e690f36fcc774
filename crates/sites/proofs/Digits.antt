-- Laws of binary digits: how `|` and `^` with `1 << i` change a number's digit i alone, and the lowest digit that is 1. Assumes nothing.
use mathlib.Core.Path.{◌≡◌, refl, ap, ◌∙◌}
use mathlib.Core.Logic.{◌≢◌}
use Prim.Native.Nat.{ℕ, zero, suc, ◌+◌, ◌*◌, ◌/◌, ◌%◌, ◌^◌, ◌≤◌, ◌<◌, max}
use native.Mathlib.Nat.{pow-suc, one-mul, max-zero}
use native.Mathlib.Omega.{arith}
use lib.Dec.{lit<}
use lib.Arith.{digits_div, digits_mod}
use lib.Pow.{pow-lt, shl_exact}
use lib.Bits.{bit_or, bit_xor, differ, or_step, xor_step, or_lt, xor_lt}
use lib.Count.{under, count_trailing_zeros}
use Rattle.sites.specs.Sites.{digit}

-- ---- digits

digit_lt : (j m : ℕ) → digit j m < 2
unfolding digit
digit_lt zero m = omega arith
digit_lt (suc j) m = digit_lt j (m / 2)

digit_zero : (j : ℕ) → digit j 0 ≡ 0
unfolding digit
digit_zero zero = refl
digit_zero (suc j) = digit_zero j

-- a number with a digit that is 1 is not 0
pub positive : (j m : ℕ) → digit j m ≡ 1 → 0 < m
positive j zero e = omega (arith, digit_zero j)
positive j (suc m) e = omega arith

-- a number below 2 ^ k has its digits in k places
pub place : (j k m : ℕ) → m < 2 ^ k → digit j m ≡ 1 → j < k
unfolding digit
place j zero m h e = omega (arith, positive j m e)
place zero (suc k) m h e = omega arith
place (suc j) (suc k) m h e = let l = place j k (m / 2) (omega (arith, pow-suc 2 k)) e in omega arith

-- ---- powers of 2

half_power : (i : ℕ) → 2 ^ suc i / 2 ≡ 2 ^ i
half_power i = omega (arith, pow-suc 2 i)

power_same : (i : ℕ) → digit i (2 ^ i) ≡ 1
unfolding digit
power_same zero = refl
power_same (suc i) = ap (digit i) (half_power i) ∙ power_same i

power_other : (i j : ℕ) → j ≢ i → digit j (2 ^ i) ≡ 0
unfolding digit
power_other zero zero h = absurd (h refl)
power_other zero (suc j) h = digit_zero j
power_other (suc i) zero h = omega (arith, pow-suc 2 i)
power_other (suc i) (suc j) h = ap (digit j) (half_power i) ∙ power_other i j (λ e. h (ap suc e))

-- what `1 << i` gives
abbrev pub bit : ℕ → ℕ
bit i = (1 * 2 ^ i) % 2 ^ 64

bit_power : (i : ℕ) → i < 64 → bit i ≡ 2 ^ i
bit_power i h = shl_exact 1 i 64 (lit< tt) (omega arith) ∙ one-mul (2 ^ i)

bit_lt : (i k : ℕ) → i < k → k ≤ 64 → bit i < 2 ^ k
bit_lt i k h l = rw (bit_power i (omega arith)) (pow-lt h)

-- ---- `|` and `^`

-- after is before with the digit i made d
pub record Changed (i d before after : ℕ) : Type 0 where
  pub same : digit i after ≡ d
  pub other : (j : ℕ) → j ≢ i → digit j after ≡ digit j before

-- an operation that works on each place apart, by f, which 0 does not change
module _ (op f : ℕ → ℕ → ℕ) (step : (a b : ℕ) → op a b ≡ op (a / 2) (b / 2) * 2 + f (a % 2) (b % 2)) (f_lt : (x y : ℕ) → x < 2 → y < 2 → f x y < 2)
    (f_zero : (x : ℕ) → f x 0 ≡ x) where
  digit_op : (j a b : ℕ) → digit j (op a b) ≡ f (digit j a) (digit j b)
  unfolding digit
  digit_op zero a b = ap (λ x. x % 2) (step a b) ∙ digits_mod (op (a / 2) (b / 2)) (f_lt _ _ (omega arith) (omega arith))
  digit_op (suc j) a b =
      ap (λ x. digit j (x / 2)) (step a b) ∙ ap (digit j) (digits_div (op (a / 2) (b / 2)) (f_lt _ _ (omega arith) (omega arith)))
      ∙ digit_op j (a / 2) (b / 2)

  op_changes : (i m d : ℕ) → i < 64 → f (digit i m) 1 ≡ d → Changed i d m (op m (bit i))
  op_changes i m d h e =
      record {
        same = digit_op i m (bit i) ∙ ap (λ x. f (digit i m) (digit i x)) (bit_power i h) ∙ ap (f (digit i m)) (power_same i) ∙ e;
        other = λ j n. digit_op j m (bit i) ∙ ap (λ x. f (digit j m) (digit j x)) (bit_power i h) ∙ ap (f (digit j m)) (power_other i j n) ∙ f_zero (digit j m);
      }

differ_lt : (x y : ℕ) → x < 2 → y < 2 → differ x y < 2
differ_lt zero y h l = l
differ_lt (suc x) zero h l = h
differ_lt (suc x) (suc y) h l = differ_lt x y (omega arith) (omega arith)

differ_zero : (x : ℕ) → differ x 0 ≡ x
differ_zero zero = refl
differ_zero (suc x) = refl

pub or_changes : (i m : ℕ) → i < 64 → Changed i 1 m (bit_or m (bit i))
or_changes i m h = op_changes bit_or max or_step (λ x y a b. omega arith) max-zero i m 1 h (omega (arith, digit_lt i m))

pub xor_changes : (i m : ℕ) → i < 64 → digit i m ≡ 1 → Changed i 0 m (bit_xor m (bit i))
xor_changes i m h e = op_changes bit_xor differ xor_step differ_lt differ_zero i m 0 h (ap (λ x. differ x 1) e)

pub or_below : (i k m : ℕ) → i < k → k ≤ 64 → m < 2 ^ k → bit_or m (bit i) < 2 ^ k
or_below i k m h l b = or_lt k m (bit i) b (bit_lt i k h l)

pub xor_below : (i k m : ℕ) → i < k → k ≤ 64 → m < 2 ^ k → bit_xor m (bit i) < 2 ^ k
xor_below i k m h l b = xor_lt k m (bit i) b (bit_lt i k h l)

-- ---- the lowest digit that is 1

pub lowest_one : (k m : ℕ) → 0 < m → m < 2 ^ k → digit (count_trailing_zeros k m) m ≡ 1
unfolding digit count_trailing_zeros
lowest_one zero m h l = omega arith
lowest_one (suc k) m h l = go (lowest_one k (m / 2)) (m % 2) refl
  where
    go : (0 < m / 2 → m / 2 < 2 ^ k → digit (count_trailing_zeros k (m / 2)) (m / 2) ≡ 1) → (d : ℕ) → m % 2 ≡ d → digit (under d (count_trailing_zeros k (m / 2))) m ≡ 1
    go ih zero e = ih (omega arith) (omega (arith, pow-suc 2 k))
    go ih (suc d) e = omega arith

pub below_zero : (k m j : ℕ) → j < count_trailing_zeros k m → digit j m ≡ 0
unfolding digit count_trailing_zeros
below_zero zero m j h = omega arith
below_zero (suc k) m j h = go (below_zero k (m / 2)) (m % 2) refl j h
  where
    go : ((j : ℕ) → j < count_trailing_zeros k (m / 2) → digit j (m / 2) ≡ 0) → (d : ℕ) → m % 2 ≡ d → (j : ℕ) → j < under d (count_trailing_zeros k (m / 2)) → digit j m ≡ 0
    go ih zero e zero h = e
    go ih zero e (suc j) h = ih j (omega arith)
    go ih (suc d) e j h = omega arith
