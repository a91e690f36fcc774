-- The 2^n patterns of n lines: patterns that agree on the lines below n are one, and each is the pattern of exactly one number below 2^n.
-- Assumes nothing.
use mathlib.Core.Path.{◌≡◌, refl, sym, ◌∙◌}
use mathlib.Core.Bool.{Bool, true, false, cond, beq}
use Prim.Native.Nat.{ℕ, zero, suc, ◌+◌, ◌*◌, ◌/◌, ◌%◌, ◌^◌, ◌<◌}
use native.Mathlib.Omega.{arith}
use native.Mathlib.Nat.{two-pow-succ}
use native.Mathlib.Decide.{ℕ_discrete}
use lib.Dec.{eqb}
use Rattle.meaning.specs.Pattern.{Pattern, flip, agree, pattern, number}
use Rattle.meaning.proofs.Flips.{both}

-- ---- agreement

beq_same : (a b : Bool) → beq a b ≡ true → a ≡ b
beq_same true true e = refl
beq_same true false e = sym e
beq_same false true e = e
beq_same false false e = refl

same_beq : (a b : Bool) → a ≡ b → beq a b ≡ true
same_beq true b e = rw (← e)
same_beq false b e = rw (← e)

-- two patterns agree exactly if they have the same bit on each line below n
pub agree_is : (n : ℕ) (x y : Pattern) → agree n x y ≡ true → (i : ℕ) → i < n → x i ≡ y i
unfolding agree
agree_is zero x y e i h = absurd (omega arith)
agree_is (suc n) x y e i h = go (ℕ_discrete i n) (agree_is n x y two.1 i)
  where
    two : (beq (x n) (y n) ≡ true) × (agree n x y ≡ true)
    two = both (beq (x n) (y n)) (agree n x y) e

    go : Dec (i ≡ n) → (i < n → x i ≡ y i) → x i ≡ y i
    go (yes p) rest = rw p (beq_same (x n) (y n) two.0)
    go (no p) rest = rest (omega arith)

pub is_agree : (n : ℕ) (x y : Pattern) → ((i : ℕ) → i < n → x i ≡ y i) → agree n x y ≡ true
unfolding agree
is_agree zero x y h = refl
is_agree (suc n) x y h = rw (same_beq (x n) (y n) (h n (omega arith)), is_agree n x y (λ i k. h i (omega arith)))

pub agree_sym : (n : ℕ) (x y : Pattern) → agree n x y ≡ true → agree n y x ≡ true
agree_sym n x y e = is_agree n y x (λ i h. sym (agree_is n x y e i h))

pub agree_trans : (n : ℕ) (x y z : Pattern) → agree n x y ≡ true → agree n y z ≡ true → agree n x z ≡ true
agree_trans n x y z e f = is_agree n x z (λ i h. agree_is n x y e i h ∙ agree_is n y z f i h)

-- two tests that each pass where the other does are one
pub same_tests : (a b : Bool) → (a ≡ true → b ≡ true) → (b ≡ true → a ≡ true) → a ≡ b
same_tests true b f g = sym (f refl)
same_tests false true f g = g refl
same_tests false false f g = refl

-- in an agreement, a pattern may be put for one that agrees with it
pub agree_left : (n : ℕ) (x x' y : Pattern) → agree n x x' ≡ true → agree n x y ≡ agree n x' y
agree_left n x x' y e = same_tests (agree n x y) (agree n x' y) (agree_trans n x' x y (agree_sym n x x' e)) (agree_trans n x x' y e)

pub agree_right : (n : ℕ) (x y y' : Pattern) → agree n y y' ≡ true → agree n x y ≡ agree n x y'
agree_right n x y y' e = same_tests (agree n x y) (agree n x y') (λ f. agree_trans n x y y' f e) (λ f. agree_trans n x y' y f (agree_sym n y y' e))

pub flip_agree : (n t : ℕ) (x y : Pattern) → agree n x y ≡ true → agree n (flip t x) (flip t y) ≡ true
unfolding flip
flip_agree n t x y e = is_agree n (flip t x) (flip t y) (λ i h. rw (agree_is n x y e i h))

-- ---- numbers

-- the number of a pattern is below 2^n
pub number_below : (n : ℕ) (x : Pattern) → number n x < 2 ^ n
unfolding number
number_below zero x = omega arith
number_below (suc n) x = go (x 0) (number_below n (λ i. x (suc i)))
  where
    go : (b : Bool) → number n (λ i. x (suc i)) < 2 ^ n → cond b 1 0 + 2 * number n (λ i. x (suc i)) < 2 ^ suc n
    go true h = omega (arith, two-pow-succ n)
    go false h = omega (arith, two-pow-succ n)

-- the digits of a number by its lowest: that one, and the others
pub lowest_digit : (b : Bool) (k : ℕ) → eqb ((cond b 1 0 + 2 * k) % 2) 1 ≡ b
lowest_digit true k = let e : (1 + 2 * k) % 2 ≡ 1 = omega arith in rw e
lowest_digit false k = let e : (0 + 2 * k) % 2 ≡ 0 = omega arith in rw e

pub other_digits : (b : Bool) (k : ℕ) → (cond b 1 0 + 2 * k) / 2 ≡ k
other_digits true k = omega arith
other_digits false k = omega arith

-- and its digits are the pattern
number_bit : (n : ℕ) (x : Pattern) (i : ℕ) → i < n → pattern (number n x) i ≡ x i
unfolding number pattern
number_bit zero x i h = absurd (omega arith)
number_bit (suc n) x zero h = lowest_digit (x 0) (number n (λ j. x (suc j)))
number_bit (suc n) x (suc i) h = rw (other_digits (x 0) (number n (λ j. x (suc j)))) (number_bit n (λ j. x (suc j)) i (omega arith))

pub pattern_number : (n : ℕ) (x : Pattern) → agree n (pattern (number n x)) x ≡ true
pattern_number n x = is_agree n (pattern (number n x)) x (number_bit n x)

-- patterns that agree have one number
pub number_agree : (n : ℕ) (x y : Pattern) → ((i : ℕ) → i < n → x i ≡ y i) → number n x ≡ number n y
unfolding number
number_agree zero x y h = refl
number_agree (suc n) x y h = rw (h 0 (omega arith), number_agree n (λ i. x (suc i)) (λ i. y (suc i)) (λ i k. h (suc i) (omega arith)))

digits : (k r : ℕ) → k % 2 ≡ r → cond (eqb r 1) 1 0 + 2 * (k / 2) ≡ k
digits k zero e = omega arith
digits k (suc zero) e = omega arith
digits k (suc (suc r)) e = absurd (omega arith)

-- the number of the pattern of a number below 2^n is that number
pub number_pattern : (n k : ℕ) → k < 2 ^ n → number n (pattern k) ≡ k
unfolding number pattern
number_pattern zero k h = omega arith
number_pattern (suc n) k h = rw (number_pattern n (k / 2) (omega (arith, two-pow-succ n))) (digits k (k % 2) refl)

-- each pattern agrees with the pattern of exactly one number below 2^n
pub one_number : (n : ℕ) (x : Pattern) (k : ℕ) → k < 2 ^ n → agree n (pattern k) x ≡ true → k ≡ number n x
one_number n x k h e = sym (number_pattern n k h) ∙ number_agree n (pattern k) x (agree_is n (pattern k) x e)
