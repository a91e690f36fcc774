-- Laws of amplitudes: sums and products as in every ring, products of the four doubled matrices, and 2^m times. Assumes nothing.
use mathlib.Core.Path.{◌≡◌, refl, sym, ◌∙◌, ap}
use Prim.Native.Nat.{ℕ, zero, suc, ◌+◌, ◌<◌, ◌%◌, ◌^◌}
use native.Mathlib.Omega.{arith}
use native.Mathlib.Nat.{zero-add, suc-add, two-pow-succ}
use lib.IntN.{ℤ, pos, neg_ℤ, ◌+ℤ◌, ◌*ℤ◌, +ℤ_comm, +ℤ_assoc, +ℤ_idl, +ℤ_idr, neg_ℤ-+ℤ, *ℤ_comm, *ℤ-one, *ℤ-zero, one as one_ℤ}
use Rattle.meaning.specs.Amplitude.{Amplitude, one, nought, ◌⊕◌, ◌⊗◌, doubled, diagonal, off_diagonal, mix}
use Rattle.meaning.proofs.Whole.{◌⊖◌, split, same, whole, zero_is, two_is, halve}

pub same_amplitude : {a b : Amplitude} → a.re ≡ b.re → a.im ≡ b.im → a ≡ b
same_amplitude p q = λ i. record { re = p i; im = q i }

-- ---- integers

-- laws that `lib.IntN` lacks
*ℤ_assoc : (x y z : ℤ) → x *ℤ y *ℤ z ≡ x *ℤ (y *ℤ z)
*ℤ_assoc x y z = rw (split x, split y, split z) (simp whole (same _ _ _ _ (omega arith)))

*ℤ_sum : (x y z : ℤ) → x *ℤ (y +ℤ z) ≡ x *ℤ y +ℤ x *ℤ z
*ℤ_sum x y z = rw (split x, split y, split z) (simp whole (same _ _ _ _ (omega arith)))

sum_*ℤ : (x y z : ℤ) → (x +ℤ y) *ℤ z ≡ x *ℤ z +ℤ y *ℤ z
sum_*ℤ x y z = rw (split x, split y, split z) (simp whole (same _ _ _ _ (omega arith)))

*ℤ_neg : (x y : ℤ) → x *ℤ neg_ℤ y ≡ neg_ℤ (x *ℤ y)
*ℤ_neg x y = rw (split x, split y) (simp whole (same _ _ _ _ (omega arith)))

neg_*ℤ : (x y : ℤ) → neg_ℤ x *ℤ y ≡ neg_ℤ (x *ℤ y)
neg_*ℤ x y = rw (split x, split y) (simp whole (same _ _ _ _ (omega arith)))

+ℤ_left : (x y z : ℤ) → x +ℤ (y +ℤ z) ≡ y +ℤ (x +ℤ z)
+ℤ_left x y z = rw (split x, split y, split z) (simp whole (same _ _ _ _ (omega arith)))

ruleset integers = (*ℤ_sum, sum_*ℤ, *ℤ_neg, neg_*ℤ, neg_ℤ-+ℤ, *ℤ_assoc, +ℤ_assoc, +ℤ_comm, +ℤ_left)

-- ---- sums and products

pub ⊗_comm : (a b : Amplitude) → a ⊗ b ≡ b ⊗ a
unfolding ◌⊗◌
⊗_comm a b = same_amplitude (rw (*ℤ_comm a.re b.re, *ℤ_comm a.im b.im)) (rw (*ℤ_comm a.re b.im, *ℤ_comm a.im b.re) (+ℤ_comm (b.im *ℤ a.re) (b.re *ℤ a.im)))

pub ⊗_assoc : (a b c : Amplitude) → a ⊗ b ⊗ c ≡ a ⊗ (b ⊗ c)
unfolding ◌⊗◌
⊗_assoc a b c = same_amplitude (simp integers) (simp integers)

pub ⊗_⊕ : (a b c : Amplitude) → a ⊗ (b ⊕ c) ≡ a ⊗ b ⊕ a ⊗ c
unfolding ◌⊕◌ ◌⊗◌
⊗_⊕ a b c = same_amplitude (simp integers) (simp integers)

pub ⊕_comm : (a b : Amplitude) → a ⊕ b ≡ b ⊕ a
unfolding ◌⊕◌
⊕_comm a b = same_amplitude (+ℤ_comm a.re b.re) (+ℤ_comm a.im b.im)

pub ⊕_assoc : (a b c : Amplitude) → a ⊕ b ⊕ c ≡ a ⊕ (b ⊕ c)
unfolding ◌⊕◌
⊕_assoc a b c = same_amplitude (simp integers) (simp integers)

pub ⊕_left : (a b c : Amplitude) → a ⊕ (b ⊕ c) ≡ b ⊕ (a ⊕ c)
⊕_left a b c = sym (⊕_assoc a b c) ∙ rw (⊕_comm a b) (⊕_assoc b a c)

pub ⊗_left : (a b c : Amplitude) → a ⊗ (b ⊗ c) ≡ b ⊗ (a ⊗ c)
⊗_left a b c = sym (⊗_assoc a b c) ∙ rw (⊗_comm a b) (⊗_assoc b a c)

pub ⊕_⊗ : (a b c : Amplitude) → (a ⊕ b) ⊗ c ≡ a ⊗ c ⊕ b ⊗ c
⊕_⊗ a b c = ⊗_comm (a ⊕ b) c ∙ ⊗_⊕ c a b ∙ rw (⊗_comm c a, ⊗_comm c b)

-- 1 and 0
pub times_one : (a : Amplitude) → a ⊗ one ≡ a
unfolding ◌⊗◌ one_ℤ
times_one a = same_amplitude (rw (*ℤ-one a.re, *ℤ-zero a.im) (+ℤ_idr a.re)) (rw (*ℤ-zero a.re, *ℤ-one a.im) (+ℤ_idl a.im))

pub times_nought : (a : Amplitude) → a ⊗ nought ≡ nought
unfolding ◌⊗◌
times_nought a = same_amplitude (rw (*ℤ-zero a.re, *ℤ-zero a.im)) (rw (*ℤ-zero a.re, *ℤ-zero a.im))

pub nought_times : (a : Amplitude) → nought ⊗ a ≡ nought
nought_times a = ⊗_comm nought a ∙ times_nought a

pub plus_nought : (a : Amplitude) → a ⊕ nought ≡ a
unfolding ◌⊕◌
plus_nought a = same_amplitude (+ℤ_idr a.re) (+ℤ_idr a.im)

pub nought_plus : (a : Amplitude) → nought ⊕ a ≡ a
nought_plus a = ⊕_comm nought a ∙ plus_nought a

-- sorts a polynomial of amplitudes
pub ruleset ring = (⊗_⊕, ⊕_⊗, ⊗_assoc, ⊗_left, ⊗_comm, ⊕_assoc, ⊕_left, ⊕_comm)

-- ---- the four doubled matrices

-- two powers, on two targets, in either order
pub mix_swap : (p q : ℕ) (a b c d : Amplitude) → mix q (mix p a b) (mix p c d) ≡ mix p (mix q a c) (mix q b d)
unfolding mix
mix_swap p q a b c d = simp ring

pub below_four : (P : ℕ → Type 0) → P 0 → P 1 → P 2 → P 3 → (p : ℕ) → p < 4 → P p
below_four P a b c d zero h = a
below_four P a b c d (suc zero) h = b
below_four P a b c d (suc (suc zero)) h = c
below_four P a b c d (suc (suc (suc zero))) h = d
below_four P a b c d (suc (suc (suc (suc p)))) h = absurd (omega arith)

-- the product of twice the p-th power and twice the q-th is 4 times the (p+q)-th: the diagonal and the rest
abbrev Product : ℕ → ℕ → Type 0
Product p q = (diagonal q ⊗ diagonal p ⊕ off_diagonal q ⊗ off_diagonal p ≡ diagonal ((p + q) % 4) ⊕ diagonal ((p + q) % 4)) × (diagonal q ⊗ off_diagonal p ⊕ off_diagonal q ⊗ diagonal p ≡ off_diagonal ((p + q) % 4) ⊕ off_diagonal ((p + q) % 4))

products : (p : ℕ) → p < 4 → (q : ℕ) → q < 4 → Product p q
unfolding diagonal off_diagonal ◌⊗◌ ◌⊕◌
products = below_four (λ p. (q : ℕ) → q < 4 → Product p q) (row 0 r r r r) (row 1 r r r r) (row 2 r r r r) (row 3 r r r r)
  where
    row : (p : ℕ) → Product p 0 → Product p 1 → Product p 2 → Product p 3 → (q : ℕ) → q < 4 → Product p q
    row p = below_four (Product p)

    r : {a b : Amplitude} → (a ≡ a) × (b ≡ b)
    r = (refl, refl)

-- twice the q-th power after twice the p-th is 2 times twice the (p+q)-th
pub mix_mix : (p q : ℕ) → p < 4 → q < 4 → (a b : Amplitude) → mix q (mix p a b) (mix p b a) ≡ mix ((p + q) % 4) a b ⊕ mix ((p + q) % 4) a b
unfolding mix
mix_mix p q h k a b = gather ∙ rw ((products p h q k).0, (products p h q k).1) (simp ring)
  where
    gather : mix q (mix p a b) (mix p b a) ≡ (diagonal q ⊗ diagonal p ⊕ off_diagonal q ⊗ off_diagonal p) ⊗ a ⊕ (diagonal q ⊗ off_diagonal p ⊕ off_diagonal q ⊗ diagonal p) ⊗ b
    gather = simp ring

-- the number 2 times a and 0 times b, with the two numbers as variables: at `pos 2` itself the product has half computed, and no rule fits it
two_and_nought : (d o a b : Amplitude) → d.re ≡ 2 ⊖ 0 → d.im ≡ 0 ⊖ 0 → o.re ≡ 0 ⊖ 0 → o.im ≡ 0 ⊖ 0 → d ⊗ a ⊕ o ⊗ b ≡ a ⊕ a
unfolding ◌⊗◌ ◌⊕◌
two_and_nought d o a b p q r s = same_amplitude (rw (p, q, r, s, split a.re, split a.im, split b.re, split b.im) (simp whole (same _ _ _ _ (omega arith)))) (rw (p, q, r, s, split a.re, split a.im, split b.re, split b.im) (simp whole (same _ _ _ _ (omega arith))))

pub mix_zero : (a b : Amplitude) → mix 0 a b ≡ a ⊕ a
unfolding mix diagonal off_diagonal
mix_zero a b = two_and_nought (diagonal 0) (off_diagonal 0) a b two_is zero_is zero_is zero_is

pub mix_two : (a b : Amplitude) → mix 2 a b ≡ b ⊕ b
unfolding mix diagonal off_diagonal
mix_two a b = ⊕_comm (diagonal 2 ⊗ a) (off_diagonal 2 ⊗ b) ∙ two_and_nought (off_diagonal 2) (diagonal 2) b a two_is zero_is zero_is zero_is

-- ---- 2^m times

-- "After m powered gates amplitude 1 is the number 2^m"
pub amplitude_one : (m : ℕ) → doubled m one ≡ record { re = pos (2 ^ m); im = pos 0 }
unfolding doubled ◌⊕◌
amplitude_one zero = refl
amplitude_one (suc m) = rw (amplitude_one m, two-pow-succ m)

pub doubled_⊕ : (m : ℕ) (a b : Amplitude) → doubled m (a ⊕ b) ≡ doubled m a ⊕ doubled m b
unfolding doubled
doubled_⊕ zero a b = refl
doubled_⊕ (suc m) a b = rw (doubled_⊕ m a b) (simp ring)

pub twice_mix : (p : ℕ) (c d : Amplitude) → mix p (c ⊕ c) (d ⊕ d) ≡ mix p c d ⊕ mix p c d
unfolding mix
twice_mix p c d = simp ring

pub doubled_mix : (p m : ℕ) (a b : Amplitude) → mix p (doubled m a) (doubled m b) ≡ doubled m (mix p a b)
unfolding doubled
doubled_mix p zero a b = refl
doubled_mix p (suc m) a b = rw (← doubled_mix p m a b) (twice_mix p (doubled m a) (doubled m b))

pub doubled_add : (m n : ℕ) (a : Amplitude) → doubled (m + n) a ≡ doubled m (doubled n a)
unfolding doubled
doubled_add zero n a = rw zero-add
doubled_add (suc m) n a = rw (suc-add, doubled_add m n a)

pub doubled_nought : (m : ℕ) → doubled m nought ≡ nought
unfolding doubled ◌⊕◌
doubled_nought zero = refl
doubled_nought (suc m) = rw (doubled_nought m)

pub halved : (a b : Amplitude) → a ⊕ a ≡ b ⊕ b → a ≡ b
unfolding ◌⊕◌
halved a b e = same_amplitude (halve a.re b.re (ap (λ (c : Amplitude). c.re) e)) (halve a.im b.im (ap (λ (c : Amplitude). c.im) e))

pub cancel : (m : ℕ) (a b : Amplitude) → doubled m a ≡ doubled m b → a ≡ b
unfolding doubled
cancel zero a b e = e
cancel (suc m) a b e = cancel m a b (halved (doubled m a) (doubled m b) e)

pub doubled_times : (m : ℕ) (k a : Amplitude) → doubled m (k ⊗ a) ≡ k ⊗ doubled m a
unfolding doubled
doubled_times zero k a = refl
doubled_times (suc m) k a = rw (doubled_times m k a) (sym (⊗_⊕ k (doubled m a) (doubled m a)))

-- ---- a matrix is linear

pub mix_times : (p : ℕ) (k a b : Amplitude) → mix p (k ⊗ a) (k ⊗ b) ≡ k ⊗ mix p a b
unfolding mix
mix_times p k a b = simp ring

pub mix_sum : (p : ℕ) (a b c d : Amplitude) → mix p (a ⊕ c) (b ⊕ d) ≡ mix p a b ⊕ mix p c d
unfolding mix
mix_sum p a b c d = simp ring
