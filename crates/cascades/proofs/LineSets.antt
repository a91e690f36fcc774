-- Sets of lines as numbers: which lines are unpacked. Assumes nothing.
use mathlib.Core.Path.{◌≡◌, refl}
use mathlib.Core.Bool.{Bool, true, false, cond}
use mathlib.Core.List.{◌∷◌}
use Prim.Native.Nat.{ℕ, zero, suc, ◌/◌, ◌%◌, ◌<◌}
use native.Mathlib.Omega.{arith}
use lib.Dec.{eqb}
use borrow.Author.Tests.{eq-eqb, ne_eqb}
use Rattle.meaning.specs.Pattern.{has}
use Rattle.cascades.specs.LineSets.{unpacked}

unpacked_low : (m i k j : ℕ) → j < i → has j (unpacked m i k) ≡ false
unfolding unpacked has
unpacked_low zero i k j h = refl
unpacked_low (suc m) i k j h = go (eqb (k % 2) 1) (unpacked_low m (suc i) (k / 2) j (omega arith))
  where
    go : (b : Bool) → has j (unpacked m (suc i) (k / 2)) ≡ false → has j (cond b (i ∷ unpacked m (suc i) (k / 2)) (unpacked m (suc i) (k / 2))) ≡ false
    go true e = rw (ne_eqb j i (λ q. omega arith), e)
    go false e = e

-- the first of them, by the lowest digit
pub unpacked_first : (m i k : ℕ) → has i (unpacked (suc m) i k) ≡ eqb (k % 2) 1
unfolding unpacked has
unpacked_first m i k = go (eqb (k % 2) 1) (unpacked_low m (suc i) (k / 2) i (omega arith))
  where
    go : (b : Bool) → has i (unpacked m (suc i) (k / 2)) ≡ false → has i (cond b (i ∷ unpacked m (suc i) (k / 2)) (unpacked m (suc i) (k / 2))) ≡ b
    go true e = rw (eq-eqb i i refl)
    go false e = e

-- and the others, by the other digits
pub unpacked_later : (m i k j : ℕ) → i < j → has j (unpacked (suc m) i k) ≡ has j (unpacked m (suc i) (k / 2))
unfolding unpacked has
unpacked_later m i k j h = go (eqb (k % 2) 1)
  where
    go : (b : Bool) → has j (cond b (i ∷ unpacked m (suc i) (k / 2)) (unpacked m (suc i) (k / 2))) ≡ has j (unpacked m (suc i) (k / 2))
    go true = rw (ne_eqb j i (λ q. omega arith))
    go false = refl
