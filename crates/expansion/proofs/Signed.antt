-- NOTs that are written one after the other. Assumes nothing.
use mathlib.Core.Path.{◌≡◌, refl, ap}
use mathlib.Core.List.{List, [], ◌∷◌}
use Prim.Native.Nat.{ℕ, zero, suc, ◌+◌, ◌<◌}
use native.Mathlib.Omega.{arith}
use native.Mathlib.Numerals.{add-one}
use lib.ListN.{length, take, get_or}
use Rattle.gates.specs.declared.Gate.{Gate}
use Rattle.gates.specs.declared.Gate.TheVariants.{Not}
use Rattle.cascades.specs.Expansion.{◌⨾◌}
use Rattle.cascades.specs.Signs.{nots}
use Rattle.expansion.specs.Written.{Written}
use Rattle.expansion.proofs.Writing.{both}

next_not : (l : List ℕ) (i : ℕ) → i < length l → nots (take (suc i) l) ≡ nots (take i l) ⨾ (Not (get_or l i 0) ∷ [])
unfolding nots ◌⨾◌
next_not [] i h = absurd (omega arith)
next_not (c ∷ l) zero h = refl
next_not (c ∷ l) (suc i) h = ap (λ (m : List Gate). Not c ∷ m) (next_not l i (omega arith))

-- the first i of them, and the next
pub more : (l : List ℕ) {i : ℕ} {a b c : List ℕ} {j k m : ℕ} → i < length l → Written (nots (take i l)) a j b k → Written (Not (get_or l i 0) ∷ []) b k c m → Written (nots (take (i + 1) l)) a j c m
more l {i} h w u = rw (add-one i, next_not l i h) (both w u)
