-- Closed examples: `v 0 1` is 137, `vp 0 1` is 139, and 136 is that site with the gate removed; `cn 1 0` is 10, and 8 if it is removed; a NOT on
-- line 0 is 2. Assumes nothing.
use mathlib.Core.Path.{◌≡◌, refl}
use mathlib.Core.List.{[], ◌∷◌}
use Prim.Native.Nat.{ℕ, zero, suc, ◌/◌, ◌%◌, ◌≤◌, ◌<◌}
use native.Mathlib.Omega.{arith}
use lib.ListN.{get_or}
use Rattle.std.specs.Prelude.{Some, None}
use Rattle.gates.specs.Code.{joined}
use Rattle.stacks.specs.Remaining.{picked, kept, remaining}
use Rattle.stacks.specs.Found.{Found}
use Rattle.gates.proofs.CodePairs.{Clear}
use Rattle.stacks.proofs.Meeting.{Meets, meets_at, meets_nowhere}

-- a v and a vp are none, two v are a cn, two NOTs are none
v_vp : ◌≡◌ {A = ℕ} (joined 137 139) 136
v_vp = refl

v_v : ◌≡◌ {A = ℕ} (joined 137 137) 138
v_v = refl

not_not : ◌≡◌ {A = ℕ} (joined 2 2) 0
not_not = refl

-- a removed gate keeps its place
gaps : remaining (136 ∷ 10 ∷ 136 ∷ 2 ∷ []) ≡ 10 ∷ 2 ∷ []
unfolding remaining kept picked
gaps = refl

-- `cn 1 0` stands between `v 0 1` and the new `vp 0 1`, which has no partner
blocked : Found (137 ∷ 10 ∷ []) 2 139 None
blocked = meets_nowhere 139 (137 ∷ 10 ∷ []) 2 (omega arith) (λ j m. none j m)
  where
    none : (j : ℕ) → Meets (137 ∷ 10 ∷ []) 2 139 j → ⊥
    none zero m = let f = m.free 1 (omega arith) (omega arith) (omega arith) in omega (arith, f)
    none (suc zero) m = let e = m.site in omega arith
    none (suc (suc j)) m = omega (arith, m.inside)

-- once it is removed, `v 0 1` is the partner
cleared : Found (137 ∷ 8 ∷ []) 2 139 (Some 0)
cleared = meets_at 139 (137 ∷ 8 ∷ []) 2 0 (omega arith) (record { inside = omega arith; there = omega arith; site = refl; free = λ i a b c. between i a b c })
  where
    between : (i : ℕ) → 0 < i → i < 2 → 1 ≤ get_or (137 ∷ 8 ∷ []) i 0 % 4 → Clear (139 / 4) (get_or (137 ∷ 8 ∷ []) i 0 / 4)
    between zero a b c = absurd (omega arith)
    between (suc zero) a b c = absurd (omega arith)
    between (suc (suc i)) a b c = absurd (omega arith)
