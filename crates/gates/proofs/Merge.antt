-- The merge of two gates of one site, as a list of one gate or none: it keeps the site, is a step, and has the laws of sums modulo 4.
-- Assumes nothing.
use mathlib.Core.Path.{◌≡◌, refl}
use mathlib.Core.List.{List, [], ◌∷◌, ◌++◌}
use Prim.Native.Nat.{ℕ, zero, suc, ◌+◌, ◌%◌, ◌≤◌, ◌<◌}
use native.Mathlib.Nat.{add_comm, add_assoc, mod-add-mod, add-mod-mod}
use native.Mathlib.Omega.{arith}
use Rattle.gates.specs.declared.Gate.{Gate}
use Rattle.gates.specs.declared.Gate.TheVariants.{Not, Powered}
use Rattle.gates.specs.Circuit.{target, slot, power, powered, Valid, valid_not, valid_powered, AllValid, Rewrite, merge, cancel}
use Rattle.gates.specs.Sites.{Same}
use Rattle.gates.proofs.Pushing.{merged}

pub powered_one : (p c t : ℕ) → 1 ≤ p → powered p c t ≡ Powered p c t ∷ []
unfolding powered
powered_one zero c t h = absurd (omega arith)
powered_one (suc p) c t h = refl

-- none is left, or one gate of the site
pub data Sum (a g : Gate) : Type 0 where
  gone : merged a g ≡ [] → Sum a g
  one : (x : Gate) → merged a g ≡ x ∷ [] → Same a x → Sum a g

pub sum : (a g : Gate) → Sum a g
unfolding merged powered target slot
sum (Not t) g = gone refl
sum (Powered p c t) g = go ((p + power g) % 4) refl
  where
    go : (m : ℕ) → (p + power g) % 4 ≡ m → Sum (Powered p c t) g
    go zero e = gone (rw e)
    go (suc m) e = one (Powered (suc m) c t) (rw e) (record { targets = refl; controls = refl })

-- what holds of v, and of v behind any gate of the site, holds of v behind the merge
pub merged_elim : (P : List Gate → Type 0) (a g : Gate) (v : List Gate) → P v → ((x : Gate) → Same a x → P (x ∷ v)) → P (merged a g ++ v)
merged_elim P a g v p q = go (sum a g)
  where
    go : Sum a g → P (merged a g ++ v)
    go (gone e) = rw e p
    go (one x e s) = rw e (q x s)

all_valid_powered : {n : ℕ} (p c t : ℕ) → p ≤ 3 → c < n → t < n → (c ≡ t → ⊥) → AllValid n (powered p c t)
unfolding powered
all_valid_powered zero c t h i j k = tt
all_valid_powered (suc p) c t h i j k = (valid_powered {p = suc p} (omega arith) h i j k, tt)

pub all_valid_merged : {n : ℕ} {a : Gate} (g : Gate) → Valid n a → AllValid n (merged a g)
unfolding merged
all_valid_merged g (valid_not h) = tt
all_valid_merged g (valid_powered {p} {c} {t} h i j k l) = all_valid_powered ((p + power g) % 4) c t (omega arith) j k l

-- ---- three of one site: a, g, h. The merge of a and g, or of g and h, may be none

pub data Triple (a g h : Gate) : Type 0 where
  neither : merged a g ≡ [] → merged g h ≡ [] → h ≡ a → Triple a g h
  left : (k : Gate) → merged a g ≡ [] → merged g h ≡ k ∷ [] → merged a k ≡ h ∷ [] → Same g k → Triple a g h
  right : (x : Gate) → merged a g ≡ x ∷ [] → merged g h ≡ [] → merged x h ≡ a ∷ [] → Same a x → Triple a g h
  both : (x k : Gate) → merged a g ≡ x ∷ [] → merged g h ≡ k ∷ [] → merged x h ≡ merged a k → Same a x → Same g k → Triple a g h

pub merged_same : (p q c t : ℕ) → Same (Powered p c t) (Powered q c t)
unfolding target slot
merged_same p q c t = record { targets = refl; controls = refl }

sum_none : (i j c t : ℕ) → (i + j) % 4 ≡ 0 → merged (Powered i c t) (Powered j c t) ≡ []
unfolding merged power powered
sum_none i j c t e = rw e

sum_is : (i j m c t : ℕ) → (i + j) % 4 ≡ m → 1 ≤ m → merged (Powered i c t) (Powered j c t) ≡ Powered m c t ∷ []
unfolding merged power
sum_is i j m c t e h = rw e (powered_one m c t h)

sum_as : (i j k l c t : ℕ) → (i + j) % 4 ≡ (k + l) % 4 → merged (Powered i c t) (Powered j c t) ≡ merged (Powered k c t) (Powered l c t)
unfolding merged power
sum_as i j k l c t e = rw e

mod_assoc : (p q r m k : ℕ) → (p + q) % 4 ≡ m → (q + r) % 4 ≡ k → (m + r) % 4 ≡ (p + k) % 4
mod_assoc p q r m k e f = rw (← e, ← f, mod-add-mod, add-mod-mod, add_assoc)

powers : (p q r c t : ℕ) → 1 ≤ p → p ≤ 3 → 1 ≤ q → q ≤ 3 → 1 ≤ r → r ≤ 3 → Triple (Powered p c t) (Powered q c t) (Powered r c t)
powers p q r c t h₁ h₂ h₃ h₄ h₅ h₆ = go ((p + q) % 4) refl ((q + r) % 4) refl
  where
    go : (m : ℕ) → (p + q) % 4 ≡ m → (k : ℕ) → (q + r) % 4 ≡ k → Triple (Powered p c t) (Powered q c t) (Powered r c t)
    go zero e zero f = neither (sum_none p q c t e) (sum_none q r c t f) (let i : r ≡ p = omega arith in rw i)
    go zero e (suc k) f =
        left (Powered (suc k) c t) (sum_none p q c t e) (sum_is q r (suc k) c t f (omega arith)) (sum_is p (suc k) r c t (omega arith) h₅) (merged_same q (suc k) c t)
    go (suc m) e zero f =
        right (Powered (suc m) c t) (sum_is p q (suc m) c t e (omega arith)) (sum_none q r c t f) (sum_is (suc m) r p c t (omega arith) h₁) (merged_same p (suc m) c t)
    go (suc m) e (suc k) f =
        both (Powered (suc m) c t) (Powered (suc k) c t) (sum_is p q (suc m) c t e (omega arith)) (sum_is q r (suc k) c t f (omega arith))
        (sum_as (suc m) r p (suc k) c t (mod_assoc p q r (suc m) (suc k) e f)) (merged_same p (suc m) c t) (merged_same q (suc k) c t)

-- gates of one site are all Not, or all Powered
pub data Alike : Gate → Gate → Type 0 where
  nots : (t : ℕ) → Alike (Not t) (Not t)
  powereds : (p q c t : ℕ) → Alike (Powered p c t) (Powered q c t)

pub alike : (g h : Gate) → Same g h → Alike g h
unfolding target slot
alike (Not t) (Not u) s = let e : u ≡ t = omega arith in rw e (nots t)
alike (Not t) (Powered p c u) s = absurd (omega arith)
alike (Powered p c t) (Not u) s = absurd (omega arith)
alike (Powered p c t) (Powered q d u) s = let e : u ≡ t = omega arith in let f : d ≡ c = omega arith in rw (e, f) (powereds p q c t)

triple_alike : {n : ℕ} {a g h : Gate} → Alike a g → Alike g h → Valid n a → Valid n g → Valid n h → Triple a g h
unfolding merged
triple_alike (nots t) (nots _) x y z = neither refl refl refl
triple_alike (powereds p q c t) (powereds _ r _ _) (valid_powered h₁ h₂ _ _ _) (valid_powered h₃ h₄ _ _ _) (valid_powered h₅ h₆ _ _ _) = powers p q r c t h₁ h₂ h₃ h₄ h₅ h₆

pub triple : {n : ℕ} {a g h : Gate} → Same a g → Same g h → Valid n a → Valid n g → Valid n h → Triple a g h
triple {a = a} {g} {h} s t x y z = triple_alike (alike a g s) (alike g h t) x y z

-- ---- the merge is a step, and does not mind which of the two comes first

-- document 01's examples: two v are a cn, a cn and a v are a vp, a v and a vp are none
v_and_v : Rewrite (Powered 1 0 1 ∷ Powered 1 0 1 ∷ []) (Powered 2 0 1 ∷ [])
unfolding powered
v_and_v = merge 1 1 0 1

cn_and_v : Rewrite (Powered 2 0 1 ∷ Powered 1 0 1 ∷ []) (Powered 3 0 1 ∷ [])
unfolding powered
cn_and_v = merge 2 1 0 1

v_and_vp : Rewrite (Powered 1 0 1 ∷ Powered 3 0 1 ∷ []) []
unfolding powered
v_and_vp = merge 1 3 0 1

rewrite_alike : {a g : Gate} → Alike a g → Rewrite (a ∷ g ∷ []) (merged a g)
unfolding merged power
rewrite_alike (nots t) = cancel t
rewrite_alike (powereds p q c t) = merge p q c t

pub merged_rewrite : {a g : Gate} → Same a g → Rewrite (a ∷ g ∷ []) (merged a g)
merged_rewrite {a} {g} s = rewrite_alike (alike a g s)

comm_alike : {a g : Gate} → Alike a g → merged a g ≡ merged g a
unfolding merged power
comm_alike (nots t) = refl
comm_alike (powereds p q c t) = rw (add_comm p q)

pub merged_comm : {a g : Gate} → Same a g → merged a g ≡ merged g a
merged_comm {a} {g} s = comm_alike (alike a g s)

pub merged_powered : (p q c t : ℕ) → merged (Powered p c t) (Powered q c t) ≡ powered ((p + q) % 4) c t
unfolding merged power
merged_powered p q c t = refl

pub merged_not : (t u : ℕ) → merged (Not t) (Not u) ≡ []
unfolding merged
merged_not t u = refl
