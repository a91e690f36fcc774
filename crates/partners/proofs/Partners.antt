-- The partner of a new gate is what a scan from the right looks for. Assumes nothing.
use mathlib.Core.Path.{◌≡◌, refl}
use mathlib.Core.Logic.{◌⊎◌, inl, inr}
use mathlib.Core.List.{List, [], ◌∷◌, ◌++◌}
use Prim.Native.Nat.{ℕ, zero, suc, ◌+◌, ◌<◌}
use native.Mathlib.Omega.{arith}
use lib.ListN.{length, drop, get_or}
use Rattle.gates.specs.declared.Gate.{Gate}
use Rattle.gates.specs.Circuit.{power, Valid}
use Rattle.gates.specs.Sites.{Same, Free, free_nil, free_cons}
use Rattle.gates.proofs.Pushing.{merged, free_dec}
use Rattle.gates.proofs.Sites.{same_refl, same_sym, less_irrefl, passes_same_right, passes_self, Order, before, level, after, order}
use Rattle.gates.proofs.Merge.{merged_same, Alike, nots, powereds, alike}
use Rattle.partners.specs.Partner.{Placed, with_places, Moves, still, swap, Merges, sums, cancels, Brought}
use Rattle.partners.proofs.Places.{moves_trans, moves_cons, slide, Open, at_front, past, Near, first, second, further, near_neighbours, near_moves}

-- ---- what a scan looks for

-- the gate of place i has g's target and control, and g passes every gate after it
pub record Meets (c : List Gate) (g : Gate) (i : ℕ) : Type 0 where
  pub inside : i < length c
  pub site : Same (get_or c i g) g
  pub free : Free g (drop (suc i) c)

-- ---- two gates that merge

pub merges_same : {a g : Gate} {x : List Gate} → Merges a g x → Same a g
merges_same (sums p q c t) = merged_same p q c t
merges_same (cancels t) = same_refl _

pub merges_merged : {a g : Gate} {x : List Gate} → Merges a g x → merged a g ≡ x
unfolding merged power
merges_merged (sums p q c t) = refl
merges_merged (cancels t) = refl

merges_alike : {a g : Gate} → Alike a g → Merges a g (merged a g)
unfolding merged power
merges_alike (nots t) = cancels t
merges_alike (powereds p q c t) = sums p q c t

pub same_merges : {a g : Gate} → Same a g → Merges a g (merged a g)
same_merges {a} {g} s = merges_alike (alike a g s)

-- ---- partners, gate by gate

-- a, at place i, has g's site, and g passes every gate after it
pub data Partner (g a : Gate) : List Gate → ℕ → Type 0 where
  here : {v : List Gate} → Same a g → Free g v → Partner g a (a ∷ v) zero
  later : {b : Gate} {v : List Gate} {i : ℕ} → Partner g a v i → Partner g a (b ∷ v) (suc i)

pub meets_partner : (c : List Gate) (g : Gate) (i : ℕ) → Meets c g i → Partner g (get_or c i g) c i
meets_partner [] g i w = absurd (omega (arith, w.inside))
meets_partner (a ∷ v) g zero w = here w.site w.free
meets_partner (a ∷ v) g (suc i) w = later (meets_partner v g i (record { inside = omega (arith, w.inside); site = w.site; free = w.free }))

pub partner_meets : {g a : Gate} {c : List Gate} {i : ℕ} → Partner g a c i → Meets c g i
partner_meets (here s f) = record { inside = omega arith; site = s; free = f }
partner_meets (later p) = let w = partner_meets p in record { inside = omega (arith, w.inside); site = w.site; free = w.free }

-- it is the gate at place i
pub partner_at : {g a : Gate} {c : List Gate} {i : ℕ} → Partner g a c i → a ≡ get_or c i g
partner_at (here s f) = refl
partner_at (later p) = partner_at p

pub partner_same : {g a : Gate} {c : List Gate} {i : ℕ} → Partner g a c i → Same a g
partner_same (here s f) = s
partner_same (later p) = partner_same p

-- ---- a partner is brought

places_snoc : (c : List Gate) (g : Gate) (j : ℕ) → with_places j (c ++ g ∷ []) ≡ with_places j c ++ record { place = j + length c; gate = g } ∷ []
places_snoc [] g j = let e : j + 0 ≡ j = omega arith in rw e
places_snoc (b ∷ c) g j = let e : j + suc (length c) ≡ suc j + length c = omega arith in rw (e, places_snoc c g (suc j))

-- from places counted from j
record Way (c : List Gate) (j k : ℕ) (a g : Gate) (i : ℕ) : Type 0 where
  left : List Placed
  right : List Placed
  moves : Moves (with_places j c ++ record { place = k; gate = g } ∷ []) (left ++ record { place = i; gate = a } ∷ record { place = k; gate = g } ∷ right)

way : {g a : Gate} {c : List Gate} {i : ℕ} (j k m : ℕ) → m ≡ j + i → Partner g a c i → Way c j k a g m
way {g = g} j k m e (here {v} s f) =
    let z : m ≡ j = omega arith in
    rw z (record { left = []; right = with_places (suc j) v; moves = moves_cons _ (slide (record { place = k; gate = g }) (suc j) f) })
way j k m e (later {b} p) =
    let x : Placed = record { place = j; gate = b } in
    let w = way (suc j) k m (omega arith) p in
    record { left = x ∷ w.left; right = w.right; moves = moves_cons x w.moves }

pub partner_brought : {c : List Gate} {g a : Gate} {i : ℕ} → Partner g a c i → Brought c g i
partner_brought {c} {g} {a} {i} p =
    let z : 0 + length c ≡ length c = omega arith in
    let w = way 0 (length c) i (omega arith) p in
    record { partner = a; left = w.left; right = w.right; moves = rw (places_snoc c g 0, z) w.moves; merge = merged a g; merges = same_merges (partner_same p) }

-- ---- what is brought is a partner

open_nil : {z : Placed} {X : Type 0} → Open z [] → X
open_nil o = elim o [ ]

near_nil : {x y : Placed} {X : Type 0} → Near x y [] → X
near_nil n = elim n [ ]

open_free : (c : List Gate) (g : Gate) (j : ℕ) {y : Placed} → y.place ≡ j + length c → Open y (with_places j (c ++ g ∷ [])) → Free y.gate c
open_free [] g j e o = free_nil
open_free (b ∷ c) g j e at_front = absurd (omega arith)
open_free (b ∷ c) g j e (past p o) = free_cons p (open_free c g (suc j) (omega arith) o)

near_partner : (c : List Gate) {g : Gate} (j : ℕ) {x y : Placed} → y.place ≡ j + length c → y.gate ≡ g → Same x.gate g → Near x y (with_places j (c ++ g ∷ [])) → (i : ℕ) × (x.place ≡ j + i) × Partner g x.gate c i
near_partner [] j e f s (first o) = open_nil o
near_partner [] j e f s (second o) = open_nil o
near_partner [] j e f s (further n) = near_nil n
near_partner (b ∷ c) {g} j e f s (first o) = (0, omega arith, here s (rw f at (open_free c g (suc j) (omega arith) o)))
near_partner (b ∷ c) j e f s (second o) = absurd (omega arith)
near_partner (b ∷ c) j e f s (further n) = let w = near_partner c (suc j) (omega arith) f s n in (suc w.0, omega (arith, w.1), later w.2)

pub brought_partner : {c : List Gate} {g : Gate} {i : ℕ} (b : Brought c g i) → Partner g b.partner c i
brought_partner {c} {g} {i} b =
    let s = merges_same b.merges in
    let w = near_partner c 0 (omega arith) refl s (near_moves s b.moves (near_neighbours b.left b.right)) in
    let e : w.0 ≡ i = omega (arith, w.1) in
    rw e at w.2

-- where the gate of place i comes to stand directly behind g, one more pass brings it before g: beside is before
pub brought_behind : {n : ℕ} {c : List Gate} {g a : Gate} {i : ℕ} {x : List Gate} (u v : List Placed) → Valid n g → Merges a g x
    → Moves (with_places 0 (c ++ g ∷ [])) (u ++ record { place = length c; gate = g } ∷ record { place = i; gate = a } ∷ v) → Brought c g i
brought_behind {c = c} {g} {a} {i} {x} u v k m r = record {
  partner = a;
  left = u;
  right = v;
  moves = moves_trans r (swap u (record { place = length c; gate = g }) (record { place = i; gate = a }) v (passes_same_right (same_sym (merges_same m)) (passes_self k)) still);
  merge = x;
  merges = m;
}

-- ---- looking for it

partner_cons : {g a b : Gate} {v : List Gate} {i : ℕ} {X : Type 0} → Partner g a (b ∷ v) i → (Same b g → Free g v → X) → ((j : ℕ) → Partner g a v j → X) → X
partner_cons (here s f) x y = x s f
partner_cons (later {i} p) x y = y i p

partner_nil : {g a : Gate} {i : ℕ} {X : Type 0} → Partner g a [] i → X
partner_nil p = elim p [ ]

-- there is a partner, or none
pub look : (c : List Gate) (g : Gate) → ((a : Gate) × (i : ℕ) × Partner g a c i) ⊎ ((a : Gate) (i : ℕ) → Partner g a c i → ⊥)
look [] g = inr (λ a i p. partner_nil p)
look (b ∷ v) g = go (look v g) (free_dec g v) (order b g)
  where
    none : ((a : Gate) (i : ℕ) → Partner g a v i → ⊥) → (Same b g → Free g v → ⊥) → (a : Gate) (i : ℕ) → Partner g a (b ∷ v) i → ⊥
    none n m a i p = partner_cons p m (λ j q. n a j q)

    go : ((a : Gate) × (i : ℕ) × Partner g a v i) ⊎ ((a : Gate) (i : ℕ) → Partner g a v i → ⊥) → Dec (Free g v) → Order b g → ((a : Gate) × (i : ℕ) × Partner g a (b ∷ v) i) ⊎ ((a : Gate) (i : ℕ) → Partner g a (b ∷ v) i → ⊥)
    go (inl p) d o = inl (p.0, suc p.1, later p.2)
    go (inr n) (no m) o = inr (none n (λ s f. m f))
    go (inr n) (yes f) (before l) = inr (none n (λ s k. less_irrefl s l))
    go (inr n) (yes f) (level s) = inl (b, 0, here s f)
    go (inr n) (yes f) (after l) = inr (none n (λ s k. less_irrefl (same_sym s) l))
