-- A slip's step that is allowed on a valid circuit is exactly a forward step of document 01. Assumes nothing.
use mathlib.Core.Path.{◌≡◌, refl, sym, ap, ◌∙◌}
use mathlib.Core.Logic.{◌↔◌}
use mathlib.Core.Bool.{Bool, true, false}
use mathlib.Core.List.{List, [], ◌∷◌, ◌++◌, append_assoc}
use Prim.Native.Nat.{ℕ, zero, suc, ◌+◌, ◌%◌, ◌≤◌}
use native.Mathlib.Omega.{arith}
use lib.Dec.{eqb}
use lib.ListN.{length, take, drop, length-append, length-drop, take-append-drop}
use lib.Seq.{take-append_seam, drop-append_seam}
use borrow.Author.Tests.{eqb-true, eqb-false, eq-eqb, ne_eqb}
use Rattle.gates.specs.declared.Gate.{Gate}
use Rattle.gates.specs.declared.Gate.TheVariants.{Not, Powered}
use Rattle.gates.specs.Circuit.{target, slot, Passes, powered, AllValid, Rewrite, pass, merge, cancel, Step, step}
use Rattle.gates.specs.Sites.{Same}
use Rattle.gates.proofs.Pushing.{merged}
use Rattle.gates.proofs.Merge.{merged_powered, merged_not, merged_rewrite, all_valid_merged, Alike, nots, powereds, alike}
use Rattle.gates.proofs.Reach.{all_valid_append, all_valid_left, all_valid_right}
use Rattle.stepping.specs.Slip.{SlipStep, pass_at, merge_at, Effect, makes, not_allowed, amid, passing, merging, neighbours, at_place, effect}

-- ---- what is made

makes_is : {x y : List Gate} → makes x ≡ makes y → x ≡ y
makes_is e = cc

makes_not : {x : List Gate} → not_allowed ≡ makes x → ⊥
makes_not e = let z : ◌≡◌ {A = ℕ} 0 1 = cc in omega arith

-- what makes nothing is not allowed
never_makes : (e : Effect) → ((x : List Gate) → e ≡ makes x → ⊥) → e ≡ not_allowed
never_makes (makes x) h = absurd (h x refl)
never_makes not_allowed h = refl

-- ---- two neighbours

-- a pass is allowed at two neighbours that pass
pub passing_passes : {g h : Gate} → Passes g h → passing g h ≡ makes (h ∷ g ∷ [])
unfolding passing
passing_passes {g} {h} p = rw (ne_eqb (suc (target g)) (slot h) p.there, ne_eqb (suc (target h)) (slot g) p.back)

passing_made : (g h : Gate) (x : List Gate) → passing g h ≡ makes x → Passes g h × (x ≡ h ∷ g ∷ [])
unfolding passing
passing_made g h x e = go (eqb (suc (target g)) (slot h)) refl (eqb (suc (target h)) (slot g)) refl
  where
    go : (a : Bool) → eqb (suc (target g)) (slot h) ≡ a → (b : Bool) → eqb (suc (target h)) (slot g) ≡ b → Passes g h × (x ≡ h ∷ g ∷ [])
    go true i b j = absurd (makes_not (rw i at e))
    go false i true j = absurd (makes_not (rw (i, j) at e))
    go false i false j = (record { there = eqb-false _ _ i; back = eqb-false _ _ j }, sym (makes_is (rw (i, j) at e)))

-- "pass": allowed exactly if the two pass, and they change places
pub passing_exactly_if : (g h : Gate) (x : List Gate) → (passing g h ≡ makes x) ↔ (Passes g h × (x ≡ h ∷ g ∷ []))
passing_exactly_if g h x = (passing_made g h x, λ q. rw q.1 (passing_passes q.0))

-- and where they do not pass it is not allowed
pub passing_not : {g h : Gate} → (Passes g h → ⊥) → passing g h ≡ not_allowed
passing_not {g} {h} n = never_makes (passing g h) (λ x e. n (passing_made g h x e).0)

-- a merge is allowed at two neighbours of one site
merging_powered : (p q c t : ℕ) → merging (Powered p c t) (Powered q c t) ≡ makes (powered ((p + q) % 4) c t)
unfolding merging
merging_powered p q c t = rw (eq-eqb c c refl, eq-eqb t t refl)

merging_not : (t : ℕ) → merging (Not t) (Not t) ≡ makes []
unfolding merging
merging_not t = rw (eq-eqb t t refl)

merging_alike : {g h : Gate} → Alike g h → merging g h ≡ makes (merged g h)
merging_alike (nots t) = rw (merged_not t t) (merging_not t)
merging_alike (powereds p q c t) = rw (merged_powered p q c t) (merging_powered p q c t)

pub merging_same : {g h : Gate} → Same g h → merging g h ≡ makes (merged g h)
merging_same {g} {h} s = merging_alike (alike g h s)

merging_made : (g h : Gate) (x : List Gate) → merging g h ≡ makes x → Same g h
unfolding merging target slot
merging_made (Not t) (Not u) x e = go (eqb t u) refl
  where
    go : (a : Bool) → eqb t u ≡ a → Same (Not t) (Not u)
    go true i = record { targets = eqb-true t u i; controls = refl }
    go false i = absurd (makes_not (rw i at e))
merging_made (Not t) (Powered q d u) x e = absurd (makes_not e)
merging_made (Powered p c t) (Not u) x e = absurd (makes_not e)
merging_made (Powered p c t) (Powered q d u) x e = go (eqb c d) refl (eqb t u) refl
  where
    go : (a : Bool) → eqb c d ≡ a → (b : Bool) → eqb t u ≡ b → Same (Powered p c t) (Powered q d u)
    go true i true j = record { targets = eqb-true t u j; controls = ap suc (eqb-true c d i) }
    go true i false j = absurd (makes_not (rw (i, j) at e))
    go false i b j = absurd (makes_not (rw i at e))

-- "merge": allowed exactly if the two have the same target, and the same control or none, and they become their merge
pub merging_exactly_if : (g h : Gate) (x : List Gate) → (merging g h ≡ makes x) ↔ (Same g h × (x ≡ merged g h))
merging_exactly_if g h x = (there, λ q. rw q.1 (merging_same q.0))
  where
    there : merging g h ≡ makes x → Same g h × (x ≡ merged g h)
    there e = let s = merging_made g h x e in (s, makes_is (sym e ∙ merging_same s))

-- and where they have not it is not allowed
pub merging_not_same : {g h : Gate} → (Same g h → ⊥) → merging g h ≡ not_allowed
merging_not_same {g} {h} n = never_makes (merging g h) (λ x e. n (merging_made g h x e))

-- what is allowed at two neighbours is a rewriting
passing_rewrite : (g h : Gate) (x : List Gate) → passing g h ≡ makes x → Rewrite (g ∷ h ∷ []) x
passing_rewrite g h x e = let q = passing_made g h x e in rw q.1 (pass q.0)

merging_rewrite : (g h : Gate) (x : List Gate) → merging g h ≡ makes x → Rewrite (g ∷ h ∷ []) x
merging_rewrite g h x e = let q = (merging_exactly_if g h x).0 e in rw q.1 (merged_rewrite q.0)

-- ---- at a place

-- the gates at the places length u + 1 and length u + 2
pub at_neighbours : (f : Gate → Gate → Effect) (u v : List Gate) (g h : Gate) → at_place f (suc (length u)) (u ++ (g ∷ h ∷ []) ++ v) ≡ amid u (f g h) v
unfolding at_place neighbours
at_neighbours f u v g h = rw (append_assoc u (g ∷ h ∷ []) v, take-append_seam u (g ∷ h ∷ v), drop-append_seam u (g ∷ h ∷ v))

at_makes : (f : Gate → Gate → Effect) (u v x : List Gate) (g h : Gate) → f g h ≡ makes x → at_place f (suc (length u)) (u ++ (g ∷ h ∷ []) ++ v) ≡ makes (u ++ x ++ v)
unfolding amid
at_makes f u v x g h e = at_neighbours f u v g h ∙ rw e

-- what is made, at any place, is made by a rewriting of neighbours: a step, but for validity
pub data Rewritten : List Gate → List Gate → Type 0 where
  rewritten : (u v : List Gate) {x y : List Gate} → Rewrite x y → Rewritten (u ++ x ++ v) (u ++ y ++ v)

module _ (f : Gate → Gate → Effect) (r : (g h : Gate) (x : List Gate) → f g h ≡ makes x → Rewrite (g ∷ h ∷ []) x) where
  neighbours_rewritten : (u w c d : List Gate) → c ≡ u ++ w → neighbours f u w ≡ makes d → Rewritten c d
  unfolding neighbours amid
  neighbours_rewritten u [] c d k e = absurd (makes_not e)
  neighbours_rewritten u (g ∷ []) c d k e = absurd (makes_not e)
  neighbours_rewritten u (g ∷ h ∷ v) c d k e = go (f g h) refl
    where
      go : (x : Effect) → f g h ≡ x → Rewritten c d
      go (makes x) i =
          rw (k ∙ sym (append_assoc u (g ∷ h ∷ []) v), ← makes_is (rw i at e)) (rewritten u v (r g h x i))
      go not_allowed i = absurd (makes_not (rw i at e))

  at_rewritten : (i : ℕ) (c d : List Gate) → at_place f i c ≡ makes d → Rewritten c d
  unfolding at_place
  at_rewritten zero c d e = absurd (makes_not e)
  at_rewritten (suc i) c d e = neighbours_rewritten (take i c) (drop i c) c d (sym (take-append-drop i c)) e

pub allowed_rewritten : (s : SlipStep) (c d : List Gate) → effect s c ≡ makes d → Rewritten c d
unfolding effect
allowed_rewritten (pass_at i) c d e = at_rewritten passing passing_rewrite i c d e
allowed_rewritten (merge_at i) c d e = at_rewritten merging merging_rewrite i c d e

-- no step makes a circuit longer
length_powered : (p c t : ℕ) → length (powered p c t) ≤ 1
unfolding powered
length_powered zero c t = omega arith
length_powered (suc p) c t = omega arith

length_rewrite : {x y : List Gate} → Rewrite x y → length y ≤ length x
length_rewrite (pass p) = omega arith
length_rewrite (merge p q c t) = omega (arith, length_powered ((p + q) % 4) c t)
length_rewrite (cancel t) = omega arith

length_rewritten : {c d : List Gate} → Rewritten c d → length d ≤ length c
length_rewritten (rewritten u v {x} {y} r) =
    omega (arith, length_rewrite r, length-append (u ++ x) v, length-append u x, length-append (u ++ y) v, length-append u y)

pub allowed_length : (s : SlipStep) (c d : List Gate) → effect s c ≡ makes d → length d ≤ length c
allowed_length s c d e = length_rewritten (allowed_rewritten s c d e)

-- ---- steps

module _ (n : ℕ) where
  -- a rewriting keeps gates valid
  pub rewrite_valid : {x y : List Gate} → Rewrite x y → AllValid n x → AllValid n y
  rewrite_valid (pass p) f = (f.1.0, (f.0, tt))
  rewrite_valid (merge p q c t) f = rw (merged_powered p q c t) at (all_valid_merged (Powered q c t) f.0)
  rewrite_valid (cancel t) f = tt

  -- a rewriting at any place of a valid circuit is a step
  rewritten_step : {c d : List Gate} → AllValid n c → Rewritten c d → Step n c d
  rewritten_step f (rewritten u v {x} {y} r) =
      let k : AllValid n (u ++ x) = all_valid_left n (u ++ x) v f in
      let i : AllValid n y = rewrite_valid r (all_valid_right n u x k) in
      step u v r f (all_valid_append n (u ++ y) v (all_valid_append n u y (all_valid_left n u x k) i) (all_valid_right n (u ++ x) v f))

  -- an allowed step on a valid circuit is a step forwards
  pub allowed_step : (s : SlipStep) (c d : List Gate) → AllValid n c → effect s c ≡ makes d → Step n c d
  allowed_step s c d f e = rewritten_step f (allowed_rewritten s c d e)

  -- every step forwards is what some slip's step makes
  rewrite_effect : (u v : List Gate) {x y : List Gate} → Rewrite x y → (s : SlipStep) × (effect s (u ++ x ++ v) ≡ makes (u ++ y ++ v))
  unfolding effect
  rewrite_effect u v (pass {g} {h} p) = (pass_at (suc (length u)), at_makes passing u v (h ∷ g ∷ []) g h (passing_passes p))
  rewrite_effect u v (merge p q c t) = (merge_at (suc (length u)), at_makes merging u v (powered ((p + q) % 4) c t) (Powered p c t) (Powered q c t) (merging_powered p q c t))
  rewrite_effect u v (cancel t) = (merge_at (suc (length u)), at_makes merging u v [] (Not t) (Not t) (merging_not t))

  pub step_allowed : {c d : List Gate} → Step n c d → (s : SlipStep) × (effect s c ≡ makes d)
  step_allowed (step u v r f k) = rewrite_effect u v r

  -- the allowed steps on a valid circuit are exactly the steps forwards
  pub allowed_exactly_if : (c d : List Gate) → AllValid n c → ((s : SlipStep) × (effect s c ≡ makes d)) ↔ Step n c d
  allowed_exactly_if c d f = (λ q. allowed_step q.0 c d f q.1, step_allowed)

-- ---- steps that are not allowed

-- a place 0
pub place_0 : (f : Gate → Gate → Effect) (c : List Gate) → at_place f 0 c ≡ not_allowed
unfolding at_place
place_0 f c = refl

-- a place without a right neighbour
few : (f : Gate → Gate → Effect) (u w : List Gate) → length w ≤ 1 → neighbours f u w ≡ not_allowed
unfolding neighbours
few f u [] h = refl
few f u (g ∷ []) h = refl
few f u (g ∷ k ∷ w) h = absurd (omega arith)

pub no_right_neighbour : (f : Gate → Gate → Effect) (i : ℕ) (c : List Gate) → length c ≤ i → at_place f i c ≡ not_allowed
unfolding at_place
no_right_neighbour f zero c h = refl
no_right_neighbour f (suc i) c h = few f (take i c) (drop i c) (omega (arith, length-drop i c))
