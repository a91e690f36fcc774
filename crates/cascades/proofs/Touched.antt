-- The lines that circuits touch: an expansion touches the lines that its gate names and its spares, so a kept line only if the mct gate names it;
-- and a reduced list touches only lines that its circuit touches. Assumes nothing.
use mathlib.Core.Path.{◌≡◌, refl, sym, ◌∙◌}
use mathlib.Core.Bool.{Bool, true, false, false≢true, true≢false}
use mathlib.Core.List.{List, [], ◌∷◌, ◌++◌}
use Prim.Native.Nat.{ℕ, zero, suc, ◌/◌, ◌≤◌, ◌<◌}
use native.Mathlib.Omega.{arith}
use lib.Dec.{eqb}
use lib.ListN.{length, drop, length-append, length-take}
use Rattle.gates.specs.Every.{Every}
use Rattle.gates.specs.declared.Gate.{Gate}
use Rattle.gates.specs.declared.Gate.TheVariants.{Not, Powered}
use Rattle.gates.specs.Circuit.{target, slot, AllValid}
use Rattle.gates.specs.Reduced.{Reduced}
use Rattle.gates.proofs.Every.{every_append, every_take, every_drop, every_follows}
use Rattle.gates.proofs.Forwards.{AnyPower, reduced_every, inverse_every}
use Rattle.meaning.specs.Pattern.{has}
use Rattle.meaning.proofs.Flips.{neither, has_append}
use Rattle.cascades.specs.Expansion.{◌⨾◌, v, v⁺, toffoli, joined, c0, c1, mct_spares, first_spare, m0_spares, m1_spares, expand, expand_with, expansion, Expandable}
use Rattle.cascades.specs.Control.{Control, control_lines, negated_lines}
use Rattle.cascades.specs.Signs.{nots, between_nots, expansion±}
use Rattle.cascades.specs.Cascade.{Controlled, expand_all, AllExpandable, Below, targets}
use Rattle.cascades.specs.Spares.{Within, itself, in_m0, in_m1}
use Rattle.cascades.specs.Touching.{Touches, as_target, as_control, here, there, Touched, Named}
use Rattle.cascades.proofs.Times.{times_has, times_every}
use Rattle.cascades.proofs.SpareLists.{mct_spares_every}
use Rattle.cascades.proofs.Spared.{mct_spared}
use Rattle.cascades.proofs.SignLines.{negated_out}
use Rattle.cascades.proofs.Signs.{expand_all_fits}

-- ---- a gate with an ordered list of spares

-- each of its lines, target, controls and spares, has the property P
pub record EachLine (P : ℕ → Type 0) (sp cs : List ℕ) (t : ℕ) : Type 0 where
  pub at_target : P t
  pub at_controls : Every P cs
  pub at_spares : Every P sp
  pub enough : 3 ≤ length cs → 1 ≤ length sp

module _ (P : ℕ → Type 0) where
  at_first : {sp cs : List ℕ} {t : ℕ} → 3 ≤ length cs → EachLine P sp cs t → P (first_spare sp)
  at_first {sp} k w = go sp (w.enough k) w.at_spares
    where
      go : (sp : List ℕ) → 1 ≤ length sp → Every P sp → P (first_spare sp)
      go [] h e = absurd (omega arith)
      go (s ∷ sp) h e = e.0

  -- the smaller gates have no others
  each_m0 : {sp cs : List ℕ} {t : ℕ} → 3 ≤ length cs → EachLine P sp cs t → EachLine P (m0_spares sp cs t) (c0 cs) (first_spare sp)
  each_m0 {sp} {cs} k w = record {
    at_target = at_first k w;
    at_controls = every_take P (length cs / 2) cs w.at_controls;
    at_spares = (w.at_target, every_append P (drop 1 sp) (c1 cs) (every_drop P 1 sp w.at_spares) (every_drop P (length cs / 2) cs w.at_controls));
    enough = λ h. omega arith;
  }

  each_m1 : {sp cs : List ℕ} {t : ℕ} → 3 ≤ length cs → EachLine P sp cs t → EachLine P (m1_spares sp cs) (c1 cs) (first_spare sp)
  each_m1 {sp} {cs} k w = record {
    at_target = at_first k w;
    at_controls = every_drop P (length cs / 2) cs w.at_controls;
    at_spares = every_append P (drop 1 sp) (c0 cs) (every_drop P 1 sp w.at_spares) (every_take P (length cs / 2) cs w.at_controls);
    enough = λ h. omega (arith, length-append (drop 1 sp) (c0 cs), length-take (length cs / 2) cs);
  }

  pub each_within : {sp' cs' : List ℕ} {t' : ℕ} {sp cs : List ℕ} {t : ℕ} → Within sp' cs' t' sp cs t → EachLine P sp cs t → EachLine P sp' cs' t'
  each_within itself w = w
  each_within (in_m0 k u) w = each_within u (each_m0 k w)
  each_within (in_m1 k u) w = each_within u (each_m1 k w)

-- ---- circuits that touch only lines with a property

-- each line that the gate touches has it
unfoldable pub On : (ℕ → Type 0) → Gate → Type 0
On P g = (i : ℕ) → Touches g i → P i

module _ (P : ℕ → Type 0) where
  on_not : (t : ℕ) → P t → On P (Not t)
  unfolding On
  on_not t h i (as_target e) = unfold target in rw (← e) h
  on_not t h i (as_control e) = unfold slot in absurd (omega arith)

  on_powered : (p c t : ℕ) → P c → P t → On P (Powered p c t)
  unfolding On
  on_powered p c t h k i (as_target e) = unfold target in rw (← e) k
  on_powered p c t h k i (as_control e) = unfold slot in let q : c ≡ i = omega arith in rw (← q) h

  -- the power does not matter
  on_any_power : AnyPower (On P)
  unfolding AnyPower On target slot
  on_any_power p q c t h i (as_target e) = h i (as_target e)
  on_any_power p q c t h i (as_control e) = h i (as_control e)

  touched_on : {i : ℕ} {c : List Gate} → Touched c i → Every (On P) c → P i
  unfolding On
  touched_on {i = i} (here t) h = h.0 i t
  touched_on (there s) h = touched_on s h.1

  -- ---- expansions

  then_on : (c d : List Gate) → Every (On P) c → Every (On P) d → Every (On P) (c ⨾ d)
  unfolding ◌⨾◌
  then_on c d h k = every_append (On P) c d h k

  one_on : (p c t : ℕ) → P c → P t → Every (On P) (Powered p c t ∷ [])
  one_on p c t h k = (on_powered p c t h k, tt)

  toffoli_on : (a b t : ℕ) → P a → P b → P t → Every (On P) (toffoli a b t)
  toffoli_on a b t ha hb ht =
      then_on _ _ (one_on 1 b t hb ht) (then_on _ _ (one_on 2 a b ha hb) (then_on _ _ (one_on 3 b t hb ht) (then_on _ _ (one_on 2 a b ha hb) (one_on 1 a t ha ht))))

  joined_on : (s t : ℕ) (m l : List Gate) → P s → P t → Every (On P) m → Every (On P) l → Every (On P) (joined s t m l)
  unfolding joined
  joined_on s t m l hs ht h k =
      let root : Every (On P) (v s t) = one_on 1 s t hs ht in
      let back : Every (On P) (v⁺ s t) = one_on 3 s t hs ht in
      then_on _ _ root (then_on _ _ h (then_on _ _ back (then_on _ _ k (then_on _ _ root (then_on _ _ (inverse_every (On P) on_any_power m h) (then_on _ _ back (inverse_every (On P) on_any_power l k)))))))

  -- an expansion touches only the lines of its gate: target, controls and spares
  expand_on : (f : ℕ) (sp cs : List ℕ) (t : ℕ) → EachLine P sp cs t → Every (On P) (expand f sp cs t)
  unfolding expand
  expand_on zero sp cs t w = tt
  expand_on (suc f) sp [] t w = (on_not t w.at_target, tt)
  expand_on (suc f) sp (a ∷ []) t w = one_on 2 a t w.at_controls.0 w.at_target
  expand_on (suc f) sp (a ∷ b ∷ []) t w = toffoli_on a b t w.at_controls.0 w.at_controls.1.0 w.at_target
  expand_on (suc f) sp (a ∷ b ∷ c ∷ cs) t w =
      let l : List ℕ = a ∷ b ∷ c ∷ cs in
      let s : ℕ = first_spare sp in
      let k : 3 ≤ length l = omega arith in
      joined_on s t (expand f (m0_spares sp l t) (c0 l) s) (expand f (m1_spares sp l) (c1 l) s) (at_first P k w) w.at_target
      (expand_on f (m0_spares sp l t) (c0 l) s (each_m0 P k w))
      (expand_on f (m1_spares sp l) (c1 l) s (each_m1 P k w))

  nots_on : (l : List ℕ) → Every P l → Every (On P) (nots l)
  unfolding nots
  nots_on [] h = tt
  nots_on (i ∷ l) h = (on_not i h.0, nots_on l h.1)

  between_on : (l : List ℕ) (c : List Gate) → Every P l → Every (On P) c → Every (On P) (between_nots l c)
  unfolding between_nots
  between_on l c h k = then_on (nots l) _ (nots_on l h) (then_on c (nots l) k (nots_on l h))

-- ---- kept lines

-- what is named, if it is kept
unfoldable NamedIfKept : List ℕ → List ℕ → ℕ → Type 0
NamedIfKept kept names i = has i kept ≡ true → has i names ≡ true

each_named : (kept names : List ℕ) → Every (NamedIfKept kept names) names
unfolding NamedIfKept
each_named kept names = times_every _ names (λ i h e. times_has i names h)

module _ (n : ℕ) (kept : List ℕ) where
  -- each line of an mct gate and its spares is named by it, or not kept
  kept_each : (cs : List ℕ) (t : ℕ) → Expandable n kept cs t → Below n cs → EachLine (NamedIfKept kept (t ∷ cs)) (mct_spares n kept cs t) cs t
  unfolding NamedIfKept
  kept_each cs t w b =
      let named = each_named kept (t ∷ cs) in
      record { at_target = named.0; at_controls = named.1; at_spares = mct_spares_every n kept cs t (NamedIfKept kept (t ∷ cs)) unkept; enough = (mct_spared n kept w b).enough }
    where
      unkept : (j : ℕ) → j < n → has j (kept ++ (t ∷ cs)) ≡ false → NamedIfKept kept (t ∷ cs) j
      unkept j h e k = absurd (true≢false (sym k ∙ (neither (has j kept) (has j (t ∷ cs)) (sym (has_append j kept (t ∷ cs)) ∙ e)).0))

  -- "A kept line that an mct doesn't name is no spare of it or of any smaller gate within it"
  pub kept_no_spare : (cs : List ℕ) (t : ℕ) → Expandable n kept cs t → Below n cs → {sp' cs' : List ℕ} {t' : ℕ} → Within sp' cs' t' (mct_spares n kept cs t) cs t → Every (λ i. has i kept ≡ true → has i (t ∷ cs) ≡ true) sp'
  unfolding NamedIfKept
  kept_no_spare cs t w b u = (each_within (NamedIfKept kept (t ∷ cs)) u (kept_each cs t w b)).at_spares

  negated_named : (cs : List Control) (t : ℕ) → Every (NamedIfKept kept (t ∷ control_lines cs)) (negated_lines cs)
  unfolding NamedIfKept has
  negated_named cs t = times_every _ (negated_lines cs) (λ i h e. go i (has i (t ∷ control_lines cs)) refl (times_has i (negated_lines cs) h))
    where
      go : (i : ℕ) (b : Bool) → has i (t ∷ control_lines cs) ≡ b → has i (negated_lines cs) ≡ true → b ≡ true
      go i true e k = refl
      go i false e k = absurd (false≢true (sym (negated_out i cs (out i e)) ∙ k))
        where
          out : (i : ℕ) → has i (t ∷ control_lines cs) ≡ false → has i (control_lines cs) ≡ false
          out i e = (neither (eqb i t) (has i (control_lines cs)) e).1

  expansion_on : (cs : List Control) (t : ℕ) → Expandable n kept (control_lines cs) t → Below n (control_lines cs) → Every (On (NamedIfKept kept (t ∷ control_lines cs))) (expansion± n kept cs t)
  unfolding expansion± expansion expand_with
  expansion_on cs t w b =
      let l = control_lines cs in
      between_on (NamedIfKept kept (t ∷ l)) (negated_lines cs) _ (negated_named cs t) (expand_on (NamedIfKept kept (t ∷ l)) (suc (length l)) (mct_spares n kept l t) l t (kept_each l t w b))

  all_on : (Q : ℕ → Type 0) (gs : List Controlled) → AllExpandable n kept gs → ((i : ℕ) → Named gs i → Q i) → Every (On (λ i. has i kept ≡ true → Q i)) (expand_all n kept gs)
  unfolding expand_all AllExpandable On NamedIfKept ◌⨾◌
  all_on Q [] w q = tt
  all_on Q (g ∷ gs) w q =
      every_append (On (λ i. has i kept ≡ true → Q i)) (expansion± n kept g.controls g.target) (expand_all n kept gs)
      (every_follows (On (NamedIfKept kept (g.target ∷ control_lines g.controls))) (On (λ i. has i kept ≡ true → Q i)) (λ x h i t k. q i (here (h i t k))) (expansion± n kept g.controls g.target) (expansion_on g.controls g.target w.0.0 w.0.1))
      (all_on Q gs w.1 (λ i s. q i (there s)))

  -- the expansion of a cascade touches a kept line only if some mct names it
  pub expansion_touches : (gs : List Controlled) → AllExpandable n kept gs → (i : ℕ) → Touched (expand_all n kept gs) i → has i kept ≡ true → Named gs i
  expansion_touches gs w i s = touched_on (λ i. has i kept ≡ true → Named gs i) s (all_on (Named gs) gs w (λ i r. r))

-- ---- reduced lists

-- a circuit touches only lines that it touches
on_touched : (c : List Gate) → Every (On (Touched c)) c
unfolding On
on_touched [] = tt
on_touched (g ∷ c) = ((λ i t. here t), every_follows (On (Touched c)) (On (Touched (g ∷ c))) (λ x h i t. there (h i t)) c (on_touched c))

module _ (n : ℕ) where
  -- a reduced list touches no other
  pub reduced_touches : {c r : List Gate} → AllValid n c → Reduced n c r → (i : ℕ) → Touched r i → Touched c i
  reduced_touches {c} f k i s = touched_on (Touched c) s (reduced_every (On (Touched c)) (on_any_power (Touched c)) n f k (on_touched c))

  -- "The list written touches a kept line only if some mct names it"
  pub list_touches : (kept : List ℕ) (gs : List Controlled) {r : List Gate} → AllExpandable n kept gs → Reduced n (expand_all n kept gs) r → (i : ℕ) → Touched r i → has i kept ≡ true → Named gs i
  list_touches kept gs w k i s = expansion_touches n kept gs w i (reduced_touches (expand_all_fits n kept gs w) k i s)

-- a line that no gate of a circuit touches
pub none_touches : (c : List Gate) (i : ℕ) → (Touched c i → ⊥) → Every (λ g. Touches g i → ⊥) c
none_touches [] i w = tt
none_touches (g ∷ c) i w = ((λ t. w (here t)), none_touches c i (λ s. w (there s)))

-- ---- the old bit

-- a line that no mct names is no target
pub unnamed_no_target : (gs : List Controlled) (i : ℕ) → (Named gs i → ⊥) → has i (targets gs) ≡ false
unfolding targets has
unnamed_no_target [] i w = refl
unnamed_no_target (g ∷ gs) i w =
    let u = neither (eqb i g.target) (has i (control_lines g.controls)) (not_named (has i (g.target ∷ control_lines g.controls)) refl) in
    rw (u.0, unnamed_no_target gs i (λ s. w (there s)))
  where
    not_named : (b : Bool) → has i (g.target ∷ control_lines g.controls) ≡ b → b ≡ false
    not_named true e = absurd (w (here e))
    not_named false e = refl
