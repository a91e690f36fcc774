-- Other names for the lines: where different lines get different names, a chain of steps stays one, and so does an expansion with a list of spares.
-- Assumes nothing.
use mathlib.Core.Path.{◌≡◌, refl, ap, ap₂, ◌∙◌}
use mathlib.Core.List.{List, [], ◌∷◌, ◌++◌, map, map-append}
use Prim.Native.Nat.{ℕ, zero, suc, ◌+◌, ◌/◌, ◌%◌, ◌≤◌, ◌<◌}
use native.Mathlib.Omega.{arith}
use lib.ListN.{length, take, drop, length-map}
use Rattle.gates.specs.declared.Gate.{Gate}
use Rattle.gates.specs.declared.Gate.TheVariants.{Not, Powered}
use Rattle.gates.specs.Circuit.{target, slot, Valid, valid_not, valid_powered, AllValid, Passes, powered, Rewrite, pass, merge, cancel, Step, step, Linked, done, forth, back}
use Rattle.gates.specs.Inverse.{inverted, inverse}
use Rattle.gates.specs.Reduced.{Reduced}
use Rattle.gates.proofs.Reach.{all_valid_left, all_valid_right}
use Rattle.cascades.specs.Expansion.{◌⨾◌, joined, c0, c1, first_spare, m0_spares, m1_spares, expand, expand_with}
use Rattle.cascades.specs.Signs.{nots, between_nots}
use Rattle.cascades.specs.Spares.{Spared}
use Rattle.cascades.proofs.Spared.{spared_m0, spared_m1}

-- ---- lists

map_take : {A B : Type 0} (f : A → B) (k : ℕ) (l : List A) → map f (take k l) ≡ take k (map f l)
map_take f zero l = refl
map_take f (suc k) [] = refl
map_take f (suc k) (x ∷ l) = ap (λ r. f x ∷ r) (map_take f k l)

map_drop : {A B : Type 0} (f : A → B) (k : ℕ) (l : List A) → map f (drop k l) ≡ drop k (map f l)
map_drop f zero l = refl
map_drop f (suc k) [] = refl
map_drop f (suc k) (x ∷ l) = map_drop f k l

module _ (ρ : ℕ → ℕ) where
  -- ---- gates and circuits with other names

  unfoldable pub renamed : Gate → Gate
  renamed (Not t) = Not (ρ t)
  renamed (Powered p c t) = Powered p (ρ c) (ρ t)

  renamed_inverse : (c : List Gate) → map renamed (inverse c) ≡ inverse (map renamed c)
  unfolding inverse renamed inverted
  renamed_inverse [] = refl
  renamed_inverse (g ∷ c) = map-append renamed (inverse c) (inverted g ∷ []) ∙ ap₂ (λ (a : List Gate) (h : Gate). a ++ (h ∷ [])) (renamed_inverse c) (one g)
    where
      one : (g : Gate) → renamed (inverted g) ≡ inverted (renamed g)
      one (Not t) = refl
      one (Powered p c t) = refl

  renamed_then : (a b : List Gate) → map renamed (a ⨾ b) ≡ map renamed a ⨾ map renamed b
  unfolding ◌⨾◌
  renamed_then a b = map-append renamed a b

  renamed_powered : (p c t : ℕ) → map renamed (powered p c t) ≡ powered p (ρ c) (ρ t)
  unfolding powered renamed
  renamed_powered zero c t = refl
  renamed_powered (suc p) c t = refl

  renamed_joined : (s t : ℕ) (m l : List Gate) → map renamed (joined s t m l) ≡ joined (ρ s) (ρ t) (map renamed m) (map renamed l)
  unfolding joined
  renamed_joined s t m l = unfold renamed in simp (renamed_then, renamed_inverse)

  pub renamed_between : (l : List ℕ) (c : List Gate) → map renamed (between_nots l c) ≡ between_nots (map ρ l) (map renamed c)
  unfolding between_nots nots renamed
  renamed_between l c = simp (renamed_then, nots_renamed)
    where
      nots_renamed : (l : List ℕ) → map renamed (nots l) ≡ nots (map ρ l)
      nots_renamed [] = refl
      nots_renamed (i ∷ l) = ap (λ r. Not (ρ i) ∷ r) (nots_renamed l)

  -- ---- expansions

  first_renamed : (sp : List ℕ) → 1 ≤ length sp → first_spare (map ρ sp) ≡ ρ (first_spare sp)
  first_renamed [] h = absurd (omega arith)
  first_renamed (s ∷ sp) h = refl

  c0_renamed : (cs : List ℕ) → map ρ (c0 cs) ≡ c0 (map ρ cs)
  c0_renamed cs = map_take ρ (length cs / 2) cs ∙ rw (length-map cs ρ)

  c1_renamed : (cs : List ℕ) → map ρ (c1 cs) ≡ c1 (map ρ cs)
  c1_renamed cs = map_drop ρ (length cs / 2) cs ∙ rw (length-map cs ρ)

  m0_renamed : (sp cs : List ℕ) (t : ℕ) → map ρ (m0_spares sp cs t) ≡ m0_spares (map ρ sp) (map ρ cs) (ρ t)
  m0_renamed sp cs t = ap (λ r. ρ t ∷ r) (map-append ρ (drop 1 sp) (c1 cs) ∙ ap₂ (λ a b. a ++ b) (map_drop ρ 1 sp) (c1_renamed cs))

  m1_renamed : (sp cs : List ℕ) → map ρ (m1_spares sp cs) ≡ m1_spares (map ρ sp) (map ρ cs)
  m1_renamed sp cs = map-append ρ (drop 1 sp) (c0 cs) ∙ ap₂ (λ a b. a ++ b) (map_drop ρ 1 sp) (c0_renamed cs)

  module _ (n : ℕ) where
    expand_renamed : (f : ℕ) (sp cs : List ℕ) (t : ℕ) → Spared n sp cs t → map renamed (expand f sp cs t) ≡ expand f (map ρ sp) (map ρ cs) (ρ t)
    unfolding expand renamed
    expand_renamed zero sp cs t w = refl
    expand_renamed (suc f) sp [] t w = refl
    expand_renamed (suc f) sp (a ∷ []) t w = refl
    expand_renamed (suc f) sp (a ∷ b ∷ []) t w = unfold ◌⨾◌ in refl
    expand_renamed (suc f) sp (a ∷ b ∷ c ∷ cs) t w =
        let l : List ℕ = a ∷ b ∷ c ∷ cs in
        let s : ℕ = first_spare sp in
        let k : 3 ≤ length l = omega arith in
        renamed_joined s t (expand f (m0_spares sp l t) (c0 l) s) (expand f (m1_spares sp l) (c1 l) s)
        ∙ rw (expand_renamed f (m0_spares sp l t) (c0 l) s (spared_m0 n k w), expand_renamed f (m1_spares sp l) (c1 l) s (spared_m1 n k w), m0_renamed sp l t, m1_renamed sp l, c0_renamed l, c1_renamed l, first_renamed sp (w.enough k))

    pub expand_with_renamed : (sp cs : List ℕ) (t : ℕ) → Spared n sp cs t → map renamed (expand_with sp cs t) ≡ expand_with (map ρ sp) (map ρ cs) (ρ t)
    unfolding expand_with
    expand_with_renamed sp cs t w = expand_renamed (suc (length cs)) sp cs t w ∙ rw (length-map cs ρ)

-- ---- chains of steps

module _ (n : ℕ) (ρ : ℕ → ℕ) (into : (i : ℕ) → i < n → ρ i < n) (apart : (i j : ℕ) → i < n → j < n → ρ i ≡ ρ j → i ≡ j) where
  valid_renamed : {g : Gate} → Valid n g → Valid n (renamed ρ g)
  unfolding renamed
  valid_renamed (valid_not h) = valid_not (into _ h)
  valid_renamed (valid_powered {p} {c} {t} a b h k d) = valid_powered a b (into c h) (into t k) (λ e. d (apart c t h k e))

  all_valid_renamed : (c : List Gate) → AllValid n c → AllValid n (map (renamed ρ) c)
  all_valid_renamed [] w = tt
  all_valid_renamed (g ∷ c) w = (valid_renamed w.0, all_valid_renamed c w.1)

  passes_renamed : {g h : Gate} → Valid n g → Valid n h → Passes g h → Passes (renamed ρ g) (renamed ρ h)
  unfolding target slot renamed
  passes_renamed (valid_not a) (valid_not b) p = record { there = λ e. omega arith; back = λ e. omega arith }
  passes_renamed (valid_not {t} a) (valid_powered {c = c} {t = u} _ _ h k _) w = record { there = λ e. w.there (ap suc (apart t c a h (omega arith))); back = λ e. omega arith }
  passes_renamed (valid_powered {c = c} {t = u} _ _ h k _) (valid_not {t} a) w = record { there = λ e. omega arith; back = λ e. w.back (ap suc (apart t c a h (omega arith))) }
  passes_renamed (valid_powered {c = c} {t = u} _ _ h k _) (valid_powered {c = d} {t = v} _ _ l m _) w =
      record { there = λ e. w.there (ap suc (apart u d k l (omega arith))); back = λ e. w.back (ap suc (apart v c m h (omega arith))) }

  rewrite_renamed : {x y : List Gate} → AllValid n x → Rewrite x y → Rewrite (map (renamed ρ) x) (map (renamed ρ) y)
  rewrite_renamed w (pass p) = pass (passes_renamed w.0 w.1.0 p)
  rewrite_renamed w (merge p q c t) = unfold renamed in rw (renamed_powered ρ ((p + q) % 4) c t) (merge p q (ρ c) (ρ t))
  rewrite_renamed w (cancel t) = unfold renamed in cancel (ρ t)

  step_renamed : {c d : List Gate} → Step n c d → Step n (map (renamed ρ) c) (map (renamed ρ) d)
  step_renamed (step u v {x} {y} r a b) =
      let f : List Gate → List Gate = map (renamed ρ) in
      let e : (z : List Gate) → f (u ++ z ++ v) ≡ f u ++ f z ++ f v = λ z. map-append (renamed ρ) (u ++ z) v ∙ ap (λ (m : List Gate). m ++ f v) (map-append (renamed ρ) u z) in
      let p = rw (e x) at (all_valid_renamed (u ++ x ++ v) a) in
      let q = rw (e y) at (all_valid_renamed (u ++ y ++ v) b) in
      rw (e x, e y) (step (f u) (f v) (rewrite_renamed (all_valid_right n u x (all_valid_left n (u ++ x) v a)) r) p q)

  linked_renamed : {c d : List Gate} → Linked n c d → Linked n (map (renamed ρ) c) (map (renamed ρ) d)
  linked_renamed done = done
  linked_renamed (forth s l) = forth (step_renamed s) (linked_renamed l)
  linked_renamed (back s l) = back (step_renamed s) (linked_renamed l)

  -- so the reduced list is no longer with the other names
  pub no_longer_renamed : {c r s : List Gate} → Reduced n c r → Reduced n (map (renamed ρ) c) s → length s ≤ length r
  no_longer_renamed {r = r} w u = omega (arith, u.fewest (map (renamed ρ) r) (linked_renamed w.linked), length-map r (renamed ρ))
