-- The rule of the lowest line, by which spare lines were chosen before they had the published order (the definitions of then, word for word); and
-- what is as it was: the number of gates, and with at most four controls the expansion. Assumes nothing.
use mathlib.Core.Path.{◌≡◌, refl, sym, ap, ◌∙◌}
use mathlib.Core.Logic.{◌≢◌}
use mathlib.Core.Bool.{Bool, cond, true, false}
use mathlib.Core.List.{List, [], ◌∷◌}
use Prim.Native.Nat.{ℕ, zero, suc, ◌≤◌}
use native.Mathlib.Omega.{arith}
use lib.ListN.{length, get_or}
use Rattle.gates.specs.declared.Gate.{Gate}
use Rattle.gates.specs.declared.Gate.TheVariants.{Not}
use Rattle.gates.specs.Circuit.{slot}
use Rattle.gates.specs.Inverse.{inverse, inverted}
use Rattle.meaning.specs.Pattern.{has}
use Rattle.cascades.specs.Expansion as now
use Rattle.cascades.specs.Expansion.{◌⨾◌, cn, toffoli, joined, c0, c1, lines_outside, mct_spares, first_spare, expand_with, Expandable}
use Rattle.cascades.specs.Control.{Control, control_lines, negated_lines}
use Rattle.cascades.specs.Signs as now_signed
use Rattle.cascades.specs.Signs.{between_nots}
use Rattle.cascades.specs.Cascade.{Below}
use Rattle.cascades.proofs.SpareLists.{five}
use Rattle.cascades.proofs.Spared.{mct_spared}
use Rattle.cascades.proofs.Counts.{size, size_joined, expand_with_size}
use Rattle.cascades.proofs.Signs.{length_between}

-- ---- the definitions of then

-- the lowest line from i on, of m lines, that is not in the list; i + m if they all are
unfoldable pub spare : ℕ → ℕ → List ℕ → ℕ
spare zero i l = i
spare (suc m) i l = cond (has i l) (spare m (suc i) l) i

-- the expansion with "the lowest one that this gate names neither as control nor as target" for each spare line; the first argument bounds the
-- recursion: more than the number of controls
unfoldable pub expand : ℕ → ℕ → List ℕ → ℕ → List Gate
expand zero n cs t = []
expand (suc f) n [] t = Not t ∷ []
expand (suc f) n (a ∷ []) t = cn a t
expand (suc f) n (a ∷ b ∷ []) t = toffoli a b t
expand (suc f) n (a ∷ b ∷ c ∷ cs) t =
    let l = a ∷ b ∷ c ∷ cs in
    let s = spare n 0 (t ∷ l) in
    joined s t (expand f n (c0 l) s) (expand f n (c1 l) s)

unfoldable pub expansion : ℕ → List ℕ → ℕ → List Gate
expansion n cs t = expand (suc (length cs)) n cs t

unfoldable pub expansion± : ℕ → List Control → ℕ → List Gate
expansion± n cs t = between_nots (negated_lines cs) (expansion n (control_lines cs) t)

-- ---- "Lists can differ from five controls up"

-- `(mct (0 1 2 3 4) 5)` on 8 lines borrowed 6, and its M1 the line 0, where it is 7 now
five_before : expansion 8 five 5 ≡ joined 6 5 (toffoli 0 1 6) (joined 0 6 (cn 2 0) (toffoli 3 4 0))
unfolding expansion expand spare has
five_before = refl

five_differs : now.expansion 8 [] five 5 ≢ expansion 8 five 5
unfolding now.expansion expand_with now.expand mct_spares lines_outside expansion expand spare has ◌⨾◌ joined inverse inverted slot
five_differs e = let q : ◌≡◌ {A = ℕ} 8 1 = ap (λ c. slot (get_or c 7 (Not 0))) e in omega arith

-- ---- as many gates as before

expand_size : (f n : ℕ) (cs : List ℕ) (t : ℕ) → length (expand f n cs t) ≡ size f (length cs)
unfolding expand size
expand_size zero n cs t = refl
expand_size (suc f) n [] t = refl
expand_size (suc f) n (a ∷ []) t = refl
expand_size (suc f) n (a ∷ b ∷ []) t = unfold ◌⨾◌ in refl
expand_size (suc f) n (a ∷ b ∷ c ∷ cs) t =
    let l : List ℕ = a ∷ b ∷ c ∷ cs in
    let s : ℕ = spare n 0 (t ∷ l) in
    size_joined f s t l (expand f n (c0 l) s) (expand f n (c1 l) s) (omega arith) (expand_size f n (c0 l) s) (expand_size f n (c1 l) s)

length_before : (n : ℕ) (cs : List ℕ) (t : ℕ) → length (now.expansion n [] cs t) ≡ length (expansion n cs t)
unfolding now.expansion expansion
length_before n cs t = expand_with_size (mct_spares n [] cs t) cs t ∙ sym (expand_size (suc (length cs)) n cs t)

-- also with signs
pub count_before : (n : ℕ) (cs : List Control) (t : ℕ) → length (now_signed.expansion± n [] cs t) ≡ length (expansion± n cs t)
unfolding now_signed.expansion± expansion±
count_before n cs t = length_between (negated_lines cs) _ ∙ rw (length_before n (control_lines cs) t) (sym (length_between (negated_lines cs) _))

-- ---- at most four controls

-- the first of the unnamed lines, rising, is the lowest
first_is_lowest : (m i : ℕ) (l : List ℕ) → 1 ≤ length (lines_outside m i l) → first_spare (lines_outside m i l) ≡ spare m i l
unfolding lines_outside spare
first_is_lowest zero i l h = absurd (omega arith)
first_is_lowest (suc m) i l h = go (has i l) h (first_is_lowest m (suc i) l)
  where
    go : (b : Bool) → 1 ≤ length (cond b (lines_outside m (suc i) l) (i ∷ lines_outside m (suc i) l)) → (1 ≤ length (lines_outside m (suc i) l) → first_spare (lines_outside m (suc i) l) ≡ spare m (suc i) l)
        → first_spare (cond b (lines_outside m (suc i) l) (i ∷ lines_outside m (suc i) l)) ≡ cond b (spare m (suc i) l) i
    go true k rest = rest k
    go false k rest = refl

module _ (n : ℕ) where
  first_before : {cs : List ℕ} {t : ℕ} → 3 ≤ length cs → Expandable n [] cs t → Below n cs → first_spare (mct_spares n [] cs t) ≡ spare n 0 (t ∷ cs)
  unfolding mct_spares
  first_before {cs} {t} k w b = first_is_lowest n 0 (t ∷ cs) ((mct_spared n [] w b).enough k)

  -- "With at most four controls the expansion is the one of before", whatever the lines
  pub few_controls : (cs : List ℕ) (t : ℕ) → Expandable n [] cs t → Below n cs → length cs ≤ 4 → now.expansion n [] cs t ≡ expansion n cs t
  unfolding now.expansion expand_with now.expand expansion expand
  few_controls [] t w b h = refl
  few_controls (a ∷ []) t w b h = refl
  few_controls (a ∷ b ∷ []) t w b' h = refl
  few_controls (a ∷ b ∷ c ∷ []) t w b' h = rw (first_before (omega arith) w b')
  few_controls (a ∷ b ∷ c ∷ d ∷ []) t w b' h = rw (first_before (omega arith) w b')
  few_controls (a ∷ b ∷ c ∷ d ∷ e ∷ cs) t w b' h = absurd (omega arith)
