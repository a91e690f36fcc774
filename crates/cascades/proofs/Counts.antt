-- Every expansion, with any choice of spare lines, has as many gates as the table says. Assumes nothing.
use mathlib.Core.Path.{◌≡◌, refl, ◌∙◌}
use mathlib.Core.List.{List, [], ◌∷◌}
use Prim.Native.Nat.{ℕ, zero, suc, ◌+◌, ◌-◌, ◌*◌, ◌/◌, ◌≤◌, ◌<◌}
use native.Mathlib.Omega.{arith}
use lib.Dec.{eqb, eqb→eq}
use lib.ListN.{length, get_or, length-append, length-take, length-drop}
use Rattle.gates.specs.declared.Gate.{Gate}
use Rattle.gates.proofs.Inverses.{length_inverse}
use Rattle.cascades.specs.Expansion.{◌⨾◌, joined, c0, c1, Expands, no_control, one_control, two_controls, more_controls, mct_spares, first_spare, m0_spares, m1_spares, expand, expand_with, expansion, counts}
use Rattle.cascades.proofs.Every.{at}

-- ---- lengths

pub length_joined : (s t : ℕ) (m l : List Gate) → length (joined s t m l) ≡ 4 + 2 * (length m + length l)
unfolding joined ◌⨾◌
length_joined s t m l = simp (length-append, length_inverse) (omega arith)

length_c0 : (cs : List ℕ) → length (c0 cs) ≡ length cs / 2
length_c0 cs = omega (arith, length-take (length cs / 2) cs)

length_c1 : (cs : List ℕ) → length (c1 cs) ≡ length cs - length cs / 2
length_c1 cs = length-drop (length cs / 2) cs

-- ---- how many gates, by the number of controls

-- the first argument bounds the recursion: more than the number of controls
unfoldable pub size : ℕ → ℕ → ℕ
size zero k = 0
size (suc f) zero = 1
size (suc f) (suc zero) = 1
size (suc f) (suc (suc zero)) = 5
size (suc f) (suc (suc (suc k))) = 4 + 2 * (size f ((3 + k) / 2) + size f (3 + k - (3 + k) / 2))

-- three or more controls
size_more : (f k : ℕ) → 3 ≤ k → size (suc f) k ≡ 4 + 2 * (size f (k / 2) + size f (k - k / 2))
unfolding size
size_more f zero h = absurd (omega arith)
size_more f (suc zero) h = absurd (omega arith)
size_more f (suc (suc zero)) h = absurd (omega arith)
size_more f (suc (suc (suc k))) h = let e : suc (suc (suc k)) ≡ 3 + k = omega arith in rw e

-- two halves of this size make a gate of this size
pub size_joined : (f s t : ℕ) (cs : List ℕ) (m0 m1 : List Gate) → 3 ≤ length cs → length m0 ≡ size f (length (c0 cs)) → length m1 ≡ size f (length (c1 cs)) → length (joined s t m0 m1) ≡ size (suc f) (length cs)
size_joined f s t cs m0 m1 h e0 e1 = length_joined s t m0 m1 ∙ rw (e0, e1, length_c0 cs, length_c1 cs, size_more f (length cs) h)

expands_size : (f n : ℕ) {cs : List ℕ} {t : ℕ} {c : List Gate} → length cs < f → Expands n cs t c → length c ≡ size f (length cs)
unfolding size
expands_size zero n h e = absurd (omega arith)
expands_size (suc f) n h (no_control t) = refl
expands_size (suc f) n h (one_control a t) = refl
expands_size (suc f) n h (two_controls a b t) = unfold ◌⨾◌ in refl
expands_size (suc f) n h (more_controls {cs} {t} {m0} {m1} s k sn out e0 e1) =
    size_joined f s t cs m0 m1 k (expands_size f n (omega (arith, length_c0 cs)) e0) (expands_size f n (omega (arith, length_c1 cs)) e1)

-- the published order, also where there is none to spare
expand_size : (f : ℕ) (sp cs : List ℕ) (t : ℕ) → length (expand f sp cs t) ≡ size f (length cs)
unfolding expand size
expand_size zero sp cs t = refl
expand_size (suc f) sp [] t = refl
expand_size (suc f) sp (a ∷ []) t = refl
expand_size (suc f) sp (a ∷ b ∷ []) t = unfold ◌⨾◌ in refl
expand_size (suc f) sp (a ∷ b ∷ c ∷ cs) t =
    let l : List ℕ = a ∷ b ∷ c ∷ cs in
    let s : ℕ = first_spare sp in
    size_joined f s t l (expand f (m0_spares sp l t) (c0 l) s) (expand f (m1_spares sp l) (c1 l) s) (omega arith) (expand_size f (m0_spares sp l t) (c0 l) s) (expand_size f (m1_spares sp l) (c1 l) s)

pub expand_with_size : (sp cs : List ℕ) (t : ℕ) → length (expand_with sp cs t) ≡ size (suc (length cs)) (length cs)
unfolding expand_with
expand_with_size sp cs t = expand_size (suc (length cs)) sp cs t

-- ---- the table

counted : (k : ℕ) → k ≤ 15 → size (suc k) k ≡ get_or counts k 0
unfolding size
counted k h = eqb→eq (size (suc k) k) (get_or counts k 0) (at (λ i x. eqb (size (suc i) i) x) counts tt k (omega arith))

-- "Gates for k = 0 to 15"
pub expands_count : (n : ℕ) {cs : List ℕ} {t : ℕ} {c : List Gate} → Expands n cs t c → length cs ≤ 15 → length c ≡ get_or counts (length cs) 0
expands_count n {cs} e h = expands_size (suc (length cs)) n (omega arith) e ∙ counted (length cs) h

-- whichever lines are kept
pub expansion_count : (n : ℕ) (kept cs : List ℕ) (t : ℕ) → length cs ≤ 15 → length (expansion n kept cs t) ≡ get_or counts (length cs) 0
unfolding expansion
expansion_count n kept cs t h = expand_with_size (mct_spares n kept cs t) cs t ∙ counted (length cs) h
