-- Every expansion of an mct gate with signs, with any choice of spare lines, is a circuit on the lines of the gate, has the gates that the table
-- says and two more for each negated control, and acts as the gate does. Assumes nothing.
use mathlib.Core.Path.{◌≡◌, refl, ◌∙◌}
use mathlib.Core.Bool.{true}
use mathlib.Core.List.{List, [], ◌∷◌}
use Prim.Native.Nat.{ℕ, ◌+◌, ◌*◌, ◌≤◌}
use native.Mathlib.Omega.{arith}
use lib.ListN.{length, get_or, length-append}
use Rattle.gates.specs.Every.{Every}
use Rattle.gates.specs.declared.Gate.{Gate}
use Rattle.gates.specs.Circuit.{valid_not, AllValid}
use Rattle.gates.proofs.Reach.{all_valid_append}
use Rattle.meaning.specs.Pattern.{Pattern, mct, distinct}
use Rattle.meaning.proofs.Runs.{Acts}
use Rattle.cascades.specs.Expansion.{◌⨾◌, Expandable, counts}
use Rattle.cascades.specs.Cascade.{Controlled, expand_all, Below, OnLines, AllExpandable}
use Rattle.cascades.proofs.Halves.{on_lines}
use Rattle.cascades.proofs.Published.{expansion_expands}
use Rattle.cascades.proofs.Valid.{expands_valid}
use Rattle.cascades.proofs.Acting.{acts_then}
use Rattle.cascades.proofs.Expanding.{expands_runs}
use Rattle.cascades.proofs.Counts.{expands_count, expansion_count}
use Rattle.cascades.specs.Control.{Control, mct±, control_lines, negated_lines}
use Rattle.cascades.specs.Signs.{nots, between_nots, Expands±, signed, expansion±}
use Rattle.cascades.proofs.SignLines.{negated_distinct, negated_below, length_control_lines}
use Rattle.cascades.proofs.SignFlips.{flips, nots_act, mct_between_flips}

-- the published order of spare lines is one choice, whichever lines are kept
pub expansion±_expands : (n : ℕ) (kept : List ℕ) (cs : List Control) (t : ℕ) → Expandable n kept (control_lines cs) t → Below n (control_lines cs) → Expands± n cs t (expansion± n kept cs t)
unfolding expansion±
expansion±_expands n kept cs t w b = signed (expansion_expands n kept (control_lines cs) t w b)

-- ---- on the lines

nots_valid : (n : ℕ) (l : List ℕ) → Below n l → AllValid n (nots l)
unfolding Below nots
nots_valid n [] b = tt
nots_valid n (i ∷ l) b = (valid_not b.0, nots_valid n l b.1)

between_valid : (n : ℕ) (l : List ℕ) (c : List Gate) → Below n l → AllValid n c → AllValid n (between_nots l c)
unfolding between_nots ◌⨾◌
between_valid n l c b v = all_valid_append n (nots l) _ (nots_valid n l b) (all_valid_append n c (nots l) v (nots_valid n l b))

pub expands±_valid : (n : ℕ) {cs : List Control} {t : ℕ} {c : List Gate} → OnLines n (control_lines cs) t → Expands± n cs t c → AllValid n c
expands±_valid n {cs} w (signed {c} e) = between_valid n (negated_lines cs) c (negated_below n cs w.below) (expands_valid n w e)

pub expansion±_fits : (n : ℕ) (kept : List ℕ) (cs : List Control) (t : ℕ) → Expandable n kept (control_lines cs) t → Below n (control_lines cs) → AllValid n (expansion± n kept cs t)
expansion±_fits n kept cs t w b = expands±_valid n (on_lines n w b) (expansion±_expands n kept cs t w b)

pub expand_all_fits : (n : ℕ) (kept : List ℕ) (gs : List Controlled) → AllExpandable n kept gs → AllValid n (expand_all n kept gs)
unfolding expand_all AllExpandable ◌⨾◌
expand_all_fits n kept [] w = tt
expand_all_fits n kept (g ∷ gs) w = all_valid_append n (expansion± n kept g.controls g.target) (expand_all n kept gs) (expansion±_fits n kept g.controls g.target w.0.0 w.0.1) (expand_all_fits n kept gs w.1)

-- ---- how many gates

pub length_nots : (l : List ℕ) → length (nots l) ≡ length l
unfolding nots
length_nots [] = refl
length_nots (i ∷ l) = omega (arith, length_nots l)

pub length_between : (l : List ℕ) (c : List Gate) → length (between_nots l c) ≡ length c + 2 * length l
unfolding between_nots ◌⨾◌
length_between l c = simp (length-append, length_nots) (omega arith)

pub expands±_count : (n : ℕ) {cs : List Control} {t : ℕ} {c : List Gate} → Expands± n cs t c → length cs ≤ 15 → length c ≡ get_or counts (length cs) 0 + 2 * length (negated_lines cs)
expands±_count n {cs} (signed {c} e) h = length_between (negated_lines cs) c ∙ rw (expands_count n e (omega (arith, length_control_lines cs)), length_control_lines cs)

pub expansion±_count : (n : ℕ) (kept : List ℕ) (cs : List Control) (t : ℕ) → length cs ≤ 15 → length (expansion± n kept cs t) ≡ get_or counts (length cs) 0 + 2 * length (negated_lines cs)
unfolding expansion±
expansion±_count n kept cs t h = length_between (negated_lines cs) _ ∙ rw (expansion_count n kept (control_lines cs) t (omega (arith, length_control_lines cs)), length_control_lines cs)

-- of a cascade: for each gate the table's count, and two for each negated control
unfoldable pub counted : List Controlled → ℕ
counted [] = 0
counted (g ∷ gs) = get_or counts (length g.controls) 0 + 2 * length (negated_lines g.controls) + counted gs

pub expand_all_count : (n : ℕ) (kept : List ℕ) (gs : List Controlled) → Every (λ g. length g.controls ≤ 15) gs → length (expand_all n kept gs) ≡ counted gs
unfolding counted expand_all ◌⨾◌
expand_all_count n kept [] w = refl
expand_all_count n kept (g ∷ gs) w =
    length-append (expansion± n kept g.controls g.target) (expand_all n kept gs)
    ∙ rw (expansion±_count n kept g.controls g.target w.0, expand_all_count n kept gs w.1)

-- ---- what they do

between_acts : (l : List ℕ) (c : List Gate) (f : Pattern → Pattern) → distinct l ≡ true → Acts c f → Acts (between_nots l c) (λ x. flips l (f (flips l x)))
unfolding between_nots
between_acts l c f e h = acts_then (nots l) (c ⨾ nots l) (flips l) (λ x. f (flips l x)) (nots_act l e) (acts_then c (nots l) f (flips l) h (nots_act l e))

module _ (n : ℕ) where
  -- from every state, the amplitude at a pattern is 2^m times the old one of the pattern that the gate with signs takes to it
  pub expands±_acts : {cs : List Control} {t : ℕ} {c : List Gate} → OnLines n (control_lines cs) t → Expands± n cs t c → Acts c (mct± cs t)
  unfolding Acts
  expands±_acts {cs} {t} w (signed {c} e) ψ x =
      between_acts (negated_lines cs) c (mct (control_lines cs) t) (negated_distinct cs w.apart) (λ φ y. expands_runs n w e φ y) ψ x
      ∙ rw (mct_between_flips cs t x w.apart)
