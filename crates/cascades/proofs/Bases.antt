-- An expansion, with any choice of spare lines, takes the start from a pattern to 2^m times the start from what its cascade makes of the
-- pattern. Assumes nothing.
use mathlib.Core.Path.{◌≡◌, refl, sym, ◌∙◌, fun_ext}
use mathlib.Core.Bool.{true, false}
use mathlib.Core.List.{List, [], ◌∷◌}
use Prim.Native.Nat.{ℕ}
use Rattle.gates.specs.declared.Gate.{Gate}
use Rattle.meaning.specs.Amplitude.{doubled}
use Rattle.meaning.specs.Pattern.{Pattern, has}
use Rattle.meaning.specs.State.{run, powered_gates, SameAmplitude, SameMatrix}
use Rattle.meaning.proofs.Mixing.{cancel}
use Rattle.meaning.proofs.Patterns.{same_tests}
use Rattle.meaning.proofs.Runs.{scaled, run_scaled, scaled_scaled, Acts}
use Rattle.meaning.proofs.SameMatrix.{doubled_comm}
use Rattle.cascades.specs.Control.{Control, mct±, control_lines}
use Rattle.cascades.specs.Signs.{Expands±}
use Rattle.cascades.specs.Cascade.{Controlled, after, ExpandsAll, no_gate, next_gate, agree, basis, OnLines, AllOnLines, targets}
use Rattle.cascades.proofs.Halves.{out_cons}
use Rattle.cascades.proofs.Acting.{run_then, powered_then}
use Rattle.cascades.proofs.SignFlips.{mct±_mct±, mct±_other, mct±_agree}
use Rattle.cascades.proofs.Signs.{expands±_acts}

-- ---- patterns

module _ (n : ℕ) where
  -- a cascade's pattern on the n lines depends on nothing beyond them
  pub after_agree : (gs : List Controlled) → AllOnLines n gs → (x y : Pattern) → agree n x y ≡ true → agree n (after gs x) (after gs y) ≡ true
  unfolding after AllOnLines
  after_agree [] w x y e = e
  after_agree (g ∷ gs) w x y e = after_agree gs w.1 _ _ (mct±_agree n g.controls g.target x y w.0.below e)

-- a cascade leaves a line alone that none of its gates has as target
pub after_restored : (gs : List Controlled) (y : Pattern) (i : ℕ) → has i (targets gs) ≡ false → after gs y i ≡ y i
unfolding after targets
after_restored [] y i e = refl
after_restored (g ∷ gs) y i e =
    let u = out_cons i g.target (targets gs) e in
    after_restored gs (mct± g.controls g.target y) i u.1 ∙ mct±_other g.controls g.target i y (λ r. u.0 (sym r))

-- ---- starts

module _ (n : ℕ) where
  mct_basis : (cs : List Control) (t : ℕ) (x y : Pattern) → OnLines n (control_lines cs) t → basis n y (mct± cs t x) ≡ basis n (mct± cs t y) x
  unfolding basis
  mct_basis cs t x y w = rw (same_tests (agree n (mct± cs t x) y) (agree n x (mct± cs t y)) forth back)
    where
      forth : agree n (mct± cs t x) y ≡ true → agree n x (mct± cs t y) ≡ true
      forth h = rw (mct±_mct± cs t x w.apart w.other) at (mct±_agree n cs t (mct± cs t x) y w.below h)

      back : agree n x (mct± cs t y) ≡ true → agree n (mct± cs t x) y ≡ true
      back h = rw (mct±_mct± cs t y w.apart w.other) at (mct±_agree n cs t x (mct± cs t y) w.below h)

  -- one gate
  expands_basis : {cs : List Control} {t : ℕ} {c : List Gate} → OnLines n (control_lines cs) t → Expands± n cs t c → (y : Pattern) → run c (basis n y) ≡ scaled (powered_gates c) (basis n (mct± cs t y))
  unfolding Acts
  expands_basis {cs} {t} w e y = fun_ext λ x. expands±_acts n w e (basis n y) x ∙ rw (mct_basis cs t x y w)

  -- the gates of a cascade
  pub expands_all_basis : {gs : List Controlled} {c : List Gate} → AllOnLines n gs → ExpandsAll n gs c → (y : Pattern) → run c (basis n y) ≡ scaled (powered_gates c) (basis n (after gs y))
  unfolding after AllOnLines
  expands_all_basis w no_gate y = unfold run powered_gates doubled in refl
  expands_all_basis w (next_gate {g} {gs} {c} {d} e es) y =
      let z = mct± g.controls g.target y in
      run_then c d (basis n y)
      ∙ rw (expands_basis w.0 e y, run_scaled (powered_gates c) d (basis n z), expands_all_basis w.1 es z)
      (scaled_scaled (powered_gates c) (powered_gates d) _ (basis n (after gs z)) (sym (powered_then c d)))

  -- a circuit with the same matrix does so too
  pub matrix_basis : {gs : List Controlled} {d : List Gate} → AllOnLines n gs → ExpandsAll n gs d → (c : List Gate) → SameMatrix n c d → (y : Pattern) → run c (basis n y) ≡ scaled (powered_gates c) (basis n (after gs y))
  unfolding SameMatrix SameAmplitude
  matrix_basis {gs} {d} w es c e y = fun_ext λ x. let m = powered_gates d in
      cancel m _ _ (e y x ∙ rw (expands_all_basis w es y) (doubled_comm (powered_gates c) m (basis n (after gs y) x)))
