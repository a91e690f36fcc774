-- Every expansion of an mct gate, with any choice of spare lines, acts as the gate does. Assumes nothing.
use mathlib.Core.Path.{◌≡◌, sym}
use mathlib.Core.Logic.{◌≢◌}
use mathlib.Core.List.{List, [], ◌∷◌}
use Prim.Native.Nat.{ℕ}
use Rattle.gates.specs.declared.Gate.{Gate}
use Rattle.gates.specs.Inverse.{inverse}
use Rattle.meaning.specs.Amplitude.{doubled}
use Rattle.meaning.specs.Pattern.{Pattern, mct}
use Rattle.meaning.specs.State.{State, run, powered_gates}
use Rattle.meaning.proofs.Flips.{mct_mct}
use Rattle.meaning.proofs.Runs.{Acts, acts_inverse}
use Rattle.cascades.specs.Expansion.{c0, c1, Expands, no_control, one_control, two_controls, more_controls}
use Rattle.cascades.specs.Cascade.{OnLines}
use Rattle.cascades.proofs.Halves.{out_cons, out_append, distinct_two, halves_join, halves_on_lines}
use Rattle.cascades.proofs.Valid.{expands_valid}
use Rattle.cascades.proofs.Acting.{not_acts, cnot_acts, two_acts, joined_acts}

module _ (n : ℕ) where
  -- M2 and M3 are the inverses of M0 and M1, and act as these do
  inverse_acts : {cs : List ℕ} {t : ℕ} {c : List Gate} → OnLines n cs t → Expands n cs t c → Acts c (mct cs t) → Acts (inverse c) (mct cs t)
  inverse_acts {cs} {t} {c} w e a = acts_inverse n c (mct cs t) (expands_valid n w e) a (λ x. mct_mct cs t x w.other)

  expands_acts : {cs : List ℕ} {t : ℕ} {c : List Gate} → OnLines n cs t → Expands n cs t c → Acts c (mct cs t)
  expands_acts w (no_control t) = not_acts t
  expands_acts w (one_control a t) = cnot_acts a t
  expands_acts w (two_controls a b t) =
      let at = out_cons t a (b ∷ []) w.other in
      let bt = out_cons t b [] at.1 in
      two_acts a b t (distinct_two a b w.apart) at.0 bt.0
  expands_acts w (more_controls {cs} {t} {m0} {m1} s k sn out e0 e1) =
      let e = halves_join cs in
      let h = halves_on_lines n s w sn out in
      let to = out_append t (c0 cs) (c1 cs) cs e w.other in
      let st : s ≢ t = λ r. (out_cons s t cs out).0 (sym r) in
      let a0 = expands_acts h.0 e0 in
      let a1 = expands_acts h.1 e1 in
      rw e at (joined_acts s t (c0 cs) (c1 cs) m0 m1 st h.0.other h.1.other to.0 to.1 a0 a1 (inverse_acts h.0 e0 a0) (inverse_acts h.1 e1 a1))

  -- from every state, the amplitude at a pattern is 2^m times the old amplitude of the pattern that the gate takes to it
  pub expands_runs : {cs : List ℕ} {t : ℕ} {c : List Gate} → OnLines n cs t → Expands n cs t c → (ψ : State) (x : Pattern) → run c ψ x ≡ doubled (powered_gates c) (ψ (mct cs t x))
  unfolding Acts
  expands_runs w e ψ x = expands_acts w e ψ x
