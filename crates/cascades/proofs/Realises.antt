-- The theorem of demand 2: the reduced list of a cascade's expansion realises the cascade. From each pattern its run gives 2^m at the
-- cascade's pattern and 0 elsewhere, and borrowed lines are restored. Assumes nothing.
use mathlib.Core.Path.{◌≡◌, refl, ◌∙◌, ap}
use mathlib.Core.Logic.{◌≢◌}
use mathlib.Core.Bool.{Bool, true, false}
use mathlib.Core.List.{List}
use Prim.Native.Nat.{ℕ, ◌<◌}
use Rattle.gates.specs.declared.Gate.{Gate}
use Rattle.gates.specs.Reduced.{Reduced}
use Rattle.meaning.specs.Amplitude.{one, nought, doubled}
use Rattle.meaning.specs.Pattern.{Pattern, has}
use Rattle.meaning.specs.State.{State, run, powered_gates, SameMatrix}
use Rattle.meaning.proofs.Mixing.{doubled_nought}
use Rattle.meaning.proofs.Patterns.{agree_is}
use Rattle.meaning.proofs.Links.{same_matrix_sym, reduced_matrix}
use Rattle.meaning.proofs.Runs.{scaled}
use Rattle.cascades.specs.Cascade.{Controlled, after, expand_all, ExpandsAll, agree, basis, AllOnLines, AllExpandable, targets, Realises}
use Rattle.cascades.proofs.Halves.{all_on_lines}
use Rattle.cascades.proofs.Published.{expand_all_expands}
use Rattle.cascades.proofs.Bases.{after_restored, matrix_basis}

-- ---- the amplitudes of the start from a pattern

basis_there : (n : ℕ) (z x : Pattern) → agree n x z ≡ true → basis n z x ≡ one
unfolding basis
basis_there n z x e = rw e

basis_elsewhere : (n : ℕ) (z x : Pattern) → agree n x z ≡ false → basis n z x ≡ nought
unfolding basis
basis_elsewhere n z x e = rw e

-- a pattern with another bit on one of the lines does not agree
apart : (n : ℕ) (x z : Pattern) (i : ℕ) → i < n → x i ≢ z i → agree n x z ≡ false
apart n x z i h d = go (agree n x z) refl
  where
    go : (b : Bool) → agree n x z ≡ b → b ≡ false
    go true e = absurd (d (agree_is n x z e i h))
    go false e = refl

module _ (n : ℕ) {gs : List Controlled} where
  -- from the equation of states, the amplitudes
  spelled : (c : List Gate) → ((y : Pattern) → run c (basis n y) ≡ scaled (powered_gates c) (basis n (after gs y))) → Realises n gs c
  spelled c e = record { state = e; there = there; elsewhere = elsewhere; restored = after_restored gs; undisturbed = undisturbed }
    where
      amplitude : (y x : Pattern) → run c (basis n y) x ≡ doubled (powered_gates c) (basis n (after gs y) x)
      amplitude y x = ap (λ (φ : State). φ x) (e y)

      there : (y x : Pattern) → agree n x (after gs y) ≡ true → run c (basis n y) x ≡ doubled (powered_gates c) one
      there y x h = amplitude y x ∙ rw (basis_there n (after gs y) x h)

      elsewhere : (y x : Pattern) → agree n x (after gs y) ≡ false → run c (basis n y) x ≡ nought
      elsewhere y x h = amplitude y x ∙ rw (basis_elsewhere n (after gs y) x h) (doubled_nought (powered_gates c))

      undisturbed : (y x : Pattern) (i : ℕ) → i < n → has i (targets gs) ≡ false → x i ≢ y i → run c (basis n y) x ≡ nought
      undisturbed y x i h out d = elsewhere y x (apart n x (after gs y) i h (λ q. d (q ∙ after_restored gs y i out)))

  -- ---- any choice of spare lines

  -- every circuit that has the matrix of the joined expansions of its gates realises the cascade
  pub matrix_realises : {c d : List Gate} → AllOnLines n gs → ExpandsAll n gs d → SameMatrix n c d → Realises n gs c
  matrix_realises {c} w es e = spelled c (matrix_basis n w es c e)

  -- their reduced list among them
  pub reduced_expansions_realise : {c r : List Gate} → AllOnLines n gs → ExpandsAll n gs c → Reduced n c r → Realises n gs r
  reduced_expansions_realise {c} {r} w es k = matrix_realises w es (same_matrix_sym n c r (reduced_matrix n k))

-- ---- the published order of spare lines

-- demand 2: for every cascade whose gates can be expanded, as rules 4 to 8 ask, whichever lines are kept, the reduced list of its expansion realises
-- it
pub reduced_realises : (n : ℕ) (kept : List ℕ) (gs : List Controlled) {r : List Gate} → AllExpandable n kept gs → Reduced n (expand_all n kept gs) r → Realises n gs r
reduced_realises n kept gs w k = reduced_expansions_realise n (all_on_lines n kept gs w) (expand_all_expands n kept gs w) k
