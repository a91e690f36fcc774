-- Circuits that do the same to every state: an equivalence, kept in every context; the two circuits of a pass or a merge are such. Assumes nothing.
use mathlib.Core.Path.{◌≡◌, refl, sym, ◌∙◌, ap, fun_ext}
use mathlib.Core.Logic.{◌≢◌}
use mathlib.Core.List.{List, [], ◌∷◌, ◌++◌}
use Prim.Native.Nat.{ℕ, ◌+◌, ◌<◌, ◌%◌}
use native.Mathlib.Nat.{add_comm}
use Rattle.gates.specs.declared.Gate.{Gate}
use Rattle.gates.specs.declared.Gate.TheVariants.{Not, Powered}
use Rattle.meaning.specs.Amplitude.{Amplitude, doubled}
use Rattle.meaning.specs.State.{State, apply, run, powered_gates, SameAmplitude, SameOnStates}
use Rattle.meaning.proofs.Mixing.{doubled_add, cancel}
use Rattle.gates.specs.Circuit.{Passes}
use Rattle.meaning.proofs.Flips.{flip_flip}
use Rattle.meaning.proofs.Runs.{run_append, powered_append, run_scaled, compose, pass, power_zero}

-- ---- the two circuits of a pass or a merge

-- two gates that pass
powered_swap : (g h : Gate) → powered_gates (g ∷ h ∷ []) ≡ powered_gates (h ∷ g ∷ [])
powered_swap g h = powered_append (g ∷ []) (h ∷ []) ∙ add_comm (powered_gates (g ∷ [])) (powered_gates (h ∷ [])) ∙ sym (powered_append (h ∷ []) (g ∷ []))

pub pass_same : (g h : Gate) → Passes g h → SameOnStates (g ∷ h ∷ []) (h ∷ g ∷ [])
unfolding SameOnStates SameAmplitude
pass_same g h e ψ x = rw (pass g h e ψ, powered_swap g h)

-- two powers of one control and target are their sum modulo 4
pub compose_same : (p q c t : ℕ) → p < 4 → q < 4 → c ≢ t → SameOnStates (Powered p c t ∷ Powered q c t ∷ []) (Powered ((p + q) % 4) c t ∷ [])
unfolding SameOnStates SameAmplitude powered_gates doubled
compose_same p q c t h k n ψ x = rw (compose p q c t h k n ψ)

-- power 0 does nothing
nothing : (c t : ℕ) → SameOnStates (Powered 0 c t ∷ []) []
unfolding SameOnStates SameAmplitude powered_gates doubled run
nothing c t ψ x = ap (λ (φ : State). φ x) (power_zero c t ψ)

-- two NOTs on one line
pub not_not_same : (t : ℕ) → SameOnStates (Not t ∷ Not t ∷ []) []
unfolding SameOnStates SameAmplitude powered_gates doubled run apply
not_not_same t ψ x = ap ψ (flip_flip t x)

-- ---- an equivalence

-- 2^m and 2^n times an amplitude, in either order
pub doubled_comm : (m n : ℕ) (a : Amplitude) → doubled m (doubled n a) ≡ doubled n (doubled m a)
doubled_comm m n a = sym (doubled_add m n a) ∙ rw (add_comm m n) (doubled_add n m a)

pub same_refl : (a : List Gate) → SameOnStates a a
unfolding SameOnStates SameAmplitude
same_refl a ψ x = refl

pub same_sym : (a b : List Gate) → SameOnStates a b → SameOnStates b a
unfolding SameOnStates SameAmplitude
same_sym a b e ψ x = sym (e ψ x)

pub same_trans : (a b c : List Gate) → SameOnStates a b → SameOnStates b c → SameOnStates a c
unfolding SameOnStates SameAmplitude
same_trans a b c e f ψ x = cancel (powered_gates b) _ _
    (doubled_comm (powered_gates b) (powered_gates c) (run a ψ x) ∙ ap (doubled (powered_gates c)) (e ψ x)
    ∙ doubled_comm (powered_gates c) (powered_gates a) (run b ψ x) ∙ ap (doubled (powered_gates a)) (f ψ x) ∙ doubled_comm (powered_gates a) (powered_gates b) (run c ψ x))

-- powers whose sum is 0 modulo 4 vanish
pub vanish_same : (p q c t : ℕ) → p < 4 → q < 4 → c ≢ t → (p + q) % 4 ≡ 0 → SameOnStates (Powered p c t ∷ Powered q c t ∷ []) []
vanish_same p q c t h k n e = same_trans (Powered p c t ∷ Powered q c t ∷ []) (Powered 0 c t ∷ []) [] (rw e at (compose_same p q c t h k n)) (nothing c t)

-- ---- in every context

pub same_after : (c a b : List Gate) → SameOnStates a b → SameOnStates (c ++ a) (c ++ b)
unfolding SameOnStates SameAmplitude
same_after c a b e ψ x = rw (powered_append c a, powered_append c b, run_append c a ψ, run_append c b ψ, doubled_add (powered_gates c) (powered_gates b), doubled_add (powered_gates c) (powered_gates a))
    (ap (doubled (powered_gates c)) (e (run c ψ) x))

pub same_before : (d a b : List Gate) → SameOnStates a b → SameOnStates (a ++ d) (b ++ d)
unfolding SameOnStates SameAmplitude
same_before d a b e ψ x = rw (powered_append a d, powered_append b d, run_append a d ψ, run_append b d ψ, add_comm (powered_gates a) (powered_gates d), add_comm (powered_gates b) (powered_gates d), doubled_add (powered_gates d) (powered_gates b), doubled_add (powered_gates d) (powered_gates a))
    (ap (doubled (powered_gates d)) (ap (λ (φ : State). φ x) (sym (run_scaled (powered_gates b) d (run a ψ)) ∙ ap (run d) (fun_ext (e ψ)) ∙ run_scaled (powered_gates a) d (run b ψ))))

pub same_between : (c d a b : List Gate) → SameOnStates a b → SameOnStates (c ++ (a ++ d)) (c ++ (b ++ d))
same_between c d a b e = same_after c (a ++ d) (b ++ d) (same_before d a b e)
