-- What a circuit does to a state, and when two circuits have the same matrix (document 01, "What a gate does"). Assumes nothing.
use Rattle.std.specs.Prelude.{◌≡◌, cond, List, [], ◌∷◌, ℕ, suc}
use Rattle.gates.specs.declared.Gate.{Gate}
use Rattle.gates.specs.declared.Gate.TheVariants.{Not, Powered}
use Rattle.meaning.specs.Amplitude.{Amplitude, one, nought, ◌⊕◌, doubled, mix}
use Rattle.meaning.specs.Pattern.{Pattern, flip, agree}

-- ---- states

-- "A state gives each of the 2^n bit patterns an amplitude": here a pattern has a bit for every line, and those from n on make no difference
abbrev pub State : Type 0
State = Pattern → Amplitude

-- the start from the pattern y of n lines: amplitude 1 at y, and 0 at the other patterns
unfoldable pub basis : ℕ → Pattern → State
basis n y x = cond (agree n x y) one nought

-- ---- gates

-- the state after one gate: "A NOT exchanges amplitudes"; "A powered gate applies its doubled matrix to the target where the control is 1,
-- and doubles the amplitude where it is 0"
unfoldable pub apply : Gate → State → State
apply (Not t) ψ x = ψ (flip t x)
apply (Powered p c t) ψ x = cond (x c) (mix p (ψ x) (ψ (flip t x))) (ψ x ⊕ ψ x)

-- the "run": the state after the gates of a circuit, in order
unfoldable pub run : List Gate → State → State
run [] ψ = ψ
run (g ∷ gs) ψ = run gs (apply g ψ)

-- m, the number of powered gates: each of them doubles, so a run gives 2^m times the amplitudes
unfoldable pub powered_gates : List Gate → ℕ
powered_gates [] = 0
powered_gates (Not t ∷ gs) = powered_gates gs
powered_gates (Powered p c t ∷ gs) = suc (powered_gates gs)

-- ---- the same matrix

-- from one state, the amplitudes of two circuits at one pattern "agree, each divided by its own 2^m": multiplied by the other's 2^m they are equal
unfoldable pub SameAmplitude : List Gate → List Gate → State → Pattern → Type 0
SameAmplitude a b ψ x = doubled (powered_gates b) (run a ψ x) ≡ doubled (powered_gates a) (run b ψ x)

-- "Two circuits have the same matrix if from every start their amplitudes agree, each divided by its own 2^m"
unfoldable pub SameMatrix : ℕ → List Gate → List Gate → Type 0
SameMatrix n a b = (y x : Pattern) → SameAmplitude a b (basis n y) x

-- the same from every state, over whatever lines
unfoldable pub SameOnStates : List Gate → List Gate → Type 0
SameOnStates a b = (ψ : State) (x : Pattern) → SameAmplitude a b ψ x
