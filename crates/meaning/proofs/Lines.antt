-- Nothing beyond the n lines of a circuit counts: not in the pattern that a run starts from, nor in the one at which its amplitude is read.
-- So the same matrix is a matter of 2^n times 2^n entries. Assumes nothing.
use mathlib.Core.Path.{◌≡◌, fun_ext}
use mathlib.Core.Logic.{◌↔◌}
use mathlib.Core.Bool.{true}
use mathlib.Core.List.{List, [], ◌∷◌}
use Prim.Native.Nat.{ℕ, ◌^◌, ◌<◌}
use Rattle.gates.specs.declared.Gate.{Gate}
use Rattle.gates.specs.Circuit.{Valid, valid_not, valid_powered, AllValid}
use Rattle.meaning.specs.Pattern.{Pattern, flip, agree, pattern, number}
use Rattle.meaning.specs.State.{State, basis, apply, run, SameAmplitude, SameMatrix}
use Rattle.meaning.proofs.Runs.{apply_not, apply_mix}
use Rattle.meaning.proofs.Patterns.{agree_is, agree_left, agree_right, flip_agree, number_below, pattern_number}

-- ---- the start

-- the starts from two patterns that agree on the n lines are one state
pub basis_agree : (n : ℕ) (y y' : Pattern) → agree n y y' ≡ true → basis n y ≡ basis n y'
unfolding basis
basis_agree n y y' e = fun_ext λ x. rw (agree_right n x y y' e)

-- ---- the run

-- a state of n lines: patterns that agree on them have one amplitude
unfoldable pub OfLines : ℕ → State → Type 0
OfLines n ψ = (x x' : Pattern) → agree n x x' ≡ true → ψ x ≡ ψ x'

pub basis_of_lines : (n : ℕ) (y : Pattern) → OfLines n (basis n y)
unfolding OfLines basis
basis_of_lines n y x x' e = rw (agree_left n x x' y e)

apply_of_lines : (n : ℕ) {g : Gate} → Valid n g → (ψ : State) → OfLines n ψ → OfLines n (apply g ψ)
unfolding OfLines
apply_of_lines n (valid_not {t} l) ψ h x x' e = rw (apply_not t ψ x, apply_not t ψ x') (h (flip t x) (flip t x') (flip_agree n t x x' e))
apply_of_lines n (valid_powered {p} {c} {t} a b k l d) ψ h x x' e =
    rw (apply_mix p c t ψ x, apply_mix p c t ψ x', agree_is n x x' e c k, h x x' e, h (flip t x) (flip t x') (flip_agree n t x x' e))

-- a circuit on n lines takes a state of n lines to such a state
pub run_of_lines : (n : ℕ) (c : List Gate) → AllValid n c → (ψ : State) → OfLines n ψ → OfLines n (run c ψ)
unfolding run
run_of_lines n [] f ψ h = h
run_of_lines n (g ∷ c) f ψ h = run_of_lines n c f.1 (apply g ψ) (apply_of_lines n f.0 ψ h)

-- the amplitude that a circuit on n lines gives depends on the n lines alone
pub run_agree : (n : ℕ) (c : List Gate) → AllValid n c → (y y' x x' : Pattern) → agree n y y' ≡ true → agree n x x' ≡ true → run c (basis n y) x ≡ run c (basis n y') x'
unfolding OfLines
run_agree n c f y y' x x' e h = rw (basis_agree n y y' e) (run_of_lines n c f (basis n y') (basis_of_lines n y') x x' h)

-- ---- the matrix

-- the numbers i and j below 2^n as row and column: the amplitude at pattern i, from the start at pattern j
unfoldable pub SameEntries : ℕ → List Gate → List Gate → Type 0
SameEntries n a b = (i j : ℕ) → i < 2 ^ n → j < 2 ^ n → SameAmplitude a b (basis n (pattern j)) (pattern i)

-- two circuits on n lines have the same matrix exactly if its 2^n times 2^n entries are the same
pub same_entries : (n : ℕ) (a b : List Gate) → AllValid n a → AllValid n b → SameMatrix n a b ↔ SameEntries n a b
unfolding SameMatrix SameEntries SameAmplitude
same_entries n a b f g = (λ e i j h k. e (pattern j) (pattern i), λ e y x. all e y x)
  where
    at : (c : List Gate) → AllValid n c → (y x : Pattern) → run c (basis n (pattern (number n y))) (pattern (number n x)) ≡ run c (basis n y) x
    at c w y x = run_agree n c w (pattern (number n y)) y (pattern (number n x)) x (pattern_number n y) (pattern_number n x)

    all : SameEntries n a b → (y x : Pattern) → SameAmplitude a b (basis n y) x
    all e y x = rw (← at a f y x, ← at b g y x) (e (number n x) (number n y) (number_below n x) (number_below n y))
