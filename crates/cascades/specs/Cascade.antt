-- Cascades of mct gates: the pattern that a cascade makes of a pattern, its expansion, and what it is that a circuit realises it
-- (document 01, "What a gate does" and "Expansion"; document 02, order 4). Assumes nothing.
use Rattle.std.specs.Prelude.{◌≡◌, ◌≢◌, true, false, List, [], ◌∷◌, ℕ, ◌<◌}
use Rattle.gates.specs.Every.{Every}
use Rattle.gates.specs.declared.Gate.{Gate}
use Rattle.meaning.specs.Amplitude.{one, nought, doubled}
use Rattle.meaning.specs.Pattern.{Pattern, has, distinct}
use Rattle.meaning.specs.State.{run, powered_gates}
use Rattle.cascades.specs.Expansion.{◌⨾◌, Expandable}
use Rattle.cascades.specs.Control.{Control, mct±, control_lines}
use Rattle.cascades.specs.Signs.{Expands±, expansion±}
-- the states of n lines that are surely one pattern, and patterns that agree on n lines
unfoldable pub use Rattle.meaning.specs.Pattern.{agree}
unfoldable pub use Rattle.meaning.specs.State.{basis}

-- ---- cascades

-- an "mct gate": its controls, each with its sign, and its target
pub record Controlled : Type 0 where
  pub controls : List Control
  pub target : ℕ

-- the cascade's pattern: what the gates, in order, make of the pattern y
unfoldable pub after : List Controlled → Pattern → Pattern
after [] y = y
after (g ∷ gs) y = after gs (mct± g.controls g.target y)

-- "Gates are expanded in text order and joined", each with the same kept lines
unfoldable pub expand_all : ℕ → List ℕ → List Controlled → List Gate
expand_all n kept [] = []
expand_all n kept (g ∷ gs) = expansion± n kept g.controls g.target ⨾ expand_all n kept gs

-- the same with any choice of spare lines at each gate
pub data ExpandsAll (n : ℕ) : List Controlled → List Gate → Type 0 where
  no_gate : ExpandsAll n [] []
  next_gate : {g : Controlled} {gs : List Controlled} {c d : List Gate} → Expands± n g.controls g.target c → ExpandsAll n gs d → ExpandsAll n (g ∷ gs) (c ⨾ d)

-- ---- cascades on n lines

-- each line of the list is below n
unfoldable pub Below : ℕ → List ℕ → Type 0
Below n = Every (λ c. c < n)

-- an mct gate on n lines: its controls and its target are different lines of the n
pub record OnLines (n : ℕ) (cs : List ℕ) (t : ℕ) : Type 0 where
  pub apart : distinct cs ≡ true
  pub other : has t cs ≡ false
  pub line : t < n
  pub below : Below n cs

-- each gate of the cascade is on n lines
unfoldable pub AllOnLines : ℕ → List Controlled → Type 0
AllOnLines n = Every (λ g. OnLines n (control_lines g.controls) g.target)

-- each gate of the cascade is on n lines, with a spare line where it needs one
unfoldable pub AllExpandable : ℕ → List ℕ → List Controlled → Type 0
AllExpandable n kept = Every (λ g. Expandable n kept (control_lines g.controls) g.target × Below n (control_lines g.controls))

-- ---- what is promised of a circuit made from a cascade

-- the targets of the gates
unfoldable pub targets : List Controlled → List ℕ
targets [] = []
targets (g ∷ gs) = g.target ∷ targets gs

-- the circuit realises the cascade on n lines: from each pattern y, with m the number of powered gates,
pub record Realises (n : ℕ) (gs : List Controlled) (c : List Gate) : Type 0 where
  -- the state becomes 2^m times the one that is surely the cascade's pattern:
  pub state : (y : Pattern) → run c (basis n y) ≡ (λ x. doubled (powered_gates c) (basis n (after gs y) x))
  -- the amplitude is the number 2^m at the cascade's pattern (`amplitude_one` of meaning: `doubled m one` is 2^m),
  pub there : (y x : Pattern) → agree n x (after gs y) ≡ true → run c (basis n y) x ≡ doubled (powered_gates c) one
  -- and 0 elsewhere;
  pub elsewhere : (y x : Pattern) → agree n x (after gs y) ≡ false → run c (basis n y) x ≡ nought
  -- a borrowed line, a negated one, and every other line that is no gate's target, has its old bit at the cascade's pattern, so no pattern with another has a
  -- share
  pub restored : (y : Pattern) (i : ℕ) → has i (targets gs) ≡ false → after gs y i ≡ y i
  pub undisturbed : (y x : Pattern) (i : ℕ) → i < n → has i (targets gs) ≡ false → x i ≢ y i → run c (basis n y) x ≡ nought
