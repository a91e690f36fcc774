-- What a circuit text can be judged to be: its refusals are 1, 2, 3, 4, 5 and 9, and what is read is a valid circuit. Assumes nothing.
use Prim.Native.Nat.{ℕ, ◌≤◌}
use mathlib.Core.Path.{◌≡◌, refl}
use mathlib.Core.List.{List}
use native.Mathlib.Omega.{arith}
use lib.ListN.{length}
use Rattle.gates.specs.Circuit.{AllValid}
use Rattle.meaning.specs.Pattern.{has}
use Rattle.text.specs.declared.Refusal.{Refusal}
use Rattle.text.specs.declared.Kind.TheVariants as kind
use Rattle.text.specs.Judging.{Judged, turned_away, accepted, judge}
use Rattle.text.proofs.Accepted.{judge_accepted, text_valid}
use Rattle.habits.specs.Habits.{Circuit, told, text_judged}
use Rattle.habits.specs.Demands.{Sized, numbers, textless}
use Rattle.habits.proofs.Lines.{OfCircuit, malformed, no_such_line, crossed, too_many, judge_of_circuit}
use Rattle.habits.proofs.Yields.{Yields, refuses, ends, Regular, of_text, yields_taken}

-- a circuit that was read
pub record Sound (c : Circuit) : Type 0 where
  pub valid : AllValid c.lines c.gates
  pub few : length c.gates ≤ 4096

-- of the text of number t, in a job over so many texts
module _ (own : List ℕ) (texts t : ℕ) (low : 1 ≤ t) (high : t ≤ texts) where
  -- a refusal of its lines is one of the job's
  regular : {r : Refusal} (l : ℕ) → OfCircuit r → Regular own texts r t l
  unfolding has numbers textless
  regular l malformed = of_text refl refl low high (λ z. absurd (omega arith))
  regular l no_such_line = of_text refl refl low high (λ z. absurd (omega arith))
  regular l crossed = of_text refl refl low high (λ z. absurd (omega arith))
  regular l too_many = of_text refl refl low high (λ z. absurd (omega arith))

  -- what its lines yield
  yields_told : (s : List ℕ) → Yields (Regular own texts) Sound (told t (judge kind.Circuit s))
  unfolding told
  yields_told s = go (judge kind.Circuit s) refl
    where
      go : (j : Judged) → judge kind.Circuit s ≡ j → Yields (Regular own texts) Sound (told t j)
      go (turned_away r l) e = refuses (regular l (judge_of_circuit s e))
      go (accepted h c) e = let w = judge_accepted kind.Circuit s e in ends (record { valid = text_valid w; few = w.short })

  -- what it yields with the gate lists judged with it
  pub yields_circuit : (s rooms : List ℕ) → Yields (Regular own texts) (λ c. Sound c × Sized s rooms) (text_judged t kind.Circuit s rooms)
  unfolding text_judged
  yields_circuit s rooms = yields_taken own texts t low high s rooms (yields_told s)
