-- What a text is judged to be if it has no keep line and its lines are tried by other rules, or put other gates into the circuit: the judging of now,
-- with both for parameters. Texts were judged so before orders 4, 5, 6 and 8, each taken by itself. And a text without a keep line is judged so by the
-- rules and gates of now. Assumes nothing.
use mathlib.Core.Path.{◌≡◌, refl, ap, ◌∙◌}
use mathlib.Core.Logic.{◌≢◌}
use mathlib.Core.Bool.{◌||◌}
use mathlib.Core.List.{List, [], ◌∷◌, ◌++◌}
use Prim.Native.Nat.{ℕ, ◌+◌}
use native.Mathlib.Omega.{arith}
use lib.ListN.{length, take, get_or}
use lib.Dec.{ltb}
use Rattle.gates.specs.declared.Gate.{Gate}
use Rattle.text.specs.declared.Kind.{Kind}
use Rattle.text.specs.declared.Kind.TheVariants.{Cascade, Circuit}
use Rattle.text.specs.declared.Refusal.TheVariants.{Malformed, TooMany}
use Rattle.text.specs.Text.{Form, lines, keep, gate, mct}
use Rattle.text.specs.Reading.{Line, in_form, unformed, cut}
use Rattle.text.specs.Heads.{head_of, unkept, line_below}
use Rattle.text.specs.Judging as now
use Rattle.text.specs.Judging.{Judged, turned_away, accepted, most, any_from, rising, Rule, rule, first, head_rules, keep_rules, or_else, rest_by, rest, judge_rest, read_all}
use Rattle.meaning.specs.Pattern.{number, has}

-- the rules for a form on n lines, after so many gate lines that made this circuit
abbrev pub Rules : Type 0
Rules = Kind → ℕ → ℕ → List Gate → Form → List Rule

-- the gates that a form puts into a circuit of n lines
abbrev pub Gates : Type 0
Gates = ℕ → Form → List Gate

module _ (rules : Rules) (gates : Gates) where
  unfoldable pub judge_lines_by : Kind → ℕ → ℕ → List Gate → List Line → Judged
  judge_lines_by k n before c [] = accepted (unkept n) c
  judge_lines_by k n before c (unformed ∷ ls) = turned_away Malformed (before + 2)
  judge_lines_by k n before c (in_form f ∷ ls) = or_else (first (rules k n before c f)) (before + 2) (judge_lines_by k n (before + 1) (c ++ gates n f) ls)

  unfoldable pub judge_text_by : Kind → List Line → Judged
  judge_text_by k [] = turned_away Malformed 1
  judge_text_by k (unformed ∷ ls) = turned_away Malformed 1
  judge_text_by k (in_form (lines n) ∷ ls) = or_else (first (head_rules n)) 1 (judge_lines_by k n 0 [] ls)
  judge_text_by k (in_form (keep l) ∷ ls) = turned_away Malformed 1
  judge_text_by k (in_form (gate g) ∷ ls) = turned_away Malformed 1
  judge_text_by k (in_form (mct cs t) ∷ ls) = turned_away Malformed 1

-- ---- the rules and the gates of now

unfoldable pub rules_now : Rules
rules_now k n = now.rules k (unkept n)

unfoldable pub gates_now : Gates
gates_now n = now.gates (unkept n)

abbrev pub judge_lines_now : Kind → ℕ → ℕ → List Gate → List Line → Judged
judge_lines_now = judge_lines_by rules_now gates_now

abbrev pub judge_text_now : Kind → List Line → Judged
judge_text_now = judge_text_by rules_now gates_now

-- line 2 of the text is no keep line
abbrev pub NoKeep : List ℕ → Type 0
NoKeep s = (l : List ℕ) → get_or (read_all (cut s)) 1 unformed ≢ in_form (keep l)

-- of a circuit text nothing is asked: a keep line is malformed there, as any other line that does not belong
abbrev pub Unkept : Kind → List ℕ → Type 0
Unkept Cascade s = NoKeep s
Unkept Circuit s = Unit {0}

lines_as_now : (k : Kind) (n before : ℕ) (c : List Gate) (ls : List Line) → now.judge_lines k (unkept n) before c ls ≡ judge_lines_now k n before c ls
unfolding now.judge_lines judge_lines_by rules_now gates_now line_below
lines_as_now k n before c [] = refl
lines_as_now k n before c (unformed ∷ ls) = refl
lines_as_now k n before c (in_form f ∷ ls) = ap (or_else (first (now.rules k (unkept n) before c f)) (before + 2)) (lines_as_now k n (before + 1) (c ++ now.gates (unkept n) f) ls)

rest_as_now : (k : Kind) (n : ℕ) (ls : List Line) → rest k ls ≡ record { kept = []; gate_lines = ls } → judge_rest k n (rest k ls) ≡ judge_lines_now k n 0 [] ls
unfolding judge_rest keep_rules any_from rising first or_else head_of number has
rest_as_now k n ls e = ap (judge_rest k n) e ∙ lines_as_now k n 0 [] ls

no_rest : (k : Kind) (x : Line) (ls : List Line) → (k ≡ Cascade → (l : List ℕ) → get_or (x ∷ ls) 1 unformed ≢ in_form (keep l)) → rest k ls ≡ record { kept = []; gate_lines = ls }
unfolding rest rest_by
no_rest Circuit x ls w = refl
no_rest Cascade x [] w = refl
no_rest Cascade x (unformed ∷ ls) w = refl
no_rest Cascade x (in_form (keep l) ∷ ls) w = absurd (w refl l refl)
no_rest Cascade x (in_form (lines n) ∷ ls) w = refl
no_rest Cascade x (in_form (gate g) ∷ ls) w = refl
no_rest Cascade x (in_form (mct cs t) ∷ ls) w = refl

text_as_now : (k : Kind) (ls : List Line) → (k ≡ Cascade → (l : List ℕ) → get_or ls 1 unformed ≢ in_form (keep l)) → now.judge_text k ls ≡ judge_text_now k ls
unfolding now.judge_text judge_text_by
text_as_now k [] w = refl
text_as_now k (unformed ∷ ls) w = refl
text_as_now k (in_form (lines n) ∷ ls) w = ap (or_else (first (head_rules n)) 1) (rest_as_now k n ls (no_rest k (in_form (lines n)) ls w))
text_as_now k (in_form (keep l) ∷ ls) w = refl
text_as_now k (in_form (gate g) ∷ ls) w = refl
text_as_now k (in_form (mct cs t) ∷ ls) w = refl

-- a text without a keep line
pub unkept_judged : (k : Kind) (s : List ℕ) → Unkept k s → now.judge k s ≡ judge_text_now k (read_all (cut s))
unfolding now.judge
unkept_judged Cascade s w = text_as_now Cascade (read_all (cut s)) (λ q. w)
unkept_judged Circuit s w = text_as_now Circuit (read_all (cut s)) (λ q. absurd (let z : ◌≡◌ {A = ℕ} 0 1 = cc in omega arith))

-- ---- other gates, by the rules of now, of which rule 9 counts these gates

module _ (gates : Gates) where
  unfoldable pub rules : Rules
  rules k n before c f = take 6 (rules_now k n before c f) ++ (rule TooMany (ltb (most k) (before + 1) || ltb 4096 (length (c ++ gates n f))) ∷ [])

  abbrev pub judge_lines : Kind → ℕ → ℕ → List Gate → List Line → Judged
  judge_lines = judge_lines_by rules gates

  abbrev pub judge_text : Kind → List Line → Judged
  judge_text = judge_text_by rules gates
