-- The refusals of a text's lines: of any text 3 to 9, of a circuit 3, 4, 5 and 9, each with a line counted from 1. Assumes nothing.
use Prim.Native.Nat.{ℕ, ◌+◌, ◌≤◌}
use mathlib.Core.Path.{◌≡◌, subst}
use mathlib.Core.Bool.{Bool, true, false, cond, false≢true}
use lib.Dec.{eqb}
use mathlib.Core.List.{List, [], ◌∷◌, ◌++◌}
use native.Mathlib.Omega.{arith}
use Rattle.gates.specs.declared.Gate.{Gate}
use Rattle.gates.specs.declared.Gate.TheVariants.{Not, Powered}
use Rattle.text.specs.declared.Refusal.{Refusal}
use Rattle.text.specs.declared.Refusal.TheVariants.{Malformed, NoSuchLine, Crossed, TooMany}
use Rattle.text.specs.declared.Head.{Head}
use Rattle.text.specs.declared.Kind.{Kind}
use Rattle.text.specs.declared.Kind.TheVariants.{Circuit}
use Rattle.text.specs.Refusals.{number_of}
use Rattle.text.specs.Text.{Form, lines, keep, gate, mct}
use Rattle.text.specs.Heads.{head_of, line_below}
use Rattle.text.specs.Reading.{Line, in_form, unformed, cut}
use Rattle.text.specs.Judging.{Judged, turned_away, accepted, gates, controls, belongs, any_from, rising, Found, sound, breaks, first, head_rules, keep_rules, rules, or_else, judge_lines, rest, judge_rest, judge_text, read_all, judge}
use Rattle.habits.proofs.Rules.{In, first_in}

-- ---- what holds of every refusal by the rules of a line holds of the text's

-- a refusal in O, with a line counted from 1
abbrev ByLine : (Refusal → Type 0) → Judged → Type 0
ByLine O (turned_away r l) = O r × (1 ≤ l)
ByLine O (accepted h c) = Unit {0}

-- of rules tried in order, and of what comes after them
by_rules : (O : Refusal → Type 0) (f : Found) (l : ℕ) (j : Judged) → In O f → 1 ≤ l → ByLine O j → ByLine O (or_else f l j)
unfolding or_else
by_rules O sound l j a h b = b
by_rules O (breaks r) l j a h b = (a, h)

-- 3 and 4 are in O, and what the rules of the keep line and of each gate line of a text of this kind find
module _ (k : Kind) (O : Refusal → Type 0) (form : O Malformed) (head : O NoSuchLine) (kept : (n : ℕ) (ls : List Line) → In O (first (keep_rules n (rest k ls).kept))) (line : (h : Head) (before : ℕ) (c : List Gate) (f : Form) → In O (first (rules k h before c f))) where
  -- the gate lines
  below_1 : (h : Head) (before : ℕ) → 1 ≤ line_below h before
  unfolding line_below
  below_1 h before = go (eqb h.kept 0)
    where
      go : (b : Bool) → 1 ≤ cond b (before + 2) (before + 3)
      go true = omega arith
      go false = omega arith

  lines_by_line : (h : Head) (before : ℕ) (c : List Gate) (ls : List Line) → ByLine O (judge_lines k h before c ls)
  unfolding judge_lines
  lines_by_line h before c [] = tt
  lines_by_line h before c (unformed ∷ ls) = (form, below_1 h before)
  lines_by_line h before c (in_form f ∷ ls) = by_rules O (first (rules k h before c f)) (line_below h before) _ (line h before c f) (below_1 h before) (lines_by_line h (before + 1) (c ++ gates h f) ls)

  -- all lines
  text_by_line : (ls : List Line) → ByLine O (judge_text k ls)
  unfolding judge_text judge_rest head_rules
  text_by_line [] = (form, omega arith)
  text_by_line (unformed ∷ ls) = (form, omega arith)
  text_by_line (in_form (keep l) ∷ ls) = (form, omega arith)
  text_by_line (in_form (gate g) ∷ ls) = (form, omega arith)
  text_by_line (in_form (mct cs t) ∷ ls) = (form, omega arith)
  text_by_line (in_form (lines n) ∷ ls) = by_rules O (first (head_rules n)) 1 _ (first_in O (head_rules n) (λ _. head, tt)) (omega arith)
      (by_rules O (first (keep_rules n (rest k ls).kept)) 2 _ (kept n ls) (omega arith) (lines_by_line (head_of n (rest k ls).kept) 0 [] (rest k ls).gate_lines))

  -- the text
  judge_in : (s : List ℕ) {r : Refusal} {l : ℕ} → judge k s ≡ turned_away r l → O r × (1 ≤ l)
  unfolding judge
  judge_in s e = subst (ByLine O) e (text_by_line (read_all (cut s)))

-- ---- of any text: 3 to 9

-- a refusal by a rule of the lines
abbrev OfLine : Refusal → Type 0
OfLine r = (3 ≤ number_of r) × (number_of r ≤ 9)

rules_of_line : (k : Kind) (h : Head) (before : ℕ) (c : List Gate) (f : Form) → In OfLine (first (rules k h before c f))
unfolding rules
rules_of_line k h before c f = first_in OfLine (rules k h before c f)
    (λ _. (omega arith, omega arith), (λ _. (omega arith, omega arith), (λ _. (omega arith, omega arith), (λ _. (omega arith, omega arith), (λ _. (omega arith, omega arith), (λ _. (omega arith, omega arith), (λ _. (omega arith, omega arith), tt)))))))

keep_of_line : (k : Kind) (n : ℕ) (ls : List Line) → In OfLine (first (keep_rules n (rest k ls).kept))
unfolding keep_rules
keep_of_line k n ls = first_in OfLine (keep_rules n (rest k ls).kept) (λ _. (omega arith, omega arith), (λ _. (omega arith, omega arith), tt))

-- "the first failing line, counted from 1, is returned"
pub judge_by_line : (k : Kind) (s : List ℕ) {r : Refusal} {l : ℕ} → judge k s ≡ turned_away r l → (3 ≤ number_of r) × (number_of r ≤ 9) × (1 ≤ l)
judge_by_line k s e = let z = judge_in k OfLine (omega arith, omega arith) (omega arith, omega arith) (keep_of_line k) (rules_of_line k) s e in (z.0.0, z.0.1, z.1)

-- ---- of a circuit: 3, 4, 5 and 9

-- a refusal by a rule of a circuit's lines
pub data OfCircuit : Refusal → Type 0 where
  malformed : OfCircuit Malformed
  no_such_line : OfCircuit NoSuchLine
  crossed : OfCircuit Crossed
  too_many : OfCircuit TooMany

-- a gate has at most one control: rules 6, 7 and 8 let it pass
rules_of_circuit : (h : Head) (before : ℕ) (c : List Gate) (f : Form) → In OfCircuit (first (rules Circuit h before c f))
unfolding rules first belongs controls rising
rules_of_circuit h before c (lines n) = malformed
rules_of_circuit h before c (keep l) = malformed
rules_of_circuit h before c (mct cs t) = malformed
rules_of_circuit h before c (gate (Not t)) =
    first_in OfCircuit (rules Circuit h before c (gate (Not t))) (λ _. malformed, (λ _. no_such_line, (λ _. crossed, (λ b. absurd (false≢true b), (λ b. absurd (false≢true b), (λ b. absurd (false≢true b), (λ _. too_many, tt)))))))
rules_of_circuit h before c (gate (Powered p d t)) =
    first_in OfCircuit (rules Circuit h before c (gate (Powered p d t))) (λ _. malformed, (λ _. no_such_line, (λ _. crossed, (λ b. absurd (false≢true b), (λ b. absurd (false≢true b), (λ b. absurd (false≢true b), (λ _. too_many, tt)))))))

-- no circuit text is refused by another
pub judge_of_circuit : (s : List ℕ) {r : Refusal} {l : ℕ} → judge Circuit s ≡ turned_away r l → OfCircuit r
judge_of_circuit s e = (judge_in Circuit OfCircuit malformed no_such_line (λ n ls. unfold rest keep_rules any_from rising first in tt) rules_of_circuit s e).0
