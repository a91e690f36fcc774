-- Rules 3 to 9: what a text is judged to be. It computes.
-- Assumes nothing.
use Rattle.std.specs.Prelude.{ℕ, ◌+◌, Bool, true, false, cond, not, ◌&&◌, ◌||◌, List, [], ◌∷◌, ◌++◌, length, eqb, leb, ltb}
use Rattle.gates.specs.declared.Gate.{Gate}
use Rattle.gates.specs.declared.Gate.TheVariants.{Not, Powered}
use Rattle.meaning.specs.Pattern.{has}
use Rattle.cascades.specs.Expansion.{mct_spares}
use Rattle.cascades.specs.Control.{control_lines}
use Rattle.cascades.specs.Signs.{expansion±}
use Rattle.text.specs.declared.Kind.{Kind}
use Rattle.text.specs.declared.Kind.TheVariants.{Cascade, Circuit}
use Rattle.text.specs.declared.Refusal.{Refusal}
use Rattle.text.specs.declared.Head.{Head}
use Rattle.text.specs.declared.Refusal.TheVariants.{Malformed, NoSuchLine, Crossed, Unsorted, TooWide, NoSpare, TooMany}
use Rattle.text.specs.Text.{Form, lines, keep, gate, mct}
use Rattle.text.specs.Reading.{Line, in_form, unformed, read, cut}
use Rattle.text.specs.Heads.{head_of, kept_lines, line_below}

-- a text is turned away with a refusal and a line; or accepted, with its head and its circuit, read or expanded
pub data Judged : Type 0 where
  turned_away : Refusal → ℕ → Judged
  accepted : Head → List Gate → Judged

-- ---- a gate line: the lines of its controls, which the rules read whatever their signs, its target, and the gates that it puts into the circuit
-- below a head, with the NOTs of negated controls

unfoldable pub controls : Form → List ℕ
controls (lines n) = []
controls (keep l) = []
controls (gate (Not t)) = []
controls (gate (Powered p c t)) = c ∷ []
controls (mct cs t) = control_lines cs

unfoldable pub target : Form → ℕ
target (lines n) = 0
target (keep l) = 0
target (gate (Not t)) = t
target (gate (Powered p c t)) = t
target (mct cs t) = t

unfoldable pub gates : Head → Form → List Gate
gates h (lines m) = []
gates h (keep l) = []
gates h (gate g) = g ∷ []
gates h (mct cs t) = expansion± h.lines (kept_lines h) cs t

-- the form that every gate line has in a text of this kind
unfoldable pub belongs : Kind → Form → Bool
belongs Cascade (lines n) = false
belongs Cascade (keep l) = false
belongs Cascade (gate g) = false
belongs Cascade (mct cs t) = true
belongs Circuit (lines n) = false
belongs Circuit (keep l) = false
belongs Circuit (gate g) = true
belongs Circuit (mct cs t) = false

-- at most 256 mct lines, at most 4,096 circuit lines
unfoldable pub most : Kind → ℕ
most Cascade = 256
most Circuit = 4096

unfoldable pub any_from : ℕ → List ℕ → Bool
any_from n [] = false
any_from n (c ∷ cs) = leb n c || any_from n cs

unfoldable pub rising : List ℕ → Bool
rising [] = true
rising (c ∷ []) = true
rising (c ∷ d ∷ cs) = ltb c d && rising (d ∷ cs)

-- ---- the rules: each with the name of its refusal, tried in this order, 3 to 6, 8, 7, 9 (document 02, order 6: "8 is now tried before 7")

pub data Found : Type 0 where
  sound : Found
  breaks : Refusal → Found

pub data Rule : Type 0 where
  rule : Refusal → Bool → Rule

unfoldable pub first : List Rule → Found
first [] = sound
first (rule r b ∷ rs) = cond b (breaks r) (first rs)

-- line 1: (lines n), n from 1 to 32
unfoldable pub head_rules : ℕ → List Rule
head_rules n = rule NoSuchLine (not (leb 1 n && leb n 32)) ∷ []

-- (keep a b ..): "Keep uses rules 3, 4 and 6"; a line that is not in its form is no keep line
unfoldable pub keep_rules : ℕ → List ℕ → List Rule
keep_rules n l = rule NoSuchLine (any_from n l) ∷ rule Unsorted (not (rising l)) ∷ []

-- a form below the head h, after `before` gate lines that made the circuit c; "Refusal 8 is now: three or more controls and no unnamed, unkept line"
unfoldable pub rules : Kind → Head → ℕ → List Gate → Form → List Rule
rules k h before c f =
    rule Malformed (not (belongs k f))
    ∷ rule NoSuchLine (any_from h.lines (target f ∷ controls f))
    ∷ rule Crossed (has (target f) (controls f))
    ∷ rule Unsorted (not (rising (controls f)))
    ∷ rule NoSpare (leb 3 (length (controls f)) && eqb (length (mct_spares h.lines (kept_lines h) (controls f) (target f))) 0)
    ∷ rule TooWide (ltb 15 (length (controls f)))
    ∷ rule TooMany (ltb (most k) (before + 1) || ltb 4096 (length (c ++ gates h f)))
    ∷ []

-- ---- the lines in order; the first failing line, counted from 1, is returned

unfoldable pub or_else : Found → ℕ → Judged → Judged
or_else sound l j = j
or_else (breaks r) l j = turned_away r l

unfoldable pub judge_lines : Kind → Head → ℕ → List Gate → List Line → Judged
judge_lines k h before c [] = accepted h c
judge_lines k h before c (unformed ∷ ls) = turned_away Malformed (line_below h before)
judge_lines k h before c (in_form f ∷ ls) = or_else (first (rules k h before c f)) (line_below h before) (judge_lines k h (before + 1) (c ++ gates h f) ls)

-- what stands below line 1: the kept lines, where a cascade has a keep line "right after line 1", and the gate lines
pub record Rest : Type 0 where
  pub kept : List ℕ
  pub gate_lines : List Line

unfoldable pub rest_by : Form → List Line → Rest
rest_by (keep l) ls = record { kept = l; gate_lines = ls }
rest_by (lines n) ls = record { kept = []; gate_lines = in_form (lines n) ∷ ls }
rest_by (gate g) ls = record { kept = []; gate_lines = in_form (gate g) ∷ ls }
rest_by (mct cs t) ls = record { kept = []; gate_lines = in_form (mct cs t) ∷ ls }

unfoldable pub rest : Kind → List Line → Rest
rest Circuit ls = record { kept = []; gate_lines = ls }
rest Cascade [] = record { kept = []; gate_lines = [] }
rest Cascade (unformed ∷ ls) = record { kept = []; gate_lines = unformed ∷ ls }
rest Cascade (in_form f ∷ ls) = rest_by f ls

unfoldable pub judge_rest : Kind → ℕ → Rest → Judged
judge_rest k n w = or_else (first (keep_rules n w.kept)) 2 (judge_lines k (head_of n w.kept) 0 [] w.gate_lines)

unfoldable pub judge_text : Kind → List Line → Judged
judge_text k [] = turned_away Malformed 1
judge_text k (unformed ∷ ls) = turned_away Malformed 1
judge_text k (in_form (lines n) ∷ ls) = or_else (first (head_rules n)) 1 (judge_rest k n (rest k ls))
judge_text k (in_form (keep l) ∷ ls) = turned_away Malformed 1
judge_text k (in_form (gate g) ∷ ls) = turned_away Malformed 1
judge_text k (in_form (mct cs t) ∷ ls) = turned_away Malformed 1

unfoldable pub read_all : List (List ℕ) → List Line
read_all [] = []
read_all (l ∷ ls) = read l ∷ read_all ls

unfoldable pub judge : Kind → List ℕ → Judged
judge k s = judge_text k (read_all (cut s))
