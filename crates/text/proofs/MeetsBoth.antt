-- The lines at which an answer changed when rule 8 came before rule 7. Assumes nothing.
use mathlib.Core.Path.{◌≡◌}
use mathlib.Core.List.{List, [], ◌∷◌}
use Prim.Native.Nat.{ℕ, ◌+◌, ◌≤◌}
use lib.ListN.{length, take, get_or}
use Rattle.text.specs.declared.Kind.{Kind}
use Rattle.text.specs.Text.{Form, lines}
use Rattle.text.specs.Reading.{Line, in_form, unformed, cut}
use Rattle.text.specs.Judging.{controls, sound, first, read_all}
use Rattle.text.proofs.JudgedBy.{rules_now}

-- the line passes rules 3 to 6, which read nothing of the lines before it, and its gate, "with 16 or more controls that names every line meets both
-- rules 7 and 8"
pub record MeetsBoth (k : Kind) (n : ℕ) (f : Form) : Type 0 where
  pub passes : first (take 4 (rules_now k n 0 [] f)) ≡ sound
  pub wide : 16 ≤ length (controls f)
  pub all_named : n ≡ length (controls f) + 1

-- so it is with line l: of the lines ls, which stand after line 1 and `before` others
pub record MeetsBothAmong (k : Kind) (n before : ℕ) (ls : List Line) (l : ℕ) : Type 0 where
  pub place : ℕ
  pub form : Form
  pub its_line : l ≡ before + place + 2
  pub reads : get_or ls place unformed ≡ in_form form
  pub meets : MeetsBoth k n form

-- and of the text s
pub record MeetsBothAt (k : Kind) (s : List ℕ) (l : ℕ) : Type 0 where
  pub number : ℕ
  pub others : List Line
  pub all_lines : read_all (cut s) ≡ in_form (lines number) ∷ others
  pub among : MeetsBothAmong k number 0 others l
