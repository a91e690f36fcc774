-- A slip as a text (document 02, order 9): its lines, how they are written, and what a text is judged to be. Assumes nothing.
use Rattle.std.specs.Prelude.{ℕ, zero, suc, ◌+◌, ◌*◌, ◌-◌, ◌/◌, ◌%◌, cond, List, [], ◌∷◌, ◌++◌, eqb, ltb}
use Rattle.text.specs.declared.Refusal.TheVariants.{Malformed, TooMany}
use Rattle.text.specs.Text.{bytes}
use Rattle.text.specs.Reading.{Got, got, none, bind, if_got, strip, digit, cut}
use Rattle.stepping.specs.Slip.{SlipStep, pass_at, merge_at}
use Rattle.habits.specs.Habits.{Judgement, fine, away, ◌then◌, require, taken}

-- ---- how a line is written

-- a place in decimal digits, at most k + 1 of them, without a leading zero except 0 itself
unfoldable pub figures : ℕ → ℕ → List ℕ
figures zero i = (48 + i) ∷ []
figures (suc k) i = cond (ltb i 10) ((48 + i) ∷ []) (figures k (i / 10) ++ ((48 + i % 10) ∷ []))

-- the place that a step names
unfoldable pub place_in : SlipStep → ℕ
place_in (pass_at i) = i
place_in (merge_at i) = i

-- `(pass i)` or `(merge i)`, i "up to four digits"; the line is ended by byte 10
unfoldable pub slip_line : SlipStep → List ℕ
slip_line (pass_at i) = bytes "(pass " ++ (figures 3 i ++ bytes ")\n")
slip_line (merge_at i) = bytes "(merge " ++ (figures 3 i ++ bytes ")\n")

-- a slip has no line 1 of its own
unfoldable pub slip_text : List SlipStep → List ℕ
slip_text [] = []
slip_text (x ∷ ss) = slip_line x ++ slip_text ss

-- ---- how it is read: the step that a line is the writing of, if there is one (proofs/Printed: slip_reads, slip_read_only)

-- at most k more digits
unfoldable pub more : ℕ → ℕ → List ℕ → Got ℕ
more zero i s = got i s
more (suc k) i [] = got i []
more (suc k) i (b ∷ s) = cond (digit b) (more k (i * 10 + (b - 48)) s) (got i (b ∷ s))

unfoldable pub place : List ℕ → Got ℕ
place [] = none
place (a ∷ s) = cond (digit a) (cond (eqb a 48) (got 0 s) (more 3 (a - 48) s)) none

-- `i)` and the line's end
unfoldable pub placed : (ℕ → SlipStep) → List ℕ → Got SlipStep
placed f s = bind (place s) (λ i s'. bind (strip (bytes ")\n") s') (λ _ s''. got (f i) s''))

unfoldable pub slip_form : List ℕ → Got SlipStep
slip_form s = if_got (strip (bytes "(pass ") s) (λ _. placed pass_at) (bind (strip (bytes "(merge ") s) (λ _. placed merge_at))

-- ---- what a slip of this text number is judged to be

-- a whole line, its byte 10 included
unfoldable pub formed : (text line : ℕ) → Got SlipStep → Judgement SlipStep
formed t l (got x []) = fine x
formed t l (got x (b ∷ s)) = away Malformed t l
formed t l none = away Malformed t l

-- the lines after so many: "at most 4,096 lines, past which rule 9 answers"
unfoldable pub slip_lines : (text before : ℕ) → List (List ℕ) → Judgement (List SlipStep)
slip_lines t before [] = fine []
slip_lines t before (x ∷ xs) =
    formed t (before + 1) (slip_form x) then λ s.
    require (ltb before 4096) TooMany t (before + 1) then λ _.
    slip_lines t (before + 1) xs then λ ss.
    fine (s ∷ ss)

-- "A slip has no `(lines n)` and may be empty"; no gate list is judged with it
unfoldable pub slip_judged : (text : ℕ) → List ℕ → Judgement (List SlipStep)
slip_judged t s = taken t s [] (slip_lines t 0 (cut s))
