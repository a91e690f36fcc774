-- Document 01's starred examples, as one table, and those of negated controls, of spare lines, of rules 7 and 8 and of kept lines (document 02, orders 4
-- to 6 and 8).
-- Assumes nothing.
use Rattle.std.specs.Prelude.{ℕ, ◌≤◌, ◌≡◌, List, [], ◌∷◌, ◌++◌, length, take}
use Prim.Native.String.{String}
use Rattle.cascades.specs.Expansion.{mct_spares, first_spare, expansion}
use Rattle.text.specs.Text.{bytes}
use Rattle.jobs.specs.Jobs.{Job, mapping, reducing, Entry, Exit, Says}

-- lines as they are typed
unfoldable pub typed : List String → List ℕ
typed [] = []
typed (l ∷ ls) = bytes l ++ (bytes "\n" ++ typed ls)

-- the whole answer text, its gates and its bytes; the gates quoted with an answer area of length 0; a refusal and its line
pub data Answer : Type 0 where
  text : List String → (gates bytes : ℕ) → Answer
  quote : ℕ → Answer
  away : ℕ → ℕ → Answer

pub data Row : Type 0 where
  gives : Job → List String → Answer → Row
  -- on n lines, of which these are kept, the gate with these controls and target: the spare line that it takes, and how many gates it expands to
  expands : ℕ → List ℕ → List ℕ → ℕ → ℕ → ℕ → Row

unfoldable pub Shows : Answer → Exit → Type 0
Shows (text ls g b) x = (x.number ≡ 0) × (x.gates ≡ g) × (x.bytes ≡ b) × (take x.bytes x.area ≡ typed ls)
Shows (quote g) x = (x.number ≡ 0) × (x.gates ≡ g) × (x.bytes ≡ 0)
Shows (away r l) x = (x.number ≡ r) × (x.line ≡ l) × (x.gates ≡ 0) × (x.bytes ≡ 0)

-- the answer areas that get this answer: those with room enough; that of length 0; all
unfoldable pub Gets : Answer → List ℕ → Type 0
Gets (text ls g b) a = length (typed ls) ≤ length a
Gets (quote g) a = a ≡ []
Gets (away r l) a = Unit {0}

-- whatever gate list of at least 4,096 records and such answer area is lent
unfoldable pub Correct : Row → Type 0
Correct (gives j ls a) = (e : Entry) (x : Exit) → e.text ≡ typed ls → 4096 ≤ length e.list → Gets a e.area → Says j e x → Shows a x
Correct (expands n kept cs t s m) = (first_spare (mct_spares n kept cs t) ≡ s) × (length (expansion n kept cs t) ≡ m)

abbrev pub table : List Row
table =
    gives mapping ("(lines 3)" ∷ "(mct (0 1) 2)" ∷ []) (text ("(lines 3)" ∷ "(v 0 2)" ∷ "(v 1 2)" ∷ "(cn 0 1)" ∷ "(vp 1 2)" ∷ "(cn 0 1)" ∷ []) 5 53)
    ∷ gives mapping ("(lines 3)" ∷ "(mct (0 1) 2)" ∷ []) (quote 5)
    ∷ gives mapping ("(lines 3)" ∷ "(mct (0 1) 2)" ∷ "(mct (0 1) 2)" ∷ []) (quote 9)
    ∷ expands 5 [] (0 ∷ 1 ∷ 2 ∷ []) 3 4 16
    ∷ gives mapping ("(lines 5)" ∷ "(mct (0 1 2) 3)" ∷ []) (quote 14)
    ∷ gives mapping ("(lines 4)" ∷ "(mct (0 1 2) 3)" ∷ []) (away 8 2)
    ∷ gives reducing ("(lines 2)" ∷ "(v 0 1)" ∷ "(v 0 1)" ∷ []) (text ("(lines 2)" ∷ "(cn 0 1)" ∷ []) 1 19)
    ∷ gives reducing ("(lines 2)" ∷ "(cn 0 1)" ∷ "(v 0 1)" ∷ []) (text ("(lines 2)" ∷ "(vp 0 1)" ∷ []) 1 19)
    ∷ gives reducing ("(lines 2)" ∷ "(v 0 1)" ∷ "(vp 0 1)" ∷ []) (text ("(lines 2)" ∷ []) 0 10)
    ∷ gives reducing ("(lines 3)" ∷ "(cn 0 2)" ∷ "(cn 1 2)" ∷ "(cn 0 2)" ∷ []) (text ("(lines 3)" ∷ "(cn 1 2)" ∷ []) 1 19)
    ∷ gives reducing ("(lines 3)" ∷ "(cn 0 1)" ∷ "(cn 1 2)" ∷ "(cn 0 1)" ∷ []) (text ("(lines 3)" ∷ "(cn 0 1)" ∷ "(cn 1 2)" ∷ "(cn 0 1)" ∷ []) 3 37)
    ∷ gives reducing ("(lines 2)" ∷ "(cn 0 1)" ∷ "(not 1)" ∷ []) (text ("(lines 2)" ∷ "(not 1)" ∷ "(cn 0 1)" ∷ []) 2 27)
    ∷ gives reducing ("(lines 2)" ∷ "(not 0)" ∷ "(cn 0 1)" ∷ "(not 0)" ∷ []) (text ("(lines 2)" ∷ "(not 0)" ∷ "(cn 0 1)" ∷ "(not 0)" ∷ []) 3 35)
    ∷ []

-- negated controls: a NOT before the expansion and again after it, and a list whose NOTs stand where passes let them
abbrev pub signed_table : List Row
signed_table =
    gives mapping ("(lines 2)" ∷ "(mct (-0) 1)" ∷ []) (text ("(lines 2)" ∷ "(not 0)" ∷ "(cn 0 1)" ∷ "(not 0)" ∷ []) 3 35)
    ∷ gives mapping ("(lines 3)" ∷ "(mct (-0 -1) 2)" ∷ [])
    (text ("(lines 3)" ∷ "(not 0)" ∷ "(not 1)" ∷ "(v 0 2)" ∷ "(v 1 2)" ∷ "(cn 0 1)" ∷ "(vp 1 2)" ∷ "(not 1)" ∷ "(cn 0 1)" ∷ "(not 0)" ∷ []) 9 85)
    ∷ gives mapping ("(lines 3)" ∷ "(mct (-0 -1) 2)" ∷ []) (quote 9)
    ∷ gives mapping ("(lines 2)" ∷ "(mct (-0) 1)" ∷ "(mct (0) 1)" ∷ []) (text ("(lines 2)" ∷ "(not 0)" ∷ "(cn 0 1)" ∷ "(not 0)" ∷ "(cn 0 1)" ∷ []) 4 44)
    ∷ gives mapping ("(lines 4)" ∷ "(mct (-0 1 -2) 3)" ∷ []) (away 8 2)
    ∷ []

-- spare lines in the published order: `(mct (0 1 2 3 4) 5)` borrows 6, and where there is a line 7 its M1 borrows that, so that more of it merges
abbrev pub published_table : List Row
published_table =
    expands 8 [] (0 ∷ 1 ∷ 2 ∷ 3 ∷ 4 ∷ []) 5 6 46
    ∷ gives mapping ("(lines 8)" ∷ "(mct (0 1 2 3 4) 5)" ∷ []) (quote 32)
    ∷ gives mapping ("(lines 7)" ∷ "(mct (0 1 2 3 4) 5)" ∷ []) (quote 42)
    ∷ gives mapping ("(lines 6)" ∷ "(mct (0 1 2 3 4) 5)" ∷ []) (away 8 2)
    ∷ []

-- 8 is tried before 7: "Document 01's example of 16 controls on 17 lines becomes 8"; with a line more the gate has a spare one, and is too wide
abbrev pub wide_table : List Row
wide_table =
    gives mapping ("(lines 17)" ∷ "(mct (0 1 2 3 4 5 6 7 8 9 10 11 12 13 14 15) 16)" ∷ []) (away 8 2)
    ∷ gives mapping ("(lines 18)" ∷ "(mct (0 1 2 3 4 5 6 7 8 9 10 11 12 13 14 15) 16)" ∷ []) (away 7 2)
    ∷ []

-- kept lines: no line to spare but a kept one; a line more; a kept line that the gate names and its M1 borrows, as without the keep line; a kept line
-- that was the first spare
abbrev pub kept_table : List Row
kept_table =
    gives mapping ("(lines 5)" ∷ "(keep 4)" ∷ "(mct (0 1 2) 3)" ∷ []) (away 8 3)
    ∷ expands 6 (4 ∷ []) (0 ∷ 1 ∷ 2 ∷ []) 3 5 16
    ∷ gives mapping ("(lines 6)" ∷ "(keep 4)" ∷ "(mct (0 1 2) 3)" ∷ []) (quote 14)
    ∷ gives mapping ("(lines 7)" ∷ "(keep 0)" ∷ "(mct (0 1 2 3 4) 5)" ∷ []) (quote 42)
    ∷ gives mapping ("(lines 8)" ∷ "(keep 6)" ∷ "(mct (0 1 2 3 4) 5)" ∷ []) (quote 42)
    ∷ gives mapping ("(lines 3)" ∷ "(keep 2)" ∷ "(mct (0) 1)" ∷ []) (text ("(lines 3)" ∷ "(cn 0 1)" ∷ []) 1 19)
    ∷ gives reducing ("(lines 3)" ∷ "(keep 2)" ∷ "(cn 0 1)" ∷ []) (away 3 2)
    ∷ []
