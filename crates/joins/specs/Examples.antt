-- Examples of join, as one table. Assumes nothing.
use Rattle.std.specs.Prelude.{ℕ, ◌≤◌, ◌≡◌, List, [], ◌∷◌, length, take, replicate}
use Prim.Native.String.{String}
use Rattle.gates.specs.declared.Gate.{Gate}
use Rattle.gates.specs.declared.Gate.TheVariants.{Not}
use Rattle.text.specs.Text.{circuit_text}
use Rattle.habits.specs.Habits.{Exit}
use Rattle.demands.specs.Examples.{typed}
use Rattle.joins.specs.Join.{Join}

-- the whole answer text; a refusal, its line and its text number
pub data Answer : Type 0 where
  text : List String → Answer
  away : (number line text : ℕ) → Answer

pub data Row : Type 0 where
  -- two texts as they are typed
  joins : List String → List String → Answer → Row
  -- the longest circuit on one line, before this text
  longest_with : List String → Answer → Row

unfoldable pub Shows : Answer → Exit → Type 0
Shows (text ls) x = (x.number ≡ 0) × (take x.count x.lent.area ≡ typed ls)
Shows (away n i u) x = (x.number ≡ n) × (x.line ≡ i) × (x.text ≡ u)

-- the answer areas that get this answer: those with room enough; all
unfoldable pub Gets : Answer → List ℕ → Type 0
Gets (text ls) a = length (typed ls) ≤ length a
Gets (away n i u) a = Unit {0}

-- 4,096 gates: on one line there is no gate but `not 0`
abbrev pub longest : List ℕ
longest = circuit_text 1 (replicate 4096 (Not 0))

-- whatever gate list of at least 4,096 records and such answer area is lent
abbrev pub Joining : List ℕ → List ℕ → Answer → Type 0
Joining s t w = (l : List Gate) (a : List ℕ) (x : Exit) → 4096 ≤ length l → Gets w a → Join s l t a x → Shows w x

unfoldable pub Correct : Row → Type 0
Correct (joins s t w) = Joining (typed s) (typed t) w
Correct (longest_with t w) = Joining longest (typed t) w

abbrev pub table : List Row
table =
    joins ("(lines 2)" ∷ "(v 0 1)" ∷ []) ("(lines 2)" ∷ "(v 0 1)" ∷ []) (text ("(lines 2)" ∷ "(cn 0 1)" ∷ []))
    ∷ joins ("(lines 2)" ∷ "(cn 0 1)" ∷ []) ("(lines 2)" ∷ "(cn 0 1)" ∷ []) (text ("(lines 2)" ∷ []))
    -- the first before the second
    ∷ joins ("(lines 2)" ∷ "(cn 0 1)" ∷ []) ("(lines 2)" ∷ "(cn 1 0)" ∷ []) (text ("(lines 2)" ∷ "(cn 0 1)" ∷ "(cn 1 0)" ∷ []))
    ∷ joins ("(lines 2)" ∷ "(cn 1 0)" ∷ []) ("(lines 2)" ∷ "(cn 0 1)" ∷ []) (text ("(lines 2)" ∷ "(cn 1 0)" ∷ "(cn 0 1)" ∷ []))
    -- a circuit and its inverse
    ∷ joins ("(lines 3)" ∷ "(v 0 1)" ∷ "(not 2)" ∷ "(cn 1 2)" ∷ []) ("(lines 3)" ∷ "(cn 1 2)" ∷ "(not 2)" ∷ "(vp 0 1)" ∷ []) (text ("(lines 3)" ∷ []))
    -- different line counts, but where the second text is malformed, or the first
    ∷ joins ("(lines 2)" ∷ "(not 0)" ∷ []) ("(lines 3)" ∷ "(not 0)" ∷ []) (away 11 0 0)
    ∷ joins ("(lines 2)" ∷ "(not 0)" ∷ []) ("(lines 3)" ∷ "(not 0)" ∷ "(not 00)" ∷ []) (away 3 3 2)
    ∷ joins ("(lines 2)" ∷ "(not 00)" ∷ []) ("(lines 33)" ∷ []) (away 3 2 1)
    -- a gate over, although the two together would reduce; different line counts come before it
    ∷ longest_with ("(lines 1)" ∷ "(not 0)" ∷ []) (away 9 2 2)
    ∷ longest_with ("(lines 2)" ∷ "(not 0)" ∷ []) (away 11 0 0)
    ∷ []
