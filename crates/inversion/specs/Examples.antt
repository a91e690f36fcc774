-- Examples of invert, as one table. Assumes nothing.
use Rattle.std.specs.Prelude.{◌≤◌, ◌≡◌, List, [], ◌∷◌, length}
use Prim.Native.String.{String}
use Rattle.jobs.specs.Jobs.{Entry, Exit}
use Rattle.demands.specs.Examples.{typed, Answer, text, away, Shows, Gets}
use Rattle.inversion.specs.Invert.{Invert}

-- a text as it is typed, and the answer
pub data Row : Type 0 where
  inverts : List String → Answer → Row

-- whatever gate list of at least 4,096 records and answer area that gets this answer is lent
unfoldable pub Correct : Row → Type 0
Correct (inverts ls a) = (e : Entry) (x : Exit) → e.text ≡ typed ls → 4096 ≤ length e.list → Gets a e.area → Invert e x → Shows a x

abbrev pub table : List Row
table =
    inverts ("(lines 2)" ∷ "(v 0 1)" ∷ []) (text ("(lines 2)" ∷ "(vp 0 1)" ∷ []) 1 19)
    -- reversed: `cn 0 1` does not pass `cn 1 2`
    ∷ inverts ("(lines 3)" ∷ "(cn 0 1)" ∷ "(cn 1 2)" ∷ []) (text ("(lines 3)" ∷ "(cn 1 2)" ∷ "(cn 0 1)" ∷ []) 2 28)
    -- the list that map gives for `(mct (0 1) 2)`
    ∷ inverts ("(lines 3)" ∷ "(v 0 2)" ∷ "(v 1 2)" ∷ "(cn 0 1)" ∷ "(vp 1 2)" ∷ "(cn 0 1)" ∷ [])
    (text ("(lines 3)" ∷ "(cn 0 1)" ∷ "(vp 0 2)" ∷ "(v 1 2)" ∷ "(cn 0 1)" ∷ "(vp 1 2)" ∷ []) 5 54)
    -- and reduced
    ∷ inverts ("(lines 2)" ∷ "(v 0 1)" ∷ "(v 0 1)" ∷ "(v 0 1)" ∷ []) (text ("(lines 2)" ∷ "(v 0 1)" ∷ []) 1 18)
    ∷ inverts ("(lines 1)" ∷ []) (text ("(lines 1)" ∷ []) 0 10)
    ∷ inverts ("(lines 2)" ∷ "(not 0)" ∷ "(not 2)" ∷ []) (away 4 3)
    ∷ []
