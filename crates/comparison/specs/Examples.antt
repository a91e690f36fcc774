-- Examples of compare, as one table. Assumes nothing.
use Rattle.std.specs.Prelude.{ℕ, ◌≤◌, ◌≡◌, ◌⊎◌, List, [], ◌∷◌, length, replicate}
use Prim.Native.String.{String}
use Rattle.gates.specs.declared.Gate.{Gate}
use Rattle.gates.specs.declared.Gate.TheVariants.{Not}
use Rattle.gates.specs.Circuit.{Linked}
use Rattle.text.specs.Text.{circuit_text}
use Rattle.std.specs.declared.cmp.Ordering.{Ordering}
use Rattle.std.specs.declared.cmp.Ordering.TheVariants.{Less, Equal, Greater}
use Rattle.ordering.specs.Comparing.{count_of}
use Rattle.habits.specs.Habits.{Exit}
use Rattle.demands.specs.Examples.{typed}
use Rattle.comparison.specs.Compare.{Compare}
use Rattle.comparison.specs.Demands.{Ran}

-- less, equal or greater; a refusal, its line and its text number
pub data Answer : Type 0 where
  says : Ordering → Answer
  away : (number line text : ℕ) → Answer

pub data Row : Type 0 where
  -- two texts as they are typed
  compares : List String → List String → Answer → Row
  -- on n lines the circuit without gates is less than any other
  least : ℕ → Row
  -- the longest circuit on one line is less than this text
  longest_before : List String → Row

unfoldable pub Shows : Answer → Exit → Type 0
Shows (says k) x = (x.number ≡ 0) × (x.count ≡ count_of k)
Shows (away n i u) x = (x.number ≡ n) × (x.line ≡ i) × (x.text ≡ u)

-- 4,096 gates: on one line there is no gate but `not 0`
abbrev pub longest : List ℕ
longest = circuit_text 1 (replicate 4096 (Not 0))

-- whatever gate lists of at least 4,096 records are lent
unfoldable pub Correct : Row → Type 0
Correct (compares s t a) = (l m : List Gate) (x : Exit) → 4096 ≤ length l → 4096 ≤ length m → Compare (typed s) l (typed t) m x → Shows a x
Correct (least n) = (c : List Gate) (k : ℕ) → Ran n [] n c k → (k ≡ 0) ⊎ Linked n [] c
Correct (longest_before t) = (l m : List Gate) (x : Exit) → 4096 ≤ length l → 4096 ≤ length m → Compare longest l (typed t) m x → Shows (says Less) x

abbrev pub table : List Row
table =
    compares ("(lines 3)" ∷ "(cn 0 2)" ∷ "(cn 1 2)" ∷ "(cn 0 2)" ∷ []) ("(lines 3)" ∷ "(cn 1 2)" ∷ []) (says Equal)
    ∷ compares ("(lines 2)" ∷ "(cn 0 1)" ∷ "(not 1)" ∷ []) ("(lines 2)" ∷ "(not 1)" ∷ "(cn 0 1)" ∷ []) (says Equal)
    ∷ least 2
    ∷ longest_before ("(lines 2)" ∷ [])
    -- the same gates on more lines
    ∷ compares ("(lines 3)" ∷ "(not 1)" ∷ []) ("(lines 2)" ∷ "(not 1)" ∷ []) (says Greater)
    -- a NOT before control 0
    ∷ compares ("(lines 2)" ∷ "(not 1)" ∷ []) ("(lines 2)" ∷ "(v 0 1)" ∷ []) (says Less)
    -- a list that ends sooner
    ∷ compares ("(lines 2)" ∷ "(not 0)" ∷ "(not 1)" ∷ []) ("(lines 2)" ∷ "(not 0)" ∷ []) (says Greater)
    -- a malformed second text; both malformed
    ∷ compares ("(lines 2)" ∷ []) ("(lines 2)" ∷ "(not 0)" ∷ "(not 00)" ∷ []) (away 3 3 2)
    ∷ compares ("(lines 2)" ∷ "(not 00)" ∷ []) ("(lines 33)" ∷ []) (away 3 2 1)
    ∷ []
