-- Examples of slip, as one table. Assumes nothing.
use Rattle.std.specs.Prelude.{ℕ, ◌≤◌, ◌≡◌, List, [], ◌∷◌, length}
use Prim.Native.String.{String}
use Rattle.gates.specs.declared.Gate.{Gate}
use Rattle.habits.specs.Habits.{Exit}
use Rattle.demands.specs.Examples.{typed}
use Rattle.slips.specs.Slip.{Slip}

-- accepted; or a refusal, its line and its text number
pub data Answer : Type 0 where
  accepted : Answer
  away : (number line text : ℕ) → Answer

-- a circuit, a slip and a second circuit as they are typed, and the answer
pub record Row : Type 0 where
  pub circuit : List String
  pub slip : List String
  pub second : List String
  pub answer : Answer

unfoldable pub Shows : Answer → Exit → Type 0
Shows accepted x = (x.number ≡ 0) × (x.count ≡ 0)
Shows (away n i v) x = (x.number ≡ n) × (x.line ≡ i) × (x.text ≡ v)

-- whatever gate lists of at least 4,096 records are lent
abbrev pub Correct : Row → Type 0
Correct r = (l m : List Gate) (x : Exit) → 4096 ≤ length l → 4096 ≤ length m → Slip (typed r.circuit) l (typed r.slip) (typed r.second) m x → Shows r.answer x

abbrev pub row : List String → List String → List String → Answer → Row
row c s d a = record { circuit = c; slip = s; second = d; answer = a }

abbrev pub table : List Row
table =
    -- two gates meet after a pass, and vanish
    row ("(lines 3)" ∷ "(cn 0 2)" ∷ "(cn 1 2)" ∷ "(cn 0 2)" ∷ []) ("(pass 2)" ∷ "(merge 1)" ∷ []) ("(lines 3)" ∷ "(cn 1 2)" ∷ []) accepted
    -- two become one gate; two NOTs on one line vanish
    ∷ row ("(lines 2)" ∷ "(v 0 1)" ∷ "(v 0 1)" ∷ "(not 0)" ∷ "(not 0)" ∷ []) ("(merge 3)" ∷ "(merge 1)" ∷ []) ("(lines 2)" ∷ "(cn 0 1)" ∷ []) accepted
    -- an empty slip; it ends at another circuit, also if that is linked
    ∷ row ("(lines 2)" ∷ "(not 0)" ∷ "(not 1)" ∷ []) [] ("(lines 2)" ∷ "(not 0)" ∷ "(not 1)" ∷ []) accepted
    ∷ row ("(lines 2)" ∷ "(not 0)" ∷ "(not 1)" ∷ []) [] ("(lines 2)" ∷ "(not 1)" ∷ "(not 0)" ∷ []) (away 13 0 0)
    -- the target of one is the control of the other, either way round
    ∷ row ("(lines 3)" ∷ "(cn 0 1)" ∷ "(cn 1 2)" ∷ []) ("(pass 1)" ∷ []) ("(lines 3)" ∷ "(cn 1 2)" ∷ "(cn 0 1)" ∷ []) (away 12 1 2)
    ∷ row ("(lines 3)" ∷ "(cn 1 2)" ∷ "(cn 0 1)" ∷ []) ("(pass 1)" ∷ []) ("(lines 3)" ∷ "(cn 0 1)" ∷ "(cn 1 2)" ∷ []) (away 12 1 2)
    -- other controls, another target; a NOT and a gate with a control
    ∷ row ("(lines 3)" ∷ "(v 0 2)" ∷ "(v 1 2)" ∷ []) ("(merge 1)" ∷ []) ("(lines 3)" ∷ "(cn 0 2)" ∷ []) (away 12 1 2)
    ∷ row ("(lines 3)" ∷ "(v 0 1)" ∷ "(v 0 2)" ∷ []) ("(merge 1)" ∷ []) ("(lines 3)" ∷ "(cn 0 1)" ∷ []) (away 12 1 2)
    ∷ row ("(lines 3)" ∷ "(not 2)" ∷ "(cn 0 2)" ∷ []) ("(merge 1)" ∷ []) ("(lines 3)" ∷ []) (away 12 1 2)
    -- place 0, and a place without a right neighbour: the step before it is allowed
    ∷ row ("(lines 2)" ∷ "(not 0)" ∷ "(not 1)" ∷ []) ("(pass 1)" ∷ "(pass 0)" ∷ []) ("(lines 2)" ∷ "(not 1)" ∷ "(not 0)" ∷ []) (away 12 2 2)
    ∷ row ("(lines 2)" ∷ "(not 0)" ∷ "(not 1)" ∷ []) ("(pass 1)" ∷ "(pass 2)" ∷ []) ("(lines 2)" ∷ "(not 1)" ∷ "(not 0)" ∷ []) (away 12 2 2)
    -- the last step is tried, although the circuit before it is the second
    ∷ row ("(lines 2)" ∷ "(not 0)" ∷ "(not 1)" ∷ []) ("(merge 9999)" ∷ []) ("(lines 2)" ∷ "(not 0)" ∷ "(not 1)" ∷ []) (away 12 1 2)
    -- different line counts come before any step, and after every line of the three texts
    ∷ row ("(lines 2)" ∷ "(not 0)" ∷ []) ("(pass 0)" ∷ []) ("(lines 3)" ∷ "(not 0)" ∷ []) (away 11 0 0)
    ∷ row ("(lines 2)" ∷ "(not 0)" ∷ []) ("(pass 01)" ∷ []) ("(lines 3)" ∷ "(not 00)" ∷ []) (away 3 1 2)
    ∷ row ("(lines 2)" ∷ "(not 0)" ∷ []) ("(pass 1)" ∷ []) ("(lines 3)" ∷ "(not 00)" ∷ []) (away 3 2 3)
    ∷ row ("(lines 2)" ∷ "(not 2)" ∷ []) ("(pass 10000)" ∷ []) ("(lines 3)" ∷ []) (away 4 2 1)
    -- a slip has no line 1 of its own
    ∷ row ("(lines 2)" ∷ []) ("(lines 2)" ∷ []) ("(lines 2)" ∷ []) (away 3 1 2)
    ∷ []
