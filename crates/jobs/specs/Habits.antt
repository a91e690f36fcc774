-- What map and reduce say by the habits of jobs over several texts (crate habits): of one text, one gate list and one area. Assumes nothing.
use Rattle.std.specs.Prelude.{ℕ, ◌≡◌, List, [], ◌∷◌, length}
use Rattle.gates.specs.declared.Gate.{Gate}
use Rattle.gates.specs.Reduced.{Reduced}
use Rattle.text.specs.Text.{circuit_text}
use Rattle.habits.specs.Habits.{Circuit, text_judged, Lent, Answer, Says}
use Rattle.habits.specs.Habits as habits
use Rattle.jobs.specs.Jobs.{Job, takes, Output, as_text, as_count, wanted, Entry, Exit}

-- the answer by the reduced list r of a circuit on n lines: the habits' count is the number of bytes written
abbrev pub answer : Output → ℕ → List Gate → Answer
answer as_text n r = let s = circuit_text n r in record { count = length s; circuits = r ∷ []; text = s }
answer as_count n r = record { count = 0; circuits = r ∷ []; text = [] }

-- this answer is right for the circuit c
abbrev pub Right : Output → Circuit → Answer → Type 0
Right o c w = (r : List Gate) × Reduced c.lines c.gates r × (w ≡ answer o c.lines r)

-- the memory lent to a job
abbrev pub lent : Entry → Lent
lent e = record { lists = e.list ∷ []; area = e.area }

-- the contract of a job, by the habits
unfoldable pub Keeps : Job → Entry → habits.Exit → Type 0
Keeps j e x = Says (text_judged 1 (takes j) e.text (length e.list ∷ [])) (Right (wanted j e)) (lent e) x

-- the two exits agree, but for the text number of the one and the gates of the other
pub record Agrees (x : habits.Exit) (y : Exit) : Type 0 where
  pub number : x.number ≡ y.number
  pub line : x.line ≡ y.line
  pub bytes : x.count ≡ y.bytes
  pub list : x.lent.lists ≡ y.list ∷ []
  pub area : x.lent.area ≡ y.area
