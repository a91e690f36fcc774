-- What the covered part of a job, which sees only the length of the lent gate list, hands over to the thin function above it. Assumes nothing.
use Rattle.std.specs.Prelude.{◌≡◌, Bool, true, false, cond, List, [], ◌∷◌, ◌++◌, ℕ, length, take, drop, replicate, ltb}
use Rattle.gates.specs.declared.Gate.{Gate}
use Rattle.gates.specs.declared.Gate.TheVariants.{Not}
use Rattle.gates.specs.Reduced.{Reduced}
use Rattle.gates.specs.Code.{gates}
use Rattle.records.specs.declared.Done.{Done}
use Rattle.records.specs.declared.DoneTwo.{DoneTwo}
use Rattle.records.specs.declared.TextOutcome.{TextOutcome}
use Rattle.records.specs.declared.Outcome.{Outcome}
use Rattle.records.specs.Records.{filled_by}
use Rattle.text.specs.declared.Refusal.TheVariants.{ShortAnswer}
use Rattle.text.specs.declared.Head.{Head}
use Rattle.text.specs.Text.{circuit_text}
use Rattle.text.specs.Judging.{Judged, turned_away, accepted}
use Rattle.loading.specs.Loaded.{Renderable}
use Rattle.loading.specs.declared.Loaded.{Loaded}
use Rattle.std.specs.declared.result.Result.{Result}
use Rattle.std.specs.declared.result.Result.TheVariants.{Ok, Err}
use Rattle.text.specs.declared.Refused.{Refused}
use Rattle.habits.specs.Habits as habits
use Rattle.outcomes.specs.Outcomes.{Settles, refused, succeeded}
use Rattle.jobs.specs.Jobs.{Job, Output, as_text, as_count, Exit, Says}

-- the exit with this outcome, this list and this area
abbrev pub exit_of : Outcome → List Gate → List ℕ → Exit
exit_of o l a = record { number = o.number; line = o.line; gates = o.gates; bytes = o.bytes; list = l; area = a }

-- what a job says of its text, list and area at entry, its outcome, and its list and area at exit
abbrev pub Said : Job → List ℕ → List Gate → List ℕ → Outcome → List Gate → List ℕ → Type 0
Said j s l a o l' a' = Says j (record { text = s; list = l; area = a }) (exit_of o l' a')

-- what the covered part promises, where it is to say `Says` of the gate list: it is given only the length of the list, and says it of every list of
-- that length; a' is the area at exit
pub record HandsOne (Says : List Gate → Exit → Type 0) (room : ℕ) (d : Done Outcome) (a' : List ℕ) : Type 0 where
  pub settles : Settles d.outcome.number room d.filling
  pub tells : (l : List Gate) → length l ≡ room → Says l (exit_of d.outcome (filled_by d.filling l) a')

-- so that of map and of reduce
abbrev pub Hands : Job → List ℕ → ℕ → List ℕ → Done Outcome → List ℕ → Type 0
Hands j s room a d a' = HandsOne (λ l x. Says j (record { text = s; list = l; area = a }) x) room d a'

-- the same of a job over several texts and one gate list: its exit with this outcome, this list and this area
abbrev pub exit_of_text : TextOutcome → List Gate → List ℕ → habits.Exit
exit_of_text o l a = record { number = o.number; line = o.line; text = o.text; count = o.count; lent = record { lists = l ∷ []; area = a } }

-- and what its covered part promises
pub record HandsText (Says : List Gate → habits.Exit → Type 0) (room : ℕ) (d : Done TextOutcome) (a' : List ℕ) : Type 0 where
  pub settles : Settles d.outcome.number room d.filling
  pub tells : (l : List Gate) → length l ≡ room → Says l (exit_of_text d.outcome (filled_by d.filling l) a')

-- the same of a job over several texts and two gate lists, without an answer area: its exit with this outcome and these lists
abbrev pub exit_of_two : TextOutcome → List Gate → List Gate → habits.Exit
exit_of_two o l k = record { number = o.number; line = o.line; text = o.text; count = o.count; lent = record { lists = l ∷ k ∷ []; area = [] } }

-- and what its covered part promises, where it is to say `Says` of the two lists
pub record HandsTwo (Says : List Gate → List Gate → habits.Exit → Type 0) (room room' : ℕ) (d : DoneTwo) : Type 0 where
  pub first : Settles d.outcome.number room d.first
  pub second : Settles d.outcome.number room' d.second
  pub tells : (l k : List Gate) → length l ≡ room → length k ≡ room' → Says l k (exit_of_two d.outcome (filled_by d.first l) (filled_by d.second k))

-- what a job says where it works on a list of 4,096 records of the function's own
abbrev pub Own : Job → List ℕ → List ℕ → Outcome → List ℕ → Type 0
Own j s a o a' = (l : List Gate) × Said j s (replicate 4096 (Not 0)) a o l a'

-- ---- a text that was loaded, and its circuit reduced

-- an accepted text with the head h: its circuit, read or expanded, whose reduced list is the gates of the first m codes
pub record AcceptsReduced (j : Judged) (codes : List ℕ) (h : Head) (m : ℕ) : Type 0 where
  pub circuit : List Gate
  pub judged : j ≡ accepted h circuit
  pub reduced : Reduced h.lines circuit (gates (take m codes))
  pub renderable : Renderable h m codes

-- of a text that is judged j, the reduced list or the refusal
abbrev pub LoadsReduced : Judged → List ℕ → Result Loaded Refused → Type 0
LoadsReduced j codes (Ok x) = AcceptsReduced j codes x.head x.gates
LoadsReduced j codes (Err e) = j ≡ turned_away e.refusal e.line

-- ---- what is handed over

-- the first m codes as a text
abbrev pub text_of : Head → ℕ → List ℕ → List ℕ
text_of h m codes = circuit_text h.lines (gates (take m codes))

-- that text, where the answer area has room for it
unfoldable pub written_done : Head → ℕ → ℕ → List ℕ → List ℕ → Done Outcome
written_done h m room codes a = cond (ltb (length a) (length (text_of h m codes))) (refused ShortAnswer 0 room codes) (succeeded m (length (text_of h m codes)) room codes)

unfoldable pub written_area : Head → ℕ → List ℕ → List ℕ → List ℕ
written_area h m codes a = cond (ltb (length a) (length (text_of h m codes))) a (text_of h m codes ++ drop (length (text_of h m codes)) a)

-- ---- by the reduced list, as this is to be put out, or the refusal

-- whether the count of its gates is put out alone
abbrev pub quotes : Output → Bool
quotes as_text = false
quotes as_count = true

abbrev pub put_done : Output → Head → ℕ → ℕ → List ℕ → List ℕ → Done Outcome
put_done as_text h m room codes a = written_done h m room codes a
put_done as_count h m room codes a = succeeded m 0 room codes

abbrev pub put_area : Output → Head → ℕ → List ℕ → List ℕ → List ℕ
put_area as_text h m codes a = written_area h m codes a
put_area as_count h m codes a = a

abbrev pub loaded_done : Output → Result Loaded Refused → ℕ → List ℕ → List ℕ → Done Outcome
loaded_done o (Ok x) room codes a = put_done o x.head x.gates room codes a
loaded_done o (Err e) room codes a = refused e.refusal e.line room codes

abbrev pub loaded_area : Output → Result Loaded Refused → List ℕ → List ℕ → List ℕ
loaded_area o (Ok x) codes a = put_area o x.head x.gates codes a
loaded_area o (Err e) codes a = a

-- the reduced list of an accepted text can be written
abbrev pub Answerable : Result Loaded Refused → List ℕ → Type 0
Answerable (Ok x) codes = Renderable x.head x.gates codes
Answerable (Err e) codes = Unit {0}
