-- What map and reduce say: number, line, gates, bytes, and each record and byte lent to them, for all inputs (document 01, "Lent memory and
-- the ten numbers"; document 02, order 2, "Quote and list in one call"), by the habits that every job keeps (crate habits). Assumes nothing.
use Rattle.std.specs.Prelude.{ℕ, zero, suc, ◌≡◌, cond, List, [], ◌∷◌, ◌++◌, length, drop, ltb}
use Rattle.gates.specs.declared.Gate.{Gate}
use Rattle.gates.specs.Reduced.{Reduced}
use Rattle.text.specs.declared.Refusal.{Refusal}
use Rattle.text.specs.declared.Refusal.TheVariants.{ShortAnswer}
use Rattle.text.specs.declared.Head.{Head}
use Rattle.text.specs.Refusals.{number_of}
use Rattle.text.specs.Text.{circuit_text}
use Rattle.text.specs.declared.Kind.{Kind}
use Rattle.text.specs.declared.Kind.TheVariants.{Cascade, Circuit}
use Rattle.text.specs.Judging.{Judged, turned_away, accepted, first, or_else, judge}
use Rattle.habits.specs.Habits.{left, filled, size_rules}

-- map a cascade text to a circuit text, or quote its gate count alone; reduce a circuit text
pub data Job : Type 0 where
  mapping reducing : Job

-- the kind of text that a job takes
unfoldable pub takes : Job → Kind
takes mapping = Cascade
takes reducing = Circuit

-- what a job puts out for a text that it accepts: a circuit text with its counts, or the count of its gates alone
pub data Output : Type 0 where
  as_text as_count : Output

-- by the length of the answer area: for map, "an answer area of length 0 means quote only"
abbrev pub output : Job → (area : ℕ) → Output
output mapping zero = as_count
output mapping (suc n) = as_text
output reducing n = as_text

-- the job over a text of this kind
abbrev pub writes : Kind → Job
writes Cascade = mapping
writes Circuit = reducing

-- what a job is given: the text, the lent gate list, the lent answer area
pub record Entry : Type 0 where
  pub text : List ℕ
  pub list : List Gate
  pub area : List ℕ

-- what a job puts out for this entry
abbrev pub wanted : Job → Entry → Output
wanted j e = output j (length e.area)

-- what comes back: number and line, the gates of the list and the bytes of the text written, and what then stands in the gate list and the
-- answer area
pub record Exit : Type 0 where
  pub number : ℕ
  pub line : ℕ
  pub gates : ℕ
  pub bytes : ℕ
  pub list : List Gate
  pub area : List ℕ

-- ---- a refusal

-- "A refusal returns its number, its line and count 0. It leaves the answer area unchanged"; `left` says what it leaves of the gate list
unfoldable pub refusal : Refusal → ℕ → Entry → Exit
refusal r l e = record { number = number_of r; line = l; gates = 0; bytes = 0; list = left r e.list; area = e.area }

-- ---- rules 1 to 9: "Rule 1 comes first, then 2, both with line 0. Then the lines in order"

-- the text s, with which a gate list of this many records is judged
unfoldable pub judged_text : Kind → List ℕ → ℕ → Judged
judged_text k s records = or_else (first (size_rules (length s) (records ∷ []))) 0 (judge k s)

unfoldable pub judged : Kind → Entry → Judged
judged k e = judged_text k e.text (length e.list)

-- ---- success: number 0, line 0 and the counts; "Then 10, line 0"

-- "the gate list holds first the reduced list of the circuit read or expanded, and `not 0` in every later record": here r, with its number of
-- gates, this many bytes written and this area
abbrev pub success : Entry → List Gate → ℕ → List ℕ → Exit
success e r n a = record { number = 0; line = 0; gates = length r; bytes = n; list = filled r e.list; area = a }

-- "The answer area holds that list as a circuit text, with the n of the text read, at its front, its other bytes unchanged": s is the text of
-- the list r
unfoldable pub written : Entry → List Gate → List ℕ → Exit
written e r s =
    cond (ltb (length e.area) (length s)) (refusal ShortAnswer 0 e) (success e r (length s) (s ++ drop (length s) e.area))

-- the answer by the reduced list r: "quote only .. is never short", and no byte is written
abbrev pub put_out : Output → Entry → Head → List Gate → Exit
put_out as_text e h r = written e r (circuit_text h.lines r)
put_out as_count e h r = success e r 0 e.area

unfoldable pub answered : Job → Entry → Head → List Gate → Exit
answered j e h r = put_out (wanted j e) e h r

-- ---- what a job says

-- by what its text was judged to be: the refusal, or the answer by the reduced list of its circuit
unfoldable pub Settled : Job → Entry → Judged → Exit → Type 0
Settled j e (turned_away r l) x = x ≡ refusal r l e
Settled j e (accepted h c) x = (r : List Gate) × Reduced h.lines c r × (x ≡ answered j e h r)

-- the contract of a job
unfoldable pub Says : Job → Entry → Exit → Type 0
Says j e x = Settled j e (judged (takes j) e) x
