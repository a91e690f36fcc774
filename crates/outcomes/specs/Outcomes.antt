-- What the covered part of a job, which sees only the length of each lent gate list, hands over to the thin function above it: what goes into the
-- list, and the outcome. Assumes nothing.
use Rattle.std.specs.Prelude.{◌≡◌, cond, List, ℕ, eqb, leb}
use Rattle.records.specs.declared.Done.{Done}
use Rattle.records.specs.declared.DoneTwo.{DoneTwo}
use Rattle.records.specs.declared.Filling.{Filling}
use Rattle.records.specs.declared.Outcome.{Outcome}
use Rattle.records.specs.declared.TextOutcome.{TextOutcome}
use Rattle.records.specs.Records.{Fits}
use Rattle.text.specs.declared.Refusal.{Refusal}
use Rattle.text.specs.Refusals.{number_of}

-- how many of so many records are written with this number: none with 1 and 2, else all
unfoldable pub limit_of : ℕ → ℕ → ℕ
limit_of number room = cond (eqb number 1) 0 (cond (eqb number 2) 0 room)

-- what is handed over for a list of so many records, with this number, can be written into it, and settles which records are written
pub record Settles (number room : ℕ) (f : Filling) : Type 0 where
  pub fits : Fits f room
  pub limit : f.limit ≡ limit_of number room

-- for a list of so many records, with a refusal: no gates; 1 and 2 write no record, the others write all
unfoldable pub refusal_filling : Refusal → ℕ → List ℕ → Filling
refusal_filling r room codes = record { codes = codes; gates = 0; limit = cond (leb (number_of r) 2) 0 room }

-- with success: the first m codes, and every later record
unfoldable pub success_filling : ℕ → ℕ → List ℕ → Filling
success_filling m room codes = record { codes = codes; gates = m; limit = room }

-- a refusal at line l
unfoldable pub refused : Refusal → ℕ → ℕ → List ℕ → Done Outcome
refused r l room codes = record { filling = refusal_filling r room codes; outcome = record { number = number_of r; line = l; gates = 0; bytes = 0 } }

-- success with the first m codes, and this many bytes written
unfoldable pub succeeded : ℕ → ℕ → ℕ → List ℕ → Done Outcome
succeeded m bytes room codes = record { filling = success_filling m room codes; outcome = record { number = 0; line = 0; gates = m; bytes = bytes } }

-- a refusal of a job over two gate lists, at line l of text t
unfoldable pub refused_two : Refusal → (text line : ℕ) → ℕ → ℕ → List ℕ → List ℕ → DoneTwo
refused_two r t l room room' codes codes' = record {
  first = refusal_filling r room codes;
  second = refusal_filling r room' codes';
  outcome = record { number = number_of r; line = l; text = t; count = 0 };
}

-- its success with the first m codes in the first list, the first n in the second, and this count
unfoldable pub succeeded_two : ℕ → ℕ → ℕ → ℕ → ℕ → List ℕ → List ℕ → DoneTwo
succeeded_two m n count room room' codes codes' = record {
  first = success_filling m room codes;
  second = success_filling n room' codes';
  outcome = record { number = 0; line = 0; text = 0; count = count };
}

-- what a job over one text hands over, as one over several texts does: with a text number, and the bytes for the count
unfoldable pub with_text : (text : ℕ) → Done Outcome → Done TextOutcome
with_text t d = record { filling = d.filling; outcome = record { number = d.outcome.number; line = d.outcome.line; text = t; count = d.outcome.bytes } }
