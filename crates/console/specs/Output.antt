-- What the programs write, for every text (document 01, "What the product holds"; document 02, order 2, "Both desk programs move to it").
-- Assumes nothing.
use Rattle.std.specs.Prelude.{ℕ, ◌+◌, ◌*◌, ◌≡◌, List, [], ◌++◌, length, drop}
use Rattle.gates.specs.declared.Gate.{Gate}
use Rattle.gates.specs.Reduced.{Reduced}
use Rattle.records.specs.declared.Outcome.{Outcome}
use Rattle.text.specs.Refusals.{number_of}
use Rattle.text.specs.Text.{circuit_text}
use Rattle.text.specs.Judging.{Judged, turned_away, accepted}
use Rattle.writing.specs.Decimal as form
use Rattle.jobs.specs.Jobs.{Job, mapping, reducing, takes, Output, as_text, as_count, judged_text}
use Rattle.jobs.specs.Handing.{Own}
use Rattle.console.specs.declared.Program.{Program}
use Rattle.console.specs.declared.Program.TheVariants.{Map, Reduce, Quote}

-- ---- the programs over one text

-- the job that a program stands over
abbrev pub job_of : Program → Job
job_of Map = mapping
job_of Reduce = reducing
job_of Quote = mapping

-- what it writes on success
abbrev pub output_of : Program → Output
output_of Map = as_text
output_of Reduce = as_text
output_of Quote = as_count

-- ---- what a program writes for a text

-- on success, by the reduced list r of a circuit on n lines: its circuit text, or `(quote c)` with the number of its gates
abbrev pub shown : Output → ℕ → List Gate → List ℕ
shown as_text n r = circuit_text n r
shown as_count n r = form.quote (length r)

-- by what the text was judged to be: `(turned-away r l)`, or the success by the reduced list of its circuit
unfoldable pub PrintsBy : Output → Judged → List ℕ → Type 0
PrintsBy o (turned_away r l) w = w ≡ form.turned_away (number_of r) l
PrintsBy o (accepted h c) w = (r : List Gate) × Reduced h.lines c r × (w ≡ shown o h.lines r)

-- w is what the program p writes for the text s: a gate list of 4,096 records is its own, and an area that holds every answer
unfoldable pub Prints : Program → List ℕ → List ℕ → Type 0
Prints p s w = PrintsBy (output_of p) (judged_text (takes (job_of p)) s 4096) w

-- ---- the function that leaves these bytes in an area

-- the length of its area: 11 bytes for line 1 and for each of 4,096 gates
abbrev pub answer_bytes : ℕ
answer_bytes = 11 + 11 * 4096

-- b is the area a with the n bytes w at its front
pub record Fronts (a : List ℕ) (n : ℕ) (b w : List ℕ) : Type 0 where
  pub number : n ≡ length w
  pub bytes : b ≡ w ++ drop n a

-- its contract, where the program may write what `Writes` says: b is the area a with n bytes at its front, which are such
pub record Answers (Writes : List ℕ → Type 0) (a : List ℕ) (n : ℕ) (b : List ℕ) : Type 0 where
  pub written : List ℕ
  pub prints : Writes written
  pub fronts : Fronts a n b written

-- ---- its two steps

-- the job is done: quote lends it no area
abbrev pub Does : Program → List ℕ → List ℕ → Outcome → List ℕ → Type 0
Does Map s a o b = Own mapping s a o b
Does Reduce s a o b = Own reducing s a o b
Does Quote s a o b = Own mapping s [] o [] × (b ≡ a)

-- its counts are put out: the bytes as those that stand there already, or the gates as a form
abbrev pub Succeeds : Output → (gates bytes : ℕ) → List ℕ → ℕ → List ℕ → Type 0
Succeeds as_text gates bytes a n b = (n ≡ bytes) × (b ≡ a)
Succeeds as_count gates bytes a n b = Fronts a n b (form.quote gates)
