-- What document 02's order 2, "Quote and list in one call", asks of map beside the demands. Assumes nothing.
use Rattle.std.specs.Prelude.{◌+◌, ◌≡◌, ◌≢◌, List, length, take}
use Rattle.gates.specs.declared.Gate.{Gate}
use Rattle.text.specs.declared.Head.{Head}
use Rattle.text.specs.Reading.{cut}
use Rattle.jobs.specs.Jobs.{Job, mapping, as_text, wanted, Entry, Exit}
use Rattle.demands.specs.Demands.{Yields}

-- the exit of a quote by the list r: its gates are counted and stand in the first records, no byte is written
pub record Quotes (x : Exit) (r : List Gate) : Type 0 where
  pub number : x.number ≡ 0
  pub line : x.line ≡ 0
  pub gates : x.gates ≡ length r
  pub bytes : x.bytes ≡ 0
  pub list : take x.gates x.list ≡ r

-- map said x where e has an answer area of length 0: "quote only .. is never short"
pub record QuoteOnly (e : Entry) (x : Exit) : Type 0 where
  -- a quote exactly if rules 1 to 9 let the text pass, by the reduced list of its expansion
  pub quoted : (h : Head) (r : List Gate) → Yields mapping e h r → Quotes x r
  pub passed : x.number ≡ 0 → (h : Head) × (r : List Gate) × Yields mapping e h r
  pub never_short : x.number ≢ 10
  pub untouched : x.area ≡ e.area

-- two runs of a job on one text, with any gate lists and answer areas, neither of which is refused: the gates are the same
unfoldable pub SameGates : (e f : Entry) (x y : Exit) → Type 0
SameGates e f x y = e.text ≡ f.text → x.number ≡ 0 → y.number ≡ 0 → x.gates ≡ y.gates

-- where a text is written it has line 1, and a line for each gate
unfoldable pub LineForEach : Job → Entry → Exit → Type 0
LineForEach j e x = wanted j e ≡ as_text → x.number ≡ 0 → length (cut (take x.bytes x.area)) ≡ x.gates + 1
