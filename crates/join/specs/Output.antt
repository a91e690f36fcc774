-- What the program join writes, for every two texts (document 02, order 7). Assumes nothing.
use Rattle.std.specs.Prelude.{ℕ, ◌≡◌, List}
use Rattle.gates.specs.declared.Gate.{Gate}
use Rattle.gates.specs.Reduced.{Reduced}
use Rattle.text.specs.Refusals.{number_of}
use Rattle.text.specs.Text.{circuit_text}
use Rattle.forms.specs.Forms.{text_turned_away}
use Rattle.habits.specs.Habits.{Judgement, fine, away, Circuit}
use Rattle.joins.specs.Join.{judged}

-- by what the texts were judged to be: `(turned-away r l t)`, or the circuit text of the reduced list of their join
unfoldable pub PrintsBy : Judgement Circuit → List ℕ → Type 0
PrintsBy (away r t l) w = w ≡ text_turned_away (number_of r) l t
PrintsBy (fine c) w = (r : List Gate) × Reduced c.lines c.gates r × (w ≡ circuit_text c.lines r)

-- w is what the program writes for the first text s and the second text t: it has room for 4,096 gates, and an area that holds every answer
unfoldable pub Prints : List ℕ → List ℕ → List ℕ → Type 0
Prints s t w = PrintsBy (judged s 4096 t) w
