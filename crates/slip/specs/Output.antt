-- What the program slip writes, for every three texts (document 02, order 9). Assumes nothing.
use Rattle.std.specs.Prelude.{ℕ, ◌≡◌, List}
use Rattle.gates.specs.declared.Gate.{Gate}
use Rattle.text.specs.Refusals.{number_of}
use Rattle.text.specs.Text.{bytes}
use Rattle.forms.specs.Forms.{text_turned_away}
use Rattle.habits.specs.Habits.{Judgement, fine, away}
use Rattle.slips.specs.Slip.{judged}

-- by what the texts were judged to be: `(turned-away r l t)`, or `(accepted)`
unfoldable pub printed_by : Judgement (List Gate × List Gate) → List ℕ
printed_by (away r t l) = text_turned_away (number_of r) l t
printed_by (fine p) = bytes "(accepted)\n"

-- w is what the program writes for the circuit text s, the slip t and the circuit text u: it has room for 4,096 gates of each circuit
unfoldable pub Prints : List ℕ → List ℕ → List ℕ → List ℕ → Type 0
Prints s t u w = w ≡ printed_by (judged s 4096 t u 4096)
