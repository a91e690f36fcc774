-- What the program compare writes, for every two texts (document 02, order 1). Assumes nothing.
use Rattle.std.specs.Prelude.{ℕ, ◌≡◌, List}
use Rattle.text.specs.Refusals.{number_of}
use Rattle.text.specs.Text.{bytes}
use Rattle.std.specs.declared.cmp.Ordering.{Ordering}
use Rattle.std.specs.declared.cmp.Ordering.TheVariants.{Less, Equal, Greater}
use Rattle.ordering.specs.Comparing.{Compares}
use Rattle.forms.specs.Forms.{text_turned_away}
use Rattle.habits.specs.Habits.{Judgement, fine, away, Circuit}
use Rattle.comparison.specs.Compare.{judged}

-- on success: "less, equal or greater"
abbrev pub shown : Ordering → List ℕ
shown Less = bytes "(less)\n"
shown Equal = bytes "(equal)\n"
shown Greater = bytes "(greater)\n"

-- by what the texts were judged to be: `(turned-away r l t)`, or how the first circuit stands to the second
unfoldable pub PrintsBy : Judgement (Circuit × Circuit) → List ℕ → Type 0
PrintsBy (away r t l) w = w ≡ text_turned_away (number_of r) l t
PrintsBy (fine (c, d)) w = (k : Ordering) × Compares c.lines c.gates d.lines d.gates k × (w ≡ shown k)

-- w is what the program writes for the first text s and the second text t: it has room for 4,096 gates of each
unfoldable pub Prints : List ℕ → List ℕ → List ℕ → Type 0
Prints s t w = PrintsBy (judged s 4096 t 4096) w
