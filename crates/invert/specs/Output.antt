-- What the program invert writes, for every text (document 02, order 7). Assumes nothing.
use Rattle.std.specs.Prelude.{ℕ, List}
use Rattle.text.specs.declared.Kind.TheVariants.{Circuit}
use Rattle.jobs.specs.Jobs.{as_text, judged_text}
use Rattle.inversion.specs.Invert.{inverse_judged}
use Rattle.console.specs.Output.{PrintsBy}

-- w is what the program writes for the text s: `(turned-away r l)`, or the circuit text of the reduced list of the inverse. It has room for 4,096
-- gates, and an area that holds every answer
unfoldable pub Prints : List ℕ → List ℕ → Type 0
Prints s w = PrintsBy as_text (inverse_judged (judged_text Circuit s 4096)) w
