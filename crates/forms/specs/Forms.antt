-- The refusal of a job over several texts, as the programs write it: `(turned-away r l t)`. Assumes nothing.
use Rattle.std.specs.Prelude.{List, ◌++◌, ℕ}
use Rattle.text.specs.Text.{bytes}
use Rattle.writing.specs.Decimal.{decimal}

-- a form of three numbers, with the bytes that open it, ended by byte 10
unfoldable pub three_numbers : List ℕ → ℕ → ℕ → ℕ → List ℕ
three_numbers w k m n = w ++ ((decimal k ++ bytes " ") ++ ((decimal m ++ bytes " ") ++ (decimal n ++ bytes ")\n")))

-- refusal number r, line l and text number t
abbrev pub text_turned_away : ℕ → ℕ → ℕ → List ℕ
text_turned_away r l t = three_numbers (bytes "(turned-away ") r l t
