-- Examples of document 02's order 7, as the bytes that the program writes. Assumes nothing.
use mathlib.Core.Path.{◌≡◌, refl, subst}
use mathlib.Core.List.{List, [], ◌∷◌}
use Prim.Native.String.{String}
use native.Mathlib.Decide.{ℕ_discrete, dec_lt}
use Rattle.gates.specs.Every.{Every}
use Rattle.gates.specs.Circuit as C
use Rattle.gates.specs.Circuit.{slot, power, powered}
use Rattle.gates.proofs.Pushing.{merged, passes_dec, same_dec, less_dec, free_dec, turn_of, turn, place, push}
use Rattle.gates.proofs.Theorem.{nf}
use Rattle.meaning.specs.Pattern.{number, has}
use Rattle.text.specs.Heads.{head_of, line_below}
use Rattle.text.specs.Text.{bytes, digits, spaced, one, two, word, render, rendered, circuit_text}
use Rattle.text.specs.Reading as R
use Rattle.text.specs.Reading.{strip, second, num, tail, pair, list, many, lines_body, not_body, mct_body, powered_body, parse, whole, read, longer, cut}
use Rattle.text.specs.Judging as J
use Rattle.text.specs.Judging.{belongs, most, any_from, rising, first, head_rules, rules, or_else, judge_lines, keep_rules, rest, judge_rest, judge_text, read_all, judge}
use Rattle.writing.specs.Decimal.{last_digits, decimal}
use Rattle.forms.specs.Forms.{three_numbers}
use Rattle.habits.specs.Habits.{passes, require, size_rules, taken, told, text_judged}
use Rattle.demands.specs.Examples.{typed}
use Rattle.joins.specs.Join.{plain_join, judged}
use Rattle.join.specs.Output.{Prints}
use Rattle.join.proofs.Prints.{printed_by, prints_printed}

-- two texts as they are typed, and what the program writes
abbrev pub Row : Type 0
Row = List String × List String × String

-- the examples
abbrev pub table : List Row
table =
    (("(lines 2)" ∷ "(v 0 1)" ∷ []), ("(lines 2)" ∷ "(v 0 1)" ∷ []), "(lines 2)\n(cn 0 1)\n")
    -- the first before the second
    ∷ (("(lines 3)" ∷ "(cn 0 1)" ∷ []), ("(lines 3)" ∷ "(cn 1 2)" ∷ []), "(lines 3)\n(cn 0 1)\n(cn 1 2)\n")
    -- a circuit and its inverse
    ∷ (("(lines 3)" ∷ "(v 0 1)" ∷ "(cn 1 2)" ∷ []), ("(lines 3)" ∷ "(cn 1 2)" ∷ "(vp 0 1)" ∷ []), "(lines 3)\n")
    -- different line counts; a malformed second text is told before them
    ∷ (("(lines 2)" ∷ []), ("(lines 3)" ∷ []), "(turned-away 11 0 0)\n")
    ∷ (("(lines 2)" ∷ []), ("(lines 3)" ∷ "(not 00)" ∷ []), "(turned-away 3 2 2)\n")
    ∷ []

-- what is computed for a row's texts is what it says
abbrev Computed : Row → Type 0
Computed row = printed_by (judged (typed row.0) 4096 (typed row.1)) ≡ bytes row.2

-- what the program writes for them is what it says
abbrev pub Printed : Row → Type 0
Printed row = Prints (typed row.0) (typed row.1) (bytes row.2)

-- each row by computing
computed : Every Computed table
unfolding printed_by judged plain_join require text_judged taken passes told size_rules typed has strip second num tail pair R.control R.controls list many lines_body not_body mct_body powered_body parse whole read longer cut J.controls J.target J.gates belongs most any_from rising first head_rules rules or_else judge_lines head_of line_below number keep_rules rest judge_rest judge_text read_all judge C.target slot power powered same_dec less_dec passes_dec merged free_dec turn_of turn place push nf ℕ_discrete dec_lt three_numbers decimal last_digits digits spaced one two word render rendered circuit_text
computed = (refl, (refl, (refl, (refl, (refl, tt)))))

-- what is computed is what the program writes
all_printed : (rows : List Row) → Every Computed rows → Every Printed rows
all_printed [] e = tt
all_printed (row ∷ rows) (e, f) = (subst (Prints (typed row.0) (typed row.1)) e (prints_printed (typed row.0) (typed row.1)), all_printed rows f)

-- so the program writes each row, byte for byte
pub printed_examples : Every Printed table
printed_examples = all_printed table computed
