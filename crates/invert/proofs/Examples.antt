-- Examples of document 02's order 7, as the bytes that the program writes. Assumes nothing.
use mathlib.Core.Path.{◌≡◌, refl, subst}
use mathlib.Core.List.{List, [], ◌∷◌}
use Prim.Native.String.{String}
use native.Mathlib.Decide.{ℕ_discrete, dec_lt}
use Rattle.gates.specs.Every.{Every}
use Rattle.gates.specs.Circuit as C
use Rattle.gates.specs.Circuit.{slot, power, powered}
use Rattle.gates.specs.Inverse.{inverse, inverted}
use Rattle.gates.proofs.Pushing.{merged, passes_dec, same_dec, less_dec, free_dec, turn_of, turn, place, push}
use Rattle.gates.proofs.Theorem.{nf}
use Rattle.meaning.specs.Pattern.{number, has}
use Rattle.text.specs.Heads.{head_of, line_below}
use Rattle.text.specs.declared.Kind.TheVariants.{Circuit}
use Rattle.text.specs.Text.{bytes, digits, spaced, one, two, word, render, rendered, circuit_text}
use Rattle.text.specs.Reading as R
use Rattle.text.specs.Reading.{strip, second, num, tail, pair, list, many, lines_body, not_body, mct_body, powered_body, parse, whole, read, longer, cut}
use Rattle.text.specs.Judging as J
use Rattle.text.specs.Judging.{belongs, most, any_from, rising, first, head_rules, rules, or_else, judge_lines, keep_rules, rest, judge_rest, judge_text, read_all, judge}
use Rattle.writing.specs.Decimal.{last_digits, decimal, two_numbers}
use Rattle.habits.specs.Habits.{size_rules}
use Rattle.jobs.specs.Jobs.{judged_text}
use Rattle.demands.specs.Examples.{typed}
use Rattle.inversion.specs.Invert.{inverse_judged}
use Rattle.invert.specs.Output.{Prints}
use Rattle.invert.proofs.Prints.{printed_by, prints_printed}

-- a text as it is typed, and what the program writes
abbrev pub Row : Type 0
Row = List String × String

abbrev pub table : List Row
table =
    (("(lines 2)" ∷ "(v 0 1)" ∷ []), "(lines 2)\n(vp 0 1)\n")
    -- the list that map gives for `(mct (0 1) 2)`
    ∷ (("(lines 3)" ∷ "(v 0 2)" ∷ "(v 1 2)" ∷ "(cn 0 1)" ∷ "(vp 1 2)" ∷ "(cn 0 1)" ∷ []), "(lines 3)\n(cn 0 1)\n(vp 0 2)\n(v 1 2)\n(cn 0 1)\n(vp 1 2)\n")
    ∷ (("(lines 2)" ∷ "(not 0)" ∷ "(not 2)" ∷ []), "(turned-away 4 3)\n")
    ∷ []

-- what is computed for a row's text is what it says
abbrev Computed : Row → Type 0
Computed row = printed_by (inverse_judged (judged_text Circuit (typed row.0) 4096)) ≡ bytes row.1

-- what the program writes for it is what it says
abbrev pub Printed : Row → Type 0
Printed row = Prints (typed row.0) (bytes row.1)

-- each row by computing
computed : Every Computed table
unfolding printed_by inverse_judged judged_text size_rules inverse inverted typed has strip second num tail pair R.control R.controls list many lines_body not_body mct_body powered_body parse whole read longer cut J.controls J.target J.gates belongs most any_from rising first head_rules rules or_else judge_lines head_of line_below number keep_rules rest judge_rest judge_text read_all judge C.target slot power powered same_dec less_dec passes_dec merged free_dec turn_of turn place push nf ℕ_discrete dec_lt two_numbers decimal last_digits digits spaced one two word render rendered circuit_text
computed = (refl, (refl, (refl, tt)))

-- what is computed is what the program writes
all_printed : (rows : List Row) → Every Computed rows → Every Printed rows
all_printed [] e = tt
all_printed (row ∷ rows) (e, f) = (subst (Prints (typed row.0)) e (prints_printed (typed row.0)), all_printed rows f)

-- so the program writes each row, byte for byte
pub printed_examples : Every Printed table
printed_examples = all_printed table computed
