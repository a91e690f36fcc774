-- The examples of invert hold. Assumes nothing.
use mathlib.Core.Path.{◌≡◌, refl, subst, ap, ◌∙◌}
use mathlib.Core.Bool.{Bool, true, not, ◌&&◌}
use mathlib.Core.List.{List, [], ◌∷◌}
use native.Mathlib.Decide.{ℕ_discrete, dec_lt}
use lib.ListN.{length}
use lib.Dec.{ltb}
use borrow.Author.Tests.{ltb-false, not-true}
use Rattle.gates.specs.Every.{Every}
use Rattle.gates.specs.Circuit as C
use Rattle.gates.specs.Circuit.{slot, power, powered}
use Rattle.gates.specs.Inverse.{inverse, inverted}
use Rattle.gates.proofs.Pushing.{merged, passes_dec, same_dec, less_dec, free_dec, turn_of, turn, place, push}
use Rattle.gates.proofs.Theorem.{nf}
use Rattle.meaning.specs.Pattern.{number, has}
use Rattle.meaning.proofs.Flips.{both}
use Rattle.text.specs.Heads.{head_of, line_below}
use Rattle.text.specs.declared.Kind.TheVariants.{Circuit}
use Rattle.text.specs.Text.{digits, spaced, one, two, word, render, rendered, circuit_text}
use Rattle.text.specs.Reading as R
use Rattle.text.specs.Reading.{strip, second, num, tail, pair, list, many, lines_body, not_body, mct_body, powered_body, parse, whole, read, longer, cut}
use Rattle.text.specs.Judging as J
use Rattle.text.specs.Judging.{Judged, belongs, most, any_from, rising, first, head_rules, rules, or_else, judge_lines, keep_rules, rest, judge_rest, judge_text, read_all, judge}
use Rattle.jobs.specs.Jobs.{reducing, judged, Settled}
use Rattle.demands.specs.Examples.{typed}
use Rattle.demands.proofs.Table.{judged_is, answers, fits, fits_shown}
use Rattle.inversion.specs.Invert.{inverse_judged, Invert}
use Rattle.inversion.specs.Examples.{Row, inverts, Correct, table}
use Rattle.inversion.proofs.Inverted.{inverse_valid}

-- a row is tested by computing: its text is judged, its circuit inverted, and the normal form is compared
unfoldable test : Row → Bool
test (inverts ls a) = not (ltb 60000 (length (typed ls))) && fits reducing (inverse_judged (judge Circuit (typed ls))) a

unfoldable tests : List Row → Bool
tests [] = true
tests (r ∷ rs) = test r && tests rs

test_correct : (r : Row) → test r ≡ true → Correct r
unfolding test Correct Invert judged
test_correct (inverts ls a) t = λ e x q l m y.
    let u = both (not (ltb 60000 (length (typed ls)))) (fits reducing (inverse_judged (judge Circuit (typed ls))) a) t in
    let i = ap inverse_judged (judged_is Circuit e (typed ls) q (ltb-false 60000 (length (typed ls)) (not-true (ltb 60000 (length (typed ls))) u.0)) l) in
    fits_shown reducing e x (inverse_judged (judge Circuit (typed ls))) a (λ h c k. inverse_valid e.text (length e.list) (i ∙ k)) m (subst (λ (d : Judged). Settled reducing e d x) i y) u.1

tests_correct : (rs : List Row) → tests rs ≡ true → Every Correct rs
unfolding tests
tests_correct [] t = tt
tests_correct (r ∷ rs) t = let u = both (test r) (tests rs) t in (test_correct r u.0, tests_correct rs u.1)

pass : tests table ≡ true
unfolding answers fits test tests typed has inverse_judged inverse inverted strip second num tail pair R.signed R.control R.controls list many lines_body not_body mct_body powered_body parse whole read longer cut J.controls J.target J.gates belongs most any_from rising first head_rules rules or_else judge_lines head_of line_below number keep_rules rest judge_rest judge_text read_all judge C.target slot power powered same_dec less_dec passes_dec merged free_dec turn_of turn place push nf ℕ_discrete dec_lt digits spaced one two word render rendered circuit_text
pass = refl

pub examples : Every Correct table
examples = tests_correct table pass
