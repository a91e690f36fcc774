-- The examples of slip hold: what the texts are judged to be is computed, and lists of more than 4,096 records change nothing. Assumes nothing.
use Prim.Native.Nat.{ℕ, ◌≤◌}
use mathlib.Core.Path.{◌≡◌, refl, ap, ◌∙◌, subst}
use mathlib.Core.List.{List, [], ◌∷◌}
use lib.ListN.{length}
use borrow.Author.Tests.{le-ltb}
use Rattle.gates.specs.declared.Gate.{Gate}
use Rattle.gates.specs.Every.{Every}
use Rattle.gates.specs.Circuit as C
use Rattle.gates.specs.Circuit.{slot, power, powered}
use Rattle.meaning.specs.Pattern.{number, has}
use Rattle.text.specs.declared.Kind.{Kind}
use Rattle.text.specs.Refusals.{number_of}
use Rattle.text.specs.Heads.{head_of, line_below}
use Rattle.text.specs.Reading as R
use Rattle.text.specs.Reading.{strip, second, num, tail, pair, list, many, lines_body, not_body, mct_body, powered_body, parse, whole, read, longer, cut}
use Rattle.text.specs.Judging as J
use Rattle.text.specs.Judging.{belongs, most, any_from, rising, first, head_rules, rules, or_else, judge_lines, keep_rules, rest, judge_rest, judge_text, read_all, judge}
use Rattle.ordering.specs.Comparing.{then, compare_numbers, compare_gates, dictionary}
use Rattle.stepping.specs.Slip.{amid, passing, merging, neighbours, at_place, effect, onward, run_from, run}
use Rattle.sliptext.specs.SlipText.{more, place, placed, slip_form, formed, slip_lines, slip_judged}
use Rattle.habits.specs.Habits as habits
use Rattle.habits.specs.Habits.{Judgement, fine, passes, require, size_rules, taken, told, text_judged, Lent, Exit, refusal, success, answered}
use Rattle.habits.proofs.Says.{says_away, says_fine}
use Rattle.demands.specs.Examples.{typed}
use Rattle.slips.specs.Slip.{ended, is_equal, gate_for_gate, same_end, checked, judged, Slipped, Slip}
use Rattle.slips.specs.Examples.{Answer, accepted, away, Row, Shows, Correct, table}

-- ---- longer lists

roomy : (v : ℕ) (k : Kind) (s : List ℕ) {n : ℕ} → 4096 ≤ n → text_judged v k s (n ∷ []) ≡ text_judged v k s (4096 ∷ [])
unfolding text_judged taken size_rules
roomy v k s {n} h = rw (le-ltb n 4096 h)

judged_roomy : (s t u : List ℕ) {k j : ℕ} → 4096 ≤ k → 4096 ≤ j → judged s k t u j ≡ judged s 4096 t u 4096
unfolding judged
judged_roomy s t u h i = rw (roomy 1 _ s h, roomy 3 _ u i)

-- ---- the answer, by what is judged

abbrev answer : Judgement (List Gate × List Gate) → Answer
answer (habits.away r t l) = away (number_of r) l t
answer (fine p) = accepted

answer_shown : (s t u : List ℕ) (l m : List Gate) (x : Exit) → Slip s l t u m x → Shows (answer (judged s (length l) t u (length m))) x
unfolding Slip
answer_shown s t u l m x says = go (judged s (length l) t u (length m)) refl
  where
    lent : Lent
    lent = record { lists = l ∷ m ∷ []; area = [] }

    go : (v : Judgement (List Gate × List Gate)) → judged s (length l) t u (length m) ≡ v → Shows (answer v) x
    go (habits.away r i j) q =
        unfold Shows refusal in
        let z = says_away (judged s (length l) t u (length m)) Slipped lent says q in
        (ap (λ (y : Exit). y.number) z, ap (λ (y : Exit). y.line) z, ap (λ (y : Exit). y.text) z)
    go (fine (e, d)) q =
        unfold Shows Slipped answered success in
        let z = says_fine (judged s (length l) t u (length m)) Slipped lent says q in
        let y = z.2 ∙ ap (λ (w : habits.Answer). answered w lent) z.1 in
        (ap (λ (b : Exit). b.number) y, ap (λ (b : Exit). b.count) y)

-- ---- the table

abbrev Computed : Row → Type 0
Computed r = answer (judged (typed r.circuit) 4096 (typed r.slip) (typed r.second) 4096) ≡ r.answer

-- each row by computing
computed : Every Computed table
unfolding typed has strip second num tail pair R.control R.controls list many lines_body not_body mct_body powered_body parse whole read longer cut J.controls J.target J.gates belongs most any_from rising first head_rules rules or_else judge_lines head_of line_below number keep_rules rest judge_rest judge_text read_all judge passes require size_rules taken told text_judged more place placed slip_form formed slip_lines slip_judged C.target slot power powered amid passing merging neighbours at_place effect onward run_from run then compare_numbers compare_gates dictionary ended is_equal gate_for_gate same_end checked judged
computed = (refl, (refl, (refl, (refl, (refl, (refl, (refl, (refl, (refl, (refl, (refl, (refl, (refl, (refl, (refl, (refl, (refl, tt)))))))))))))))))

correct : (r : Row) → Computed r → Correct r
correct r e l m x h i says =
    subst (λ (a : Answer). Shows a x) (ap answer (judged_roomy (typed r.circuit) (typed r.slip) (typed r.second) h i) ∙ e) (answer_shown (typed r.circuit) (typed r.slip) (typed r.second) l m x says)

all_correct : (rows : List Row) → Every Computed rows → Every Correct rows
all_correct [] e = tt
all_correct (r ∷ rows) e = (correct r e.0, all_correct rows e.1)

-- the examples of document 02's order 9
pub examples : Every Correct table
examples = all_correct table computed
