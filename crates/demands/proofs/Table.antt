-- The starred examples hold, and those of negated controls, of spare lines, of rules 7 and 8 and of kept lines. Assumes nothing.
use mathlib.Core.Path.{◌≡◌, refl, sym, ap, ◌∙◌, subst}
use mathlib.Core.Bool.{Bool, true, false, not, ◌&&◌, true≢false}
use mathlib.Core.List.{List, [], ◌∷◌}
use Prim.Native.Nat.{ℕ, ◌≤◌}
use native.Mathlib.Omega.{arith}
use native.Mathlib.Decide.{ℕ_discrete, dec_lt}
use lib.ListN.{length, take, drop}
use lib.Dec.{ltb, eqb}
use borrow.Author.Tests.{le-ltb, ltb-true, ltb-false, eqb-true, not-true}
use Rattle.gates.specs.Every.{Every}
use Rattle.gates.specs.declared.Gate.{Gate}
use Rattle.gates.specs.Reduced.{Reduced}
use Rattle.gates.specs.Circuit as C
use Rattle.gates.specs.Circuit.{slot, power, powered, AllValid}
use Rattle.meaning.specs.Pattern.{number, has}
use Rattle.gates.specs.Inverse.{inverse, inverted}
use Rattle.cascades.specs.Expansion.{◌⨾◌, joined, lines_outside, mct_spares, first_spare, expand, expand_with, expansion}
use Rattle.cascades.specs.LineSets.{unpacked}
use Rattle.cascades.specs.Control.{control_lines, negated_lines}
use Rattle.cascades.specs.Signs.{nots, between_nots, expansion±}
use Rattle.meaning.proofs.Flips.{both}
use Rattle.gates.proofs.Pushing.{merged, passes_dec, same_dec, less_dec, free_dec, turn_of, turn, place, push}
use Rattle.gates.proofs.Theorem.{nf}
use Rattle.text.specs.declared.Head.{Head}
use Rattle.text.specs.Refusals.{number_of}
use Rattle.text.specs.Text.{digits, spaced, one, two, word, render, rendered, circuit_text}
use Rattle.text.specs.Reading as R
use Rattle.text.specs.Reading.{strip, second, num, tail, pair, list, many, without_sign, numbers, lines_body, keep_body, not_body, mct_body, powered_body, parse, whole, read, longer, cut}
use Rattle.text.specs.Heads.{head_of, kept_lines, line_below}
use Rattle.text.specs.Judging as J
use Rattle.text.specs.declared.Kind.{Kind}
use Rattle.text.specs.Judging.{Judged, turned_away, accepted, belongs, most, any_from, rising, first, head_rules, keep_rules, rules, or_else, judge_lines, rest_by, rest, judge_rest, judge_text, read_all, judge}
use Rattle.jobs.specs.Jobs.{Job, mapping, reducing, takes, wanted, Entry, Exit, judged, written, put_out, answered, Settled, Says}
use Rattle.demands.specs.Examples.{typed, Answer, text, quote, away, Row, gives, expands, Shows, Gets, Correct, table, signed_table, published_table, wide_table, kept_table}
use Rattle.jobs.proofs.Habits.{judged_sized}
use Rattle.jobs.proofs.One.{judged_accepted, passed_valid, is_nf}
use Rattle.demands.proofs.Demands.{text_wanted, count_wanted, area_front, refusal_is}

-- rules 1 and 2 let a short text and a long list pass
pub judged_is : (k : Kind) (e : Entry) (s : List ℕ) → e.text ≡ s → length s ≤ 60000 → 4096 ≤ length e.list → judged k e ≡ judge k s
unfolding judged
judged_is k e s q h l = judged_sized k e.text (length e.list) (record { small = rw q h; room = (l, tt) }) ∙ ap (judge k) q

-- the answer is computed from the normal form
answered_nf : (j : Job) (e : Entry) (h : Head) {c r : List Gate} {x : Exit} → AllValid h.lines c → Reduced h.lines c r → x ≡ answered j e h r → x ≡ answered j e h (nf c)
answered_nf j e h v w i = i ∙ ap (answered j e h) (is_nf v w)

text_shown : (e : Entry) (x : Exit) (r : List Gate) (s : List ℕ) → length s ≤ length e.area → x ≡ written e r s → (x.number ≡ 0) × (x.gates ≡ length r) × (x.bytes ≡ length s) × (take x.bytes x.area ≡ s)
unfolding written
text_shown e x r s h q = let z = rw (le-ltb (length e.area) (length s) h) at q in
    (ap (λ (y : Exit). y.number) z, ap (λ (y : Exit). y.gates) z, ap (λ (y : Exit). y.bytes) z, area_front e r s (drop (length s) e.area) z)

-- ---- a row is tested by computing: its text is judged, and the normal form is compared

abbrev pub same : List ℕ → List ℕ → Bool
same [] [] = true
same [] (b ∷ t) = false
same (a ∷ s) [] = false
same (a ∷ s) (b ∷ t) = eqb a b && same s t

pub same_is : (s t : List ℕ) → same s t ≡ true → s ≡ t
same_is [] [] e = refl
same_is [] (b ∷ t) e = absurd (true≢false (sym e))
same_is (a ∷ s) [] e = absurd (true≢false (sym e))
same_is (a ∷ s) (b ∷ t) e = let u = both (eqb a b) (same s t) e in let x = eqb-true a b u.0 in let y = same_is s t u.1 in cc

unfoldable pub answers : Job → ℕ → List Gate → Answer → Bool
answers j n r (text out g b) = same (circuit_text n r) (typed out) && (ltb 0 (length (typed out)) && (eqb (length r) g && eqb (length (typed out)) b))
answers mapping n r (quote g) = eqb (length r) g
answers reducing n r (quote g) = false
answers j n r (away m l) = false

unfoldable pub fits : Job → Judged → Answer → Bool
fits j (accepted h c) a = answers j h.lines (nf c) a
fits j (turned_away r l) (text out g b) = false
fits j (turned_away r l) (quote g) = false
fits j (turned_away r l) (away m k) = eqb (number_of r) m && eqb l k

unfoldable test : Row → Bool
test (gives j ls a) = not (ltb 60000 (length (typed ls))) && fits j (judge (takes j) (typed ls)) a
test (expands n kept cs t s m) = eqb (first_spare (mct_spares n kept cs t)) s && eqb (length (expansion n kept cs t)) m

unfoldable tests : List Row → Bool
tests [] = true
tests (r ∷ rs) = test r && tests rs

-- ---- what passes the test holds

-- an area that gets a text
text_answers : (j : Job) (e : Entry) (x : Exit) (h : Head) (r : List Gate) (out : List ℕ) → 1 ≤ length out → length out ≤ length e.area → x ≡ put_out (wanted j e) e h r → circuit_text h.lines r ≡ out
    → (x.number ≡ 0) × (x.gates ≡ length r) × (x.bytes ≡ length out) × (take x.bytes x.area ≡ out)
text_answers j e x h r out l m z i = text_shown e x r out m (rw (text_wanted j (length e.area) (omega (arith, l, m)), i) at z)

answers_shown : (j : Job) (e : Entry) (x : Exit) (h : Head) (r : List Gate) (a : Answer) → Gets a e.area → x ≡ put_out (wanted j e) e h r → answers j h.lines r a ≡ true → Shows a x
unfolding answers Shows Gets
answers_shown j e x h r (text out g b) m z t =
    let u = both (same (circuit_text h.lines r) (typed out)) _ t in
    let v = both (ltb 0 (length (typed out))) _ u.1 in
    let k = both (eqb (length r) g) _ v.1 in
    let w = text_answers j e x h r (typed out) (ltb-true 0 (length (typed out)) v.0) m z (same_is (circuit_text h.lines r) (typed out) u.0) in
    (w.0, w.1 ∙ eqb-true (length r) g k.0, w.2 ∙ eqb-true (length (typed out)) b k.1, w.3)
answers_shown mapping e x h r (quote g) m z t =
    let i = rw (count_wanted (length e.area) (ap length m)) at z in
    (ap (λ (w : Exit). w.number) i, ap (λ (w : Exit). w.gates) i ∙ eqb-true (length r) g t, ap (λ (w : Exit). w.bytes) i)
answers_shown reducing e x h r (quote g) m z t = absurd (true≢false (sym t))
answers_shown j e x h r (away k l) m z t = absurd (true≢false (sym t))

-- a job that answers as j does, by what was judged
pub fits_shown : (j : Job) (e : Entry) (x : Exit) (d : Judged) (a : Answer) → ((h : Head) (c : List Gate) → d ≡ accepted h c → AllValid h.lines c) → Gets a e.area → Settled j e d x → fits j d a ≡ true → Shows a x
unfolding fits Shows answered Settled
fits_shown j e x (accepted h c) a v m y t = answers_shown j e x h (nf c) a m (answered_nf j e h (v h c refl) y.1 y.2) t
fits_shown j e x (turned_away r l) (text out g b) v m y t = absurd (true≢false (sym t))
fits_shown j e x (turned_away r l) (quote g) v m y t = absurd (true≢false (sym t))
fits_shown j e x (turned_away r l) (away k i) v m y t =
    let z = refusal_is r l e y in
    let u = both (eqb (number_of r) k) (eqb l i) t in
    (z.0 ∙ eqb-true (number_of r) k u.0, z.1 ∙ eqb-true l i u.1, z.2.0, z.2.1)

test_correct : (r : Row) → test r ≡ true → Correct r
unfolding test Correct Says
test_correct (gives j ls a) t = λ e x q l m y.
    let u = both (not (ltb 60000 (length (typed ls)))) (fits j (judge (takes j) (typed ls)) a) t in
    let i = judged_is (takes j) e (typed ls) q (ltb-false 60000 (length (typed ls)) (not-true (ltb 60000 (length (typed ls))) u.0)) l in
    fits_shown j e x (judge (takes j) (typed ls)) a (λ h c k. passed_valid (judged_accepted (takes j) e (i ∙ k))) m (subst (λ (d : Judged). Settled j e d x) i y) u.1
test_correct (expands n kept cs t s m) h = let u = both (eqb (first_spare (mct_spares n kept cs t)) s) (eqb (length (expansion n kept cs t)) m) h in (eqb-true (first_spare (mct_spares n kept cs t)) s u.0, eqb-true (length (expansion n kept cs t)) m u.1)

tests_correct : (rs : List Row) → tests rs ≡ true → Every Correct rs
unfolding tests
tests_correct [] t = tt
tests_correct (r ∷ rs) t = let u = both (test r) (tests rs) t in (test_correct r u.0, tests_correct rs u.1)

pass : (tests table && (tests signed_table && (tests published_table && (tests wide_table && tests kept_table)))) ≡ true
unfolding answers fits test tests typed takes has inverse inverted ◌⨾◌ joined lines_outside mct_spares expand expand_with expansion control_lines negated_lines nots between_nots expansion± number unpacked strip second num tail pair R.signed R.control R.controls list many without_sign numbers lines_body keep_body not_body mct_body powered_body parse whole read longer cut head_of kept_lines line_below J.controls J.target J.gates belongs most any_from rising first head_rules keep_rules rules or_else judge_lines rest_by rest judge_rest judge_text read_all judge C.target slot power powered same_dec less_dec passes_dec merged free_dec turn_of turn place push nf ℕ_discrete dec_lt digits spaced one two word render rendered circuit_text
pass = refl

pass_from_4 : (tests signed_table && (tests published_table && (tests wide_table && tests kept_table))) ≡ true
pass_from_4 = (both (tests table) _ pass).1

pass_from_5 : (tests published_table && (tests wide_table && tests kept_table)) ≡ true
pass_from_5 = (both (tests signed_table) _ pass_from_4).1

pass_from_6 : (tests wide_table && tests kept_table) ≡ true
pass_from_6 = (both (tests published_table) _ pass_from_5).1

-- document 01's starred examples
pub examples : Every Correct table
examples = tests_correct table (both (tests table) _ pass).0

-- those of order 4
pub signed_examples : Every Correct signed_table
signed_examples = tests_correct signed_table (both (tests signed_table) _ pass_from_4).0

-- those of order 5
pub published_examples : Every Correct published_table
published_examples = tests_correct published_table (both (tests published_table) _ pass_from_5).0

-- those of order 6
pub wide_examples : Every Correct wide_table
wide_examples = tests_correct wide_table (both (tests wide_table) _ pass_from_6).0

-- those of order 8
pub kept_examples : Every Correct kept_table
kept_examples = tests_correct kept_table (both (tests wide_table) _ pass_from_6).1
