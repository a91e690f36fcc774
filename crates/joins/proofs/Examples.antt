-- The examples hold. Assumes nothing.
use Prim.Native.Nat.{ℕ, zero, suc, ◌≤◌}
use mathlib.Core.Path.{◌≡◌, refl, sym, ap, ◌∙◌}
use mathlib.Core.Bool.{Bool, true, false, ◌&&◌, true≢false}
use mathlib.Core.List.{List, [], ◌∷◌}
use native.Mathlib.Decide.{ℕ_discrete, dec_lt}
use native.Mathlib.Omega.{arith}
use lib.ListN.{length, take, replicate, length-replicate}
use lib.Dec.{eqb}
use borrow.Author.Tests.{le-ltb, leb-true, eqb-true}
use Rattle.gates.specs.declared.Gate.{Gate}
use Rattle.gates.specs.declared.Gate.TheVariants.{Not}
use Rattle.gates.specs.Every.{Every}
use Rattle.gates.specs.Circuit as C
use Rattle.gates.specs.Circuit.{slot, power, powered, AllValid, valid_not}
use Rattle.gates.proofs.Pushing.{merged, passes_dec, same_dec, less_dec, free_dec, turn_of, turn, place, push}
use Rattle.gates.proofs.Theorem.{nf, nf_reduced, reduced_unique}
use Rattle.meaning.specs.Pattern.{number, has}
use Rattle.meaning.proofs.Flips.{both}
use Rattle.text.specs.Heads.{head_of, line_below, unkept}
use Rattle.text.specs.declared.Kind.TheVariants as kind
use Rattle.text.specs.Refusals.{number_of}
use Rattle.text.specs.Text.{digits, spaced, one, two, word, render, rendered, circuit_text}
use Rattle.text.specs.Reading as R
use Rattle.text.specs.Reading.{strip, second, num, tail, pair, list, many, lines_body, not_body, mct_body, powered_body, parse, whole, read, longer, cut}
use Rattle.text.specs.Judging as J
use Rattle.text.specs.Judging.{belongs, most, any_from, rising, first, head_rules, rules, or_else, judge_lines, keep_rules, rest, judge_rest, judge_text, read_all, judge}
use Rattle.text.proofs.Written.{judge_written}
use Rattle.habits.specs.Habits as habits
use Rattle.habits.specs.Habits.{Judgement, fine, ◌then◌, passes, require, size_rules, taken, Circuit, told, text_judged, Lent, Exit, success, answered}
use Rattle.habits.proofs.Yields.{yields_fine}
use Rattle.habits.proofs.Refused.{accepts_exactly_if}
use Rattle.habits.proofs.Says.{says_fine}
use Rattle.jobs.specs.Jobs.{as_text}
use Rattle.jobs.specs.Habits.{answer, Right}
use Rattle.demands.specs.Examples.{typed}
use Rattle.demands.proofs.Table.{same, same_is}
use Rattle.joins.specs.Join.{plain_join, judged, Join}
use Rattle.joins.specs.Examples.{Answer, text, away, Row, joins, longest_with, Shows, Gets, longest, Correct, table}
use Rattle.joins.proofs.One.{yields_judged}
use Rattle.joins.proofs.Demands.{leaves, refused}

-- ---- a row is tested by computing: its texts are judged, and the normal form of their plain join is compared

unfoldable fits : Judgement Circuit → Answer → Bool
fits (fine c) (text out) = same (circuit_text c.lines (nf c.gates)) (typed out)
fits (fine c) (away n i u) = false
fits (habits.away r u i) (text out) = false
fits (habits.away r u i) (away n j v) = eqb (number_of r) n && (eqb i j && eqb u v)

-- ---- what passes the test holds

module _ (s : List ℕ) (l : List Gate) (t a : List ℕ) (x : Exit) (says : Join s l t a x) where
  abbrev lent : Lent
  lent = record { lists = l ∷ []; area = a }

  -- a join: by its normal form
  text_shown : (c : Circuit) (out : List ℕ) → judged s (length l) t ≡ fine c → circuit_text c.lines (nf c.gates) ≡ out → length out ≤ length a → (x.number ≡ 0) × (take x.count x.lent.area ≡ out)
  unfolding Join answered success
  text_shown c out q e h =
      let z = says_fine (judged s (length l) t) (Right as_text) lent says q in
      let v = (yields_fine (yields_judged s (length l) t) q).0.valid in
      let i : z.1.0 ≡ nf c.gates = reduced_unique c.lines z.1.1 (nf_reduced c.lines c.gates v) in
      let w = z.2 ∙ ap (λ (y : habits.Answer). answered y lent) (z.1.2 ∙ ap (answer as_text c.lines) i) in
      let y : x ≡ success (answer as_text c.lines (nf c.gates)) lent = rw (le-ltb (length a) (length (circuit_text c.lines (nf c.gates))) (rw e h)) at w in
      (ap (λ (k : Exit). k.number) y, (leaves y).area_text ∙ e)

  fits_shown : (v : Judgement Circuit) (w : Answer) → judged s (length l) t ≡ v → Gets w a → fits v w ≡ true → Shows w x
  unfolding fits Shows Gets
  fits_shown (fine c) (text out) q h e = text_shown c (typed out) q (same_is (circuit_text c.lines (nf c.gates)) (typed out) e) h
  fits_shown (fine c) (away n i u) q h e = absurd (true≢false (sym e))
  fits_shown (habits.away r u i) (text out) q h e = absurd (true≢false (sym e))
  fits_shown (habits.away r u i) (away n j v) q h e =
      let z = refused s l t a x says r q in
      let k = both (eqb (number_of r) n) _ e in
      let m = both (eqb i j) _ k.1 in
      (z.0 ∙ eqb-true (number_of r) n k.0, z.1 ∙ eqb-true i j m.0, z.2 ∙ eqb-true u v m.1)

-- rule 2 lets a long list pass
enough : (s : List ℕ) (k : ℕ) → 4096 ≤ k → text_judged 1 kind.Circuit s (k ∷ []) ≡ text_judged 1 kind.Circuit s (4096 ∷ [])
unfolding text_judged taken size_rules
enough s k h = rw (le-ltb k 4096 h)

-- the join behind the circuit c
abbrev joined_with : Circuit → List ℕ → Judgement Circuit
joined_with c t = text_judged 2 kind.Circuit t [] then λ d. plain_join c d

by_first : {c : Circuit} (s : List ℕ) (k : ℕ) (t : List ℕ) → 4096 ≤ k → text_judged 1 kind.Circuit s (4096 ∷ []) ≡ fine c → judged s k t ≡ joined_with c t
unfolding judged
by_first s k t h e = ap (λ (v : Judgement Circuit). v then λ c. joined_with c t) (enough s k h ∙ e)

-- ---- the longest circuit on one line

nots_valid : (n : ℕ) → AllValid 1 (replicate n (Not 0))
nots_valid zero = tt
nots_valid (suc n) = (valid_not {t = 0} (omega arith), nots_valid n)

abbrev longest_circuit : Circuit
longest_circuit = record { lines = 1; gates = replicate 4096 (Not 0) }

longest_short : length longest ≤ 60000
unfolding digits spaced one two word render rendered circuit_text
longest_short = leb-true _ _ refl

longest_judged : text_judged 1 kind.Circuit longest (4096 ∷ []) ≡ fine longest_circuit
longest_judged =
    let e = judge_written 1 (replicate 4096 (Not 0)) (nots_valid 4096) (omega arith) (omega arith) (omega (arith, length-replicate 4096 (Not 0))) in
    (accepts_exactly_if 1 kind.Circuit longest (4096 ∷ []) longest_circuit).0 (unkept 1, record { sized = record { small = longest_short; room = (omega arith, tt) }; judged = e }, refl)

-- ---- the table

unfoldable holds : Row → Bool
holds (joins s t w) = fits (judged (typed s) 4096 (typed t)) w
holds (longest_with t w) = fits (joined_with longest_circuit (typed t)) w

holds_correct : (r : Row) → holds r ≡ true → Correct r
unfolding holds Correct judged
holds_correct (joins s t w) e = λ l a x h g z.
    fits_shown (typed s) l (typed t) a x z (judged (typed s) 4096 (typed t)) w (ap (λ (v : Judgement Circuit). v then λ c. joined_with c (typed t)) (enough (typed s) (length l) h)) g e
holds_correct (longest_with t w) e = λ l a x h g z.
    fits_shown longest l (typed t) a x z (joined_with longest_circuit (typed t)) w (by_first longest (length l) (typed t) h longest_judged) g e

unfoldable all_hold : List Row → Bool
all_hold [] = true
all_hold (r ∷ rs) = holds r && all_hold rs

all_correct : (rs : List Row) → all_hold rs ≡ true → Every Correct rs
unfolding all_hold
all_correct [] e = tt
all_correct (r ∷ rs) e = let u = both (holds r) (all_hold rs) e in (holds_correct r u.0, all_correct rs u.1)

pass : all_hold table ≡ true
unfolding fits holds all_hold typed judged plain_join passes require size_rules taken told text_judged has strip second num tail pair R.control R.controls list many lines_body not_body mct_body powered_body parse whole read longer cut J.controls J.target J.gates belongs most any_from rising first head_rules rules or_else judge_lines head_of line_below number keep_rules rest judge_rest judge_text read_all judge C.target slot power powered same_dec less_dec passes_dec merged free_dec turn_of turn place push nf ℕ_discrete dec_lt digits spaced one two word render rendered circuit_text
pass = refl

-- the examples of document 02's order 7
pub examples : Every Correct table
examples = all_correct table pass
