-- The examples hold. Assumes nothing.
use mathlib.Core.Path.{◌≡◌, refl, sym, ap, ◌∙◌}
use mathlib.Core.Logic.{◌⊎◌, inl, inr}
use mathlib.Core.Bool.{Bool, true, false, not, ◌&&◌, true≢false}
use mathlib.Core.List.{List, [], ◌∷◌}
use Prim.Native.Nat.{ℕ, zero, suc, ◌≤◌}
use native.Mathlib.Decide.{ℕ_discrete, dec_lt}
use native.Mathlib.Omega.{arith}
use lib.ListN.{length, replicate, length-replicate}
use lib.Dec.{ltb, leb, eqb}
use borrow.Author.Tests.{ltb-false, leb-true, eqb-true, not-true}
use Rattle.gates.specs.declared.Gate.{Gate}
use Rattle.gates.specs.declared.Gate.TheVariants.{Not}
use Rattle.gates.specs.Every.{Every}
use Rattle.gates.specs.Circuit as C
use Rattle.gates.specs.Circuit.{slot, power, powered, AllValid, valid_not, Linked, done}
use Rattle.gates.proofs.Pushing.{merged, passes_dec, same_dec, less_dec, free_dec, turn_of, turn, place, push}
use Rattle.gates.specs.Reduced.{Reduced}
use Rattle.gates.proofs.Theorem.{nf, nf_reduced, reduced_unique}
use Rattle.meaning.specs.Pattern.{number, has}
use Rattle.meaning.proofs.Flips.{both}
use Rattle.text.specs.Heads.{head_of, line_below, unkept}
use Rattle.text.specs.declared.Head.{Head}
use Rattle.text.specs.declared.Kind.TheVariants as kind
use Rattle.text.specs.Refusals.{number_of}
use Rattle.text.specs.Text.{digits, spaced, one, two, word, render, rendered, circuit_text}
use Rattle.text.specs.Reading as R
use Rattle.text.specs.Reading.{strip, second, num, tail, pair, list, many, lines_body, not_body, mct_body, powered_body, parse, whole, read, longer, cut}
use Rattle.text.specs.Judging as J
use Rattle.text.specs.Judging.{Judged, turned_away, accepted, belongs, most, any_from, rising, first, head_rules, rules, or_else, judge_lines, keep_rules, rest, judge_rest, judge_text, read_all, judge}
use Rattle.text.proofs.Accepted.{judge_accepted, text_valid}
use Rattle.text.proofs.Written.{judge_written}
use Rattle.std.specs.declared.cmp.Ordering.{Ordering}
use Rattle.std.specs.declared.cmp.Ordering.TheVariants.{Less}
use Rattle.ordering.specs.Comparing.{count_of, then, compare_numbers, compare_gates, dictionary, compare_lists}
use Rattle.ordering.proofs.Circuits.{fewer_lines, same_lines}
use Rattle.habits.specs.Habits.{Exit}
use Rattle.habits.specs.Demands.{failing_line, Sized}
use Rattle.habits.proofs.Lines.{judge_by_line}
use Rattle.demands.specs.Examples.{typed}
use Rattle.comparison.specs.Compare.{Compare}
use Rattle.comparison.specs.Demands.{by_first, by_second}
use Rattle.comparison.specs.Examples.{Answer, says, away, Row, compares, least, longest_before, Shows, longest, Correct, table}
use Rattle.comparison.proofs.Demands.{both_accepted, compare_demand}
use Rattle.comparison.proofs.Order.{ran_compares, total_order}

-- ---- a row of two texts is tested by computing: the texts are judged, and the normal forms are compared

unfoldable fits : Judged → Judged → Answer → Bool
fits (turned_away r l) e (says k) = false
fits (turned_away r l) e (away n i u) = eqb (number_of r) n && (eqb l i && eqb 1 u)
fits (accepted g c) (turned_away r l) (says k) = false
fits (accepted g c) (turned_away r l) (away n i u) = eqb (number_of r) n && (eqb l i && eqb 2 u)
fits (accepted g c) (accepted h d) (says k) = eqb (count_of (compare_lists g.lines (nf c) h.lines (nf d))) (count_of k)
fits (accepted g c) (accepted h d) (away n i u) = false

abbrev short : List ℕ → Bool
short s = not (ltb 60000 (length s))

-- a text on two lines or more
unfoldable wider : Judged → Bool
wider (turned_away r l) = false
wider (accepted h d) = leb 2 h.lines

is_short : (s : List ℕ) → short s ≡ true → length s ≤ 60000
is_short s e = ltb-false 60000 (length s) (not-true (ltb 60000 (length s)) e)

three : (a b c : Bool) → (a && (b && c)) ≡ true → (a ≡ true) × (b ≡ true) × (c ≡ true)
three a b c e = let u = both a (b && c) e in let v = both b c u.1 in (u.0, v.0, v.1)

module _ (s t : List ℕ) (l m : List Gate) (x : Exit) (a : length s ≤ 60000) (b : length t ≤ 60000) (h : 4096 ≤ length l) (i : 4096 ≤ length m) (z : Compare s l t m x) where
  sized : Sized s (length l ∷ [])
  sized = record { small = a; room = (h, tt) }

  sized' : Sized t (length m ∷ [])
  sized' = record { small = b; room = (i, tt) }

  -- two circuits: by their normal forms
  by_nf : {g k : Head} {c d : List Gate} → judge kind.Circuit s ≡ accepted g c → judge kind.Circuit t ≡ accepted k d → (x.number ≡ 0) × (x.count ≡ count_of (compare_lists g.lines (nf c) k.lines (nf d)))
  by_nf {g} {k} {c} {d} e f =
      let (p, q, u, v, y) = both_accepted s l t m x z (record { sized = sized; judged = e }) (record { sized = sized'; judged = f }) in
      let o : p ≡ nf c = reduced_unique g.lines u (nf_reduced g.lines c (text_valid (judge_accepted kind.Circuit s e))) in
      let w : q ≡ nf d = reduced_unique k.lines v (nf_reduced k.lines d (text_valid (judge_accepted kind.Circuit t f))) in
      (ap (λ (n : Exit). n.number) y, rw (o, w) at (ap (λ (n : Exit). n.count) y))

  fits_shown : (d e : Judged) (r : Answer) → judge kind.Circuit s ≡ d → judge kind.Circuit t ≡ e → fits d e r ≡ true → Shows r x
  unfolding fits Shows
  fits_shown (turned_away r j) e (says k) p q f = absurd (true≢false (sym f))
  fits_shown (turned_away r j) e (away n y u) p q f =
      let w = three _ _ _ f in
      let b = judge_by_line kind.Circuit s p in
      let v = ((compare_demand s l t m x z).by_table (number_of r) j 1).1 (by_first (failing_line r j sized p b.0 b.1 b.2)) in
      (v.0 ∙ eqb-true _ _ w.0, v.1 ∙ eqb-true _ _ w.1, v.2 ∙ eqb-true _ _ w.2)
  fits_shown (accepted g c) (turned_away r j) (says k) p q f = absurd (true≢false (sym f))
  fits_shown (accepted g c) (turned_away r j) (away n y u) p q f =
      let w = three _ _ _ f in
      let b = judge_by_line kind.Circuit t q in
      let v = ((compare_demand s l t m x z).by_table (number_of r) j 2).1 (by_second (record { sized = sized; judged = p }) (failing_line r j sized' q b.0 b.1 b.2)) in
      (v.0 ∙ eqb-true _ _ w.0, v.1 ∙ eqb-true _ _ w.1, v.2 ∙ eqb-true _ _ w.2)
  fits_shown (accepted g c) (accepted k d) (says r) p q f = let v = by_nf p q in (v.0, v.1 ∙ eqb-true _ _ f)
  fits_shown (accepted g c) (accepted k d) (away n y u) p q f = absurd (true≢false (sym f))

-- ---- no gates, and the longest circuit on one line

-- a reduced list of no gates has none
none_reduced : {n : ℕ} {r : List Gate} → Reduced n [] r → r ≡ []
none_reduced {r = []} w = refl
none_reduced {r = g ∷ r} w = absurd (omega (arith, w.fewest [] done))

least_holds : (n : ℕ) → Correct (least n)
unfolding Correct count_of dictionary
least_holds n c k r = let (x, y, e) = ran_compares r in go x e y.second (sym (rw (none_reduced y.first_reduced, same_lines n [] y.second) at y.compared))
  where
    go : (x : Ordering) → k ≡ count_of x → (d : List Gate) → x ≡ dictionary compare_gates [] d → (k ≡ 0) ⊎ Linked n [] c
    go x e [] f = inr ((total_order.equal r).0 (e ∙ ap count_of f)).1
    go x e (g ∷ d) f = inl (e ∙ ap count_of f)

nots_valid : (n : ℕ) → AllValid 1 (replicate n (Not 0))
nots_valid zero = tt
nots_valid (suc n) = (valid_not {t = 0} (omega arith), nots_valid n)

longest_read : judge kind.Circuit longest ≡ accepted (unkept 1) (replicate 4096 (Not 0))
longest_read = judge_written 1 (replicate 4096 (Not 0)) (nots_valid 4096) (omega arith) (omega arith) (omega (arith, length-replicate 4096 (Not 0)))

longest_short : length longest ≤ 60000
unfolding digits spaced one two word render rendered circuit_text
longest_short = leb-true _ _ refl

-- a text on more lines than one is after it
longest_holds : (t : List ℕ) (h : Head) (d : List Gate) → length t ≤ 60000 → judge kind.Circuit t ≡ accepted h d → 2 ≤ h.lines → (l m : List Gate) (x : Exit) → 4096 ≤ length l → 4096 ≤ length m → Compare longest l t m x → Shows (says Less) x
unfolding Shows
longest_holds t h d b e f l m x u v z = let w = by_nf longest t l m x longest_short b u v z longest_read e in (w.0, w.1 ∙ ap count_of (fewer_lines 1 _ h.lines _ f))

-- ---- the table

unfoldable holds : Row → Bool
holds (compares s t a) = short (typed s) && (short (typed t) && fits (judge kind.Circuit (typed s)) (judge kind.Circuit (typed t)) a)
holds (least n) = true
holds (longest_before t) = short (typed t) && wider (judge kind.Circuit (typed t))

holds_correct : (r : Row) → holds r ≡ true → Correct r
unfolding holds Correct wider
holds_correct (compares s t a) e = λ l m x h i z.
    let u = three _ _ _ e in
    fits_shown (typed s) (typed t) l m x (is_short (typed s) u.0) (is_short (typed t) u.1) h i z (judge kind.Circuit (typed s)) (judge kind.Circuit (typed t)) a refl refl u.2
holds_correct (least n) e = least_holds n
holds_correct (longest_before t) e =
    let u = both _ _ e in
    by_wider (judge kind.Circuit (typed t)) refl u.1 (is_short (typed t) u.0)
  where
    by_wider : (d : Judged) → judge kind.Circuit (typed t) ≡ d → wider d ≡ true → length (typed t) ≤ 60000 → (l m : List Gate) (x : Exit) → 4096 ≤ length l → 4096 ≤ length m → Compare longest l (typed t) m x → Shows (says Less) x
    by_wider (turned_away r j) q w b = absurd (true≢false (sym w))
    by_wider (accepted h d) q w b = longest_holds (typed t) h d b q (leb-true 2 h.lines w)

unfoldable all_hold : List Row → Bool
all_hold [] = true
all_hold (r ∷ rs) = holds r && all_hold rs

all_correct : (rs : List Row) → all_hold rs ≡ true → Every Correct rs
unfolding all_hold
all_correct [] e = tt
all_correct (r ∷ rs) e = let u = both (holds r) (all_hold rs) e in (holds_correct r u.0, all_correct rs u.1)

pass : all_hold table ≡ true
unfolding fits wider holds all_hold typed has strip second num tail pair R.control R.controls list many lines_body not_body mct_body powered_body parse whole read longer cut J.controls J.target J.gates belongs most any_from rising first head_rules rules or_else judge_lines head_of line_below number keep_rules rest judge_rest judge_text read_all judge C.target slot power powered same_dec less_dec passes_dec merged free_dec turn_of turn place push nf ℕ_discrete dec_lt count_of then compare_numbers compare_gates dictionary compare_lists
pass = refl

-- the examples of document 02's order 1
pub examples : Every Correct table
examples = all_correct table pass
