-- What a text was judged to be before there were keep lines (the definitions of then), and that a text without one is judged as it was: its line 2 is
-- no keep line; and every circuit text. Assumes nothing.
use mathlib.Core.Path.{◌≡◌, refl, sym, ap, ◌∙◌}
use mathlib.Core.Bool.{Bool, true, false, not, ◌&&◌, ◌||◌}
use mathlib.Core.List.{List, [], ◌∷◌, ◌++◌}
use Prim.Native.Nat.{ℕ, ◌+◌}
use native.Mathlib.Omega.{arith}
use native.Mathlib.Decide.{ℕ_discrete}
use lib.ListN.{length, take}
use lib.Dec.{eqb, leb, ltb}
use borrow.Author.Tests.{eq-eqb, ne_eqb, not-false}
use Rattle.gates.specs.declared.Gate.{Gate}
use Rattle.meaning.specs.Pattern.{has}
use Rattle.cascades.specs.declared.Control.{Control}
use Rattle.cascades.specs.Control.{control_lines, negated_lines}
use Rattle.cascades.specs.Expansion as now_expanded
use Rattle.cascades.specs.Expansion.{lines_outside, mct_spares, expand_with}
use Rattle.cascades.specs.Signs as now_signed
use Rattle.cascades.specs.Signs.{between_nots}
use Rattle.cascades.specs.Cascade.{OnLines}
use Rattle.cascades.proofs.Spared.{no_spare}
use Rattle.text.specs.declared.Kind.{Kind}
use Rattle.text.specs.declared.Kind.TheVariants.{Cascade, Circuit}
use Rattle.text.specs.declared.Refusal.TheVariants.{Malformed, NoSuchLine, Crossed, Unsorted, TooWide, NoSpare, TooMany}
use Rattle.text.specs.Text.{Form, lines, keep, gate, mct, bytes}
use Rattle.text.specs.Reading as now_read
use Rattle.text.specs.Reading.{Got, got, none, bind, if_got, strip, numbers, lines_body, keep_body, not_body, mct_body, powered_body, Line, in_form, unformed, whole, cut}
use Rattle.cascades.specs.LineSets.{unpacked}
use Rattle.text.specs.Heads.{kept_lines}
use Rattle.text.specs.Judging as now
use Rattle.text.specs.Judging.{Judged, turned_away, controls, target, belongs, most, any_from, rising, sound, Rule, rule, first, head_rules, or_else}
use Rattle.text.proofs.Rising.{rising_distinct}
use Rattle.text.proofs.Printed.{strip_sound}
use Rattle.text.proofs.Accepted.{kept, target_below}
use Rattle.text.proofs.JudgedBy.{Rules, judge_lines_by, judge_text_by, rules_now, gates_now, judge_lines_now, judge_text_now, Unkept, unkept_judged}

-- ---- the definitions of then

unfoldable pub parse : List ℕ → Got Form
parse s =
    if_got (strip (bytes "(lines ") s) (λ _. lines_body)
    (if_got (strip (bytes "(not ") s) (λ _. not_body)
    (if_got (strip (bytes "(cn ") s) (λ _. powered_body 2)
    (if_got (strip (bytes "(v ") s) (λ _. powered_body 1)
    (if_got (strip (bytes "(vp ") s) (λ _. powered_body 3)
    (bind (strip (bytes "(mct (") s) (λ _. mct_body))))))

unfoldable pub read : List ℕ → Line
read s = whole (parse s)

unfoldable pub read_all : List (List ℕ) → List Line
read_all [] = []
read_all (l ∷ ls) = read l ∷ read_all ls

-- all unnamed lines were spares
unfoldable pub expansion± : ℕ → List Control → ℕ → List Gate
expansion± n cs t = between_nots (negated_lines cs) (expand_with (lines_outside n 0 (t ∷ control_lines cs)) (control_lines cs) t)

unfoldable pub gates : ℕ → Form → List Gate
gates n (lines m) = []
gates n (keep l) = []
gates n (gate g) = g ∷ []
gates n (mct cs t) = expansion± n cs t

-- rule 8 of document 01: "three or more controls and n = k + 1"
unfoldable pub rules : Rules
rules k n before c f =
    rule Malformed (not (belongs k f))
    ∷ rule NoSuchLine (any_from n (target f ∷ controls f))
    ∷ rule Crossed (has (target f) (controls f))
    ∷ rule Unsorted (not (rising (controls f)))
    ∷ rule NoSpare (leb 3 (length (controls f)) && eqb n (length (controls f) + 1))
    ∷ rule TooWide (ltb 15 (length (controls f)))
    ∷ rule TooMany (ltb (most k) (before + 1) || ltb 4096 (length (c ++ gates n f)))
    ∷ []

unfoldable pub judge : Kind → List ℕ → Judged
judge k s = judge_text_by rules gates k (read_all (cut s))

-- ---- a line: the same gates, and the same finding

gates_same : (n : ℕ) (f : Form) → gates_now n f ≡ gates n f
unfolding gates_now now.gates gates now_signed.expansion± now_expanded.expansion expansion± mct_spares kept_lines unpacked
gates_same n (lines m) = refl
gates_same n (keep l) = refl
gates_same n (gate g) = refl
gates_same n (mct cs t) = refl

-- the test of rule 8, where rules 4 to 6 find nothing
spareless : (n : ℕ) (cs : List ℕ) (t : ℕ) → any_from n (t ∷ cs) ≡ false → has t cs ≡ false → rising cs ≡ true → eqb (length (mct_spares n [] cs t)) 0 ≡ eqb n (length cs + 1)
spareless n cs t a b c = go (ℕ_discrete n (length cs + 1))
  where
    on : OnLines n cs t
    on = let w = target_below n t cs a in record { apart = rising_distinct cs c; other = b; line = w.0; below = w.1 }

    no_length : (l : List ℕ) → length l ≡ 0 → l ≡ []
    no_length [] e = refl
    no_length (s ∷ l) e = absurd (omega arith)

    go : Dec (n ≡ length cs + 1) → eqb (length (mct_spares n [] cs t)) 0 ≡ eqb n (length cs + 1)
    go (yes q) = rw ((no_spare n on).1 q, eq-eqb n (length cs + 1) q)
    go (no q) = ne_eqb _ 0 (λ e. q ((no_spare n on).0 (no_length _ e))) ∙ sym (ne_eqb n (length cs + 1) q)

-- of a line that passes 3 to 6
pub passed_spareless : (k : Kind) (n : ℕ) (f : Form) → first (take 4 (rules_now k n 0 [] f)) ≡ sound → eqb (length (mct_spares n [] (controls f) (target f))) 0 ≡ eqb n (length (controls f) + 1)
unfolding rules_now now.rules
passed_spareless k n f e =
    let w = kept _ _ _ (kept _ _ _ e).1 in
    let x = kept _ _ _ w.1 in
    spareless n (controls f) (target f) w.0 x.0 (not-false (rising (controls f)) (kept _ _ _ x.1).0)

-- rule 8 read in two ways, after rules that found something, or that make both readings one
found_same : (rs : List Rule) (k : ℕ) (a b : Bool) (qs : List Rule) → (first rs ≡ sound → a ≡ b) → first (rs ++ (rule NoSpare (leb 3 k && a) ∷ qs)) ≡ first (rs ++ (rule NoSpare (leb 3 k && b) ∷ qs))
unfolding first
found_same [] k a b qs h = rw (h refl)
found_same (rule r true ∷ rs) k a b qs h = refl
found_same (rule r false ∷ rs) k a b qs h = found_same rs k a b qs h

finds_same : (k : Kind) (n before : ℕ) (c : List Gate) (f : Form) → first (rules_now k n before c f) ≡ first (rules k n before c f)
unfolding rules_now now.rules rules kept_lines unpacked
finds_same k n before c f =
    found_same (take 4 (rules k n before c f)) (length (controls f)) (eqb (length (mct_spares n [] (controls f) (target f))) 0) (eqb n (length (controls f) + 1)) _ (passed_spareless k n f)
    ∙ ap (λ (g : List Gate). first (take 6 (rules k n before c f) ++ (rule TooMany (ltb (most k) (before + 1) || ltb 4096 (length (c ++ g))) ∷ []))) (unfold gates_now in gates_same n f)

-- ---- a line, as it is read and as it was

data Alike : Line → Line → Type 0 where
  same : (x : Line) → Alike x x
  a_keep : (l : List ℕ) → Alike (in_form (keep l)) unformed

-- the words after `(keep `, none of which begins as it does
no_other : (r : List ℕ) → parse (bytes "(keep " ++ r) ≡ none
unfolding parse strip
no_other r = refl

line_alike : (s : List ℕ) → Alike (now_read.read s) (read s)
unfolding now_read.read read whole
line_alike s = go (strip (bytes "(lines ") s) refl (strip (bytes "(keep ") s) refl
  where
    kept_line : (g : Got (List ℕ)) → Alike (whole (bind g (λ l. got (keep l)))) unformed
    kept_line (got l []) = a_keep l
    kept_line (got l (b ∷ r)) = same unformed
    kept_line none = same unformed

    go : (x : Got (Unit {0})) → strip (bytes "(lines ") s ≡ x → (y : Got (Unit {0})) → strip (bytes "(keep ") s ≡ y → Alike (whole (now_read.parse s)) (whole (parse s))
    go (got a r) p y q = unfold now_read.parse parse in rw p (same (whole (lines_body r)))
    go none p none q = unfold now_read.parse parse in rw (p, q) (same _)
    go none p (got a r) q = rw (ap parse (strip_sound (bytes "(keep ") s r q) ∙ no_other r) (unfold now_read.parse keep_body whole in rw (p, q) (kept_line (numbers r)))

-- ---- the lines after line 1

-- a keep line belongs to none of them
keep_malformed : (k : Kind) (n before : ℕ) (c : List Gate) (l : List ℕ) (ls : List Line) → judge_lines_now k n before c (in_form (keep l) ∷ ls) ≡ turned_away Malformed (before + 2)
unfolding judge_lines_by rules_now now.rules belongs first or_else
keep_malformed Cascade n before c l ls = refl
keep_malformed Circuit n before c l ls = refl

module _ (k : Kind) (n : ℕ) where
  step_before : (before : ℕ) (c : List Gate) {x y : Line} (xs ys : List Line) → Alike x y → ((d : List Gate) → judge_lines_now k n (before + 1) d xs ≡ judge_lines_by rules gates k n (before + 1) d ys) → judge_lines_now k n before c (x ∷ xs) ≡ judge_lines_by rules gates k n before c (y ∷ ys)
  unfolding judge_lines_by
  step_before before c xs ys (same unformed) f = refl
  step_before before c xs ys (same (in_form g)) f = rw (finds_same k n before c g, gates_same n g, f (c ++ gates n g))
  step_before before c xs ys (a_keep l) f = keep_malformed k n before c l xs

  lines_before : (before : ℕ) (c : List Gate) (ls : List (List ℕ)) → judge_lines_now k n before c (now.read_all ls) ≡ judge_lines_by rules gates k n before c (read_all ls)
  unfolding now.read_all read_all
  lines_before before c [] = unfold judge_lines_by in refl
  lines_before before c (l ∷ ls) = step_before before c (now.read_all ls) (read_all ls) (line_alike l) (λ d. lines_before (before + 1) d ls)

-- ---- the text

first_before : (k : Kind) {x y : Line} (xs ys : List Line) → Alike x y → ((n : ℕ) → judge_lines_now k n 0 [] xs ≡ judge_lines_by rules gates k n 0 [] ys) → judge_text_now k (x ∷ xs) ≡ judge_text_by rules gates k (y ∷ ys)
unfolding judge_text_by
first_before k xs ys (same unformed) f = refl
first_before k xs ys (same (in_form (lines n))) f = ap (or_else (first (head_rules n)) 1) (f n)
first_before k xs ys (same (in_form (keep l))) f = refl
first_before k xs ys (same (in_form (gate g))) f = refl
first_before k xs ys (same (in_form (mct cs t))) f = refl
first_before k xs ys (a_keep l) f = refl

text_before : (k : Kind) (ls : List (List ℕ)) → judge_text_now k (now.read_all ls) ≡ judge_text_by rules gates k (read_all ls)
unfolding now.read_all read_all
text_before k [] = unfold judge_text_by in refl
text_before k (l ∷ ls) = first_before k (now.read_all ls) (read_all ls) (line_alike l) (λ n. lines_before k n 0 [] ls)

-- "A text without it is judged as before"
pub judged_before : (k : Kind) (s : List ℕ) → Unkept k s → now.judge k s ≡ judge k s
unfolding judge
judged_before k s u = unkept_judged k s u ∙ text_before k (cut s)

-- and so is every circuit text: a keep line was malformed there, and is
pub circuits_before : (s : List ℕ) → now.judge Circuit s ≡ judge Circuit s
circuits_before s = judged_before Circuit s tt
