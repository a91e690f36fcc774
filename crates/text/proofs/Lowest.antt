-- What a text without a keep line was judged to be when spare lines were the lowest ones (the gates of then, by the rules of now), and what is as it
-- was: every refusal and its line, the head and the number of gates of every such text; and the circuit too, of a cascade whose gates have at most four controls and of every
-- circuit text. Assumes nothing.
use mathlib.Core.Path.{◌≡◌, refl, ap, ◌∙◌}
use mathlib.Core.Bool.{false≢true}
use mathlib.Core.List.{List, [], ◌∷◌, ◌++◌}
use Prim.Native.Nat.{ℕ, ◌+◌, ◌≤◌}
use native.Mathlib.Omega.{arith}
use lib.ListN.{length, length-append}
use Rattle.gates.specs.Every.{Every}
use Rattle.gates.specs.declared.Gate.{Gate}
use Rattle.cascades.proofs.SignLines.{length_control_lines}
use Rattle.cascades.proofs.Lowest.{expansion±, count_before}
use Rattle.cascades.proofs.LowestSigned.{few_controls±}
use Rattle.text.specs.declared.Kind.{Kind}
use Rattle.text.specs.declared.Kind.TheVariants.{Cascade, Circuit}
use Rattle.text.specs.declared.Head.{Head}
use Rattle.text.specs.declared.Refusal.{Refusal}
use Rattle.text.specs.declared.Refusal.TheVariants.{Malformed}
use Rattle.text.specs.Text.{Form, lines, keep, gate, mct}
use Rattle.text.specs.Reading.{Line, in_form, unformed, read, cut}
use Rattle.cascades.specs.LineSets.{unpacked}
use Rattle.text.specs.Heads.{kept_lines, unkept}
use Rattle.text.specs.Judging as now
use Rattle.text.specs.Judging.{Judged, turned_away, accepted, belongs, Found, sound, breaks, first, head_rules, or_else, read_all}
use Rattle.text.proofs.Printed.{read_only}
use Rattle.text.proofs.Accepted.{Good, keeps, expandable}
use Rattle.text.proofs.JudgedBy.{judge_lines_by, judge_text_by, rules_now, gates_now, judge_lines_now, judge_text_now, Unkept, unkept_judged, rules, judge_lines, judge_text}

-- ---- the definitions of then

unfoldable pub gates : ℕ → Form → List Gate
gates n (lines m) = []
gates n (keep l) = []
gates n (gate g) = g ∷ []
gates n (mct cs t) = expansion± n cs t

unfoldable pub judge : Kind → List ℕ → Judged
judge k s = judge_text gates k (read_all (cut s))

-- ---- every text without a keep line: the same refusal at the same line, or accepted with the same head and as many gates

pub data Alike : Judged → Judged → Type 0 where
  refused : (r : Refusal) (l : ℕ) → Alike (turned_away r l) (turned_away r l)
  as_long : (h : Head) {c d : List Gate} → length c ≡ length d → Alike (accepted h c) (accepted h d)

gates_as_many : (n : ℕ) (f : Form) → length (gates_now n f) ≡ length (gates n f)
unfolding gates_now now.gates gates kept_lines unpacked
gates_as_many n (lines m) = refl
gates_as_many n (keep l) = refl
gates_as_many n (gate g) = refl
gates_as_many n (mct cs t) = count_before n cs t

as_many : (n : ℕ) (c d : List Gate) (f : Form) → length c ≡ length d → length (c ++ gates_now n f) ≡ length (d ++ gates n f)
as_many n c d f e = omega (arith, e, length-append c (gates_now n f), length-append d (gates n f), gates_as_many n f)

-- rules read the circuit by its number of gates alone
same_rules : (k : Kind) (n before : ℕ) (c d : List Gate) (f : Form) → length c ≡ length d → rules_now k n before c f ≡ rules gates k n before d f
unfolding rules_now now.rules rules gates_now
same_rules k n before c d f e = rw (as_many n c d f e)

pub alike_next : (f : Found) (l : ℕ) {x y : Judged} → Alike x y → Alike (or_else f l x) (or_else f l y)
unfolding or_else
alike_next sound l w = w
alike_next (breaks r) l w = refused r l

lines_alike : (k : Kind) (n before : ℕ) (c d : List Gate) (ls : List Line) → length c ≡ length d → Alike (judge_lines_now k n before c ls) (judge_lines gates k n before d ls)
unfolding judge_lines_by
lines_alike k n before c d [] e = as_long (unkept n) e
lines_alike k n before c d (unformed ∷ ls) e = refused Malformed (before + 2)
lines_alike k n before c d (in_form f ∷ ls) e =
    rw (same_rules k n before c d f e) (alike_next (first (rules gates k n before d f)) (before + 2) (lines_alike k n (before + 1) (c ++ gates_now n f) (d ++ gates n f) ls (as_many n c d f e)))

text_alike : (k : Kind) (ls : List Line) → Alike (judge_text_now k ls) (judge_text gates k ls)
unfolding judge_text_by
text_alike k [] = refused Malformed 1
text_alike k (unformed ∷ ls) = refused Malformed 1
text_alike k (in_form (lines n) ∷ ls) = alike_next (first (head_rules n)) 1 (lines_alike k n 0 [] [] ls refl)
text_alike k (in_form (keep l) ∷ ls) = refused Malformed 1
text_alike k (in_form (gate g) ∷ ls) = refused Malformed 1
text_alike k (in_form (mct cs t) ∷ ls) = refused Malformed 1

pub judged_alike : (k : Kind) (s : List ℕ) → Unkept k s → Alike (now.judge k s) (judge k s)
unfolding judge
judged_alike k s u = rw (unkept_judged k s u) (text_alike k (read_all (cut s)))

-- ---- texts that are judged as they were: no gate of a cascade has more than four controls; and every circuit text

abbrev pub Few : Kind → Line → Type 0
Few Cascade (in_form (mct cs t)) = length cs ≤ 4
Few Cascade (in_form (lines n)) = Unit {0}
Few Cascade (in_form (keep l)) = Unit {0}
Few Cascade (in_form (gate g)) = Unit {0}
Few Cascade unformed = Unit {0}
Few Circuit l = Unit {0}

abbrev pub FewControls : Kind → List ℕ → Type 0
FewControls k s = Every (Few k) (read_all (cut s))

-- a line that keeps the rules puts the same gates into the circuit
same_gates : (k : Kind) (n : ℕ) (f : Form) → Good k (unkept n) f → Few k (in_form f) → gates_now n f ≡ gates n f
unfolding gates_now now.gates gates kept_lines unpacked
same_gates k n (lines m) g w = refl
same_gates k n (keep l) g w = refl
same_gates k n (gate x) g w = refl
same_gates Cascade n (mct cs t) g w = let e = expandable (unkept n) cs t g in few_controls± n cs t e.0 e.1 (omega (arith, w, length_control_lines cs))
same_gates Circuit n (mct cs t) g w = unfold belongs in absurd (false≢true g.belonging)

lines_before : (k : Kind) (n before : ℕ) (c : List Gate) (ls : List (List ℕ)) → Every (Few k) (read_all ls) → judge_lines_now k n before c (read_all ls) ≡ judge_lines gates k n before c (read_all ls)
unfolding read_all rules_now
lines_before k n before c [] w = unfold judge_lines_by in refl
lines_before k n before c (l ∷ ls) w = go (read l) refl w.0 (λ d. lines_before k n (before + 1) d ls w.1)
  where
    kept_on : (f : Form) → read l ≡ in_form f → Few k (in_form f) → ((d : List Gate) → judge_lines_now k n (before + 1) d (read_all ls) ≡ judge_lines gates k n (before + 1) d (read_all ls)) → (x : Found) → first (rules_now k n before c f) ≡ x
        → or_else x (before + 2) (judge_lines_now k n (before + 1) (c ++ gates_now n f) (read_all ls)) ≡ or_else x (before + 2) (judge_lines gates k n (before + 1) (c ++ gates n f) (read_all ls))
    kept_on f q few ih (breaks r) e = unfold or_else in refl
    kept_on f q few ih sound e = unfold or_else in
        ih (c ++ gates_now n f)
        ∙ ap (λ (g : List Gate). judge_lines gates k n (before + 1) (c ++ g) (read_all ls)) (same_gates k n f (keeps k (unkept n) before c f (read_only l f q).1 e).good few)

    go : (x : Line) → read l ≡ x → Few k x → ((d : List Gate) → judge_lines_now k n (before + 1) d (read_all ls) ≡ judge_lines gates k n (before + 1) d (read_all ls)) → judge_lines_now k n before c (x ∷ read_all ls) ≡ judge_lines gates k n before c (x ∷ read_all ls)
    go unformed q few ih = unfold judge_lines_by in refl
    go (in_form f) q few ih = unfold judge_lines_by in rw (← same_rules k n before c c f refl) (kept_on f q few ih (first (rules_now k n before c f)) refl)

first_before : (k : Kind) (x : Line) (ls : List (List ℕ)) → Every (Few k) (read_all ls) → judge_text_now k (x ∷ read_all ls) ≡ judge_text gates k (x ∷ read_all ls)
unfolding judge_text_by
first_before k unformed ls w = refl
first_before k (in_form (lines n)) ls w = ap (or_else (first (head_rules n)) 1) (lines_before k n 0 [] ls w)
first_before k (in_form (keep l)) ls w = refl
first_before k (in_form (gate g)) ls w = refl
first_before k (in_form (mct cs t)) ls w = refl

text_before : (k : Kind) (ls : List (List ℕ)) → Every (Few k) (read_all ls) → judge_text_now k (read_all ls) ≡ judge_text gates k (read_all ls)
unfolding read_all
text_before k [] w = unfold judge_text_by in refl
text_before k (l ∷ ls) w = first_before k (read l) ls w.1

pub judged_before : (k : Kind) (s : List ℕ) → Unkept k s → FewControls k s → now.judge k s ≡ judge k s
unfolding judge
judged_before k s u w = unkept_judged k s u ∙ text_before k (cut s) w

pub circuits_before : (s : List ℕ) → now.judge Circuit s ≡ judge Circuit s
circuits_before s = judged_before Circuit s tt (every_line (read_all (cut s)))
  where
    every_line : (ls : List Line) → Every (Few Circuit) ls
    every_line [] = tt
    every_line (l ∷ ls) = (tt, every_line ls)
