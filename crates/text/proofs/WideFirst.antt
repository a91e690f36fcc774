-- What a text without a keep line was judged to be when rule 7 was tried before rule 8, and which answers changed when 8 came first (document 02, order 6): "exactly those
-- given at a line that passes 3 to 6, with k of 16 or more and n = k + 1, from 7 to 8". Assumes nothing.
use mathlib.Core.Path.{◌≡◌, refl, sym, ap, ◌∙◌, subst}
use mathlib.Core.Logic.{◌↔◌, ◌≢◌}
use mathlib.Core.Bool.{Bool, true, false, ◌&&◌, ◌||◌, true≢false}
use mathlib.Core.List.{List, [], ◌∷◌, ◌++◌, map}
use Prim.Native.Nat.{ℕ, zero, suc, ◌+◌, ◌≤◌}
use native.Mathlib.Omega.{arith}
use lib.ListN.{length, take, get_or}
use lib.Dec.{eqb, leb, ltb}
use borrow.Author.Tests.{ltb-true, ltb-false, le-leb, eq-eqb, eqb-true}
use Rattle.gates.specs.declared.Gate.{Gate}
use Rattle.gates.specs.declared.Gate.TheVariants.{Not, Powered}
use Rattle.meaning.specs.Pattern.{has}
use Rattle.meaning.proofs.Flips.{both}
use Rattle.cascades.specs.Control.{control_lines}
use Rattle.cascades.specs.Expansion.{mct_spares}
use Rattle.text.specs.declared.Kind.{Kind}
use Rattle.text.specs.declared.Kind.TheVariants.{Cascade, Circuit}
use Rattle.text.specs.declared.Refusal.{Refusal}
use Rattle.text.specs.declared.Refusal.TheVariants.{Malformed, TooWide, NoSpare, TooMany}
use Rattle.text.specs.Refusals.{number_of}
use Rattle.text.specs.Text.{Form, lines, keep, gate, mct, bytes}
use Rattle.text.specs.Reading as R
use Rattle.text.specs.Reading.{strip, second, num, tail, list, many, lines_body, mct_body, parse, whole, Line, in_form, unformed, read, longer, cut}
use Rattle.cascades.specs.LineSets.{unpacked}
use Rattle.text.specs.Heads.{kept_lines, unkept}
use Rattle.text.specs.Judging as now
use Rattle.text.specs.Judging.{Judged, turned_away, controls, belongs, most, Found, sound, breaks, Rule, rule, first, head_rules, or_else, read_all}
use Rattle.text.proofs.Accepted.{away_accepted, breaks_sound, kept}
use Rattle.text.proofs.Edges.{rule_number}
use Rattle.text.proofs.JudgedBy.{Rules, judge_lines_by, judge_text_by, rules_now, gates_now, judge_lines_now, judge_text_now, Unkept, unkept_judged}
use Rattle.text.proofs.Keepless.{passed_spareless}
pub use Rattle.text.proofs.MeetsBoth.{MeetsBoth, MeetsBothAmong, MeetsBothAt}

-- ---- the order of then

-- the rule after the first i, and the one after it, change places
unfoldable pub exchanged : ℕ → List Rule → List Rule
exchanged i [] = []
exchanged zero (a ∷ []) = a ∷ []
exchanged zero (a ∷ b ∷ rs) = b ∷ a ∷ rs
exchanged (suc i) (a ∷ rs) = a ∷ exchanged i rs

unfoldable pub rules : Rules
rules k n before c f = exchanged 4 (rules_now k n before c f)

-- by their numbers
pub by_number : (k : Kind) (n before : ℕ) (c : List Gate) (f : Form) → map rule_number (rules k n before c f) ≡ 3 ∷ 4 ∷ 5 ∷ 6 ∷ 7 ∷ 8 ∷ 9 ∷ []
unfolding rules exchanged rules_now now.rules rule_number
by_number k n before c f = refl

unfoldable pub judge : Kind → List ℕ → Judged
judge k s = judge_text_by rules gates_now k (read_all (cut s))

-- document 01's example as it stood: "7, not 8"
pub sixteen_controls : judge Cascade (bytes "(lines 17)\n(mct (0 1 2 3 4 5 6 7 8 9 10 11 12 13 14 15) 16)\n") ≡ turned_away TooWide 2
unfolding judge judge_text_by judge_lines_by rules exchanged rules_now now.rules first or_else head_rules read_all cut longer read whole parse strip lines_body mct_body tail num second many list R.controls R.control R.signed controls now.target belongs now.any_from now.rising has control_lines
sixteen_controls = refl

-- ---- the lines at which an answer changed

-- a judgement of now and of then: the same, where it was given at no such line; or from 7 to 8, at the same line
pub data Became (At : ℕ → Type 0) : Judged → Judged → Type 0 where
  same : {j : Judged} → ((r : Refusal) (l : ℕ) → j ≡ turned_away r l → At l → ⊥) → Became At j j
  from_7_to_8 : {l : ℕ} → At l → Became At (turned_away NoSpare l) (turned_away TooWide l)

-- ---- a line

-- what the rules find now, and found then
data Finds (k : Kind) (n : ℕ) (f : Form) : Found → Found → Type 0 where
  alike : {x : Found} → (MeetsBoth k n f → ⊥) → Finds k n f x x
  meets_both : MeetsBoth k n f → Finds k n f (breaks NoSpare) (breaks TooWide)

passed_on : (rs qs : List Rule) → first rs ≡ sound → first (rs ++ qs) ≡ first qs
unfolding first
passed_on [] qs e = refl
passed_on (rule r true ∷ rs) qs e = absurd (breaks_sound e)
passed_on (rule r false ∷ rs) qs e = passed_on rs qs e

stopped : (rs qs : List Rule) {r : Refusal} → first rs ≡ breaks r → first (rs ++ qs) ≡ breaks r
unfolding first
stopped [] qs e = absurd (breaks_sound (sym e))
stopped (rule q true ∷ rs) qs e = e
stopped (rule q false ∷ rs) qs e = stopped rs qs e

finds : (k : Kind) (n before : ℕ) (c : List Gate) (f : Form) → Finds k n f (first (rules_now k n before c f)) (first (rules k n before c f))
unfolding rules_now now.rules rules exchanged
finds k n before c f = go (first (take 4 (rules_now k n 0 [] f))) refl (leb 3 m && spareless) refl (ltb 15 m) refl
    (rule TooMany (ltb (most k) (before + 1) || ltb 4096 (length (c ++ now.gates (unkept n) f))) ∷ [])
  where
    m : ℕ
    m = length (controls f)

    spareless : Bool
    spareless = eqb (length (mct_spares n (kept_lines (unkept n)) (controls f) (now.target f))) 0

    front : List Rule
    front = take 4 (rules_now k n 0 [] f)

    -- a line that passes 3 to 6 has no spare line exactly if n = k + 1
    spareless_is : first front ≡ sound → spareless ≡ eqb n (m + 1)
    spareless_is e = unfold kept_lines unpacked in passed_spareless k n f e

    later : (s : Bool) → (leb 3 m && spareless) ≡ s → (w : Bool) → ltb 15 m ≡ w → (rs : List Rule) → first front ≡ sound
        → Finds k n f (first (rule NoSpare s ∷ rule TooWide w ∷ rs)) (first (rule TooWide w ∷ rule NoSpare s ∷ rs))
    later true p true q rs e = unfold first in meets_both (record { passes = e; wide = ltb-true 15 m q; all_named = eqb-true n (m + 1) (sym (spareless_is e) ∙ (both (leb 3 m) spareless p).1) })
    later true p false q rs e = unfold first in alike (λ w. omega (arith, ltb-false 15 m q, w.wide))
    later false p w q rs e = unfold first in alike (λ v. true≢false (sym (rw (le-leb 3 m (omega (arith, v.wide)), spareless_is e, eq-eqb n (m + 1) v.all_named)) ∙ p))

    go : (x : Found) → first front ≡ x → (s : Bool) → (leb 3 m && spareless) ≡ s → (w : Bool) → ltb 15 m ≡ w → (rs : List Rule)
        → Finds k n f (first (front ++ (rule NoSpare s ∷ rule TooWide w ∷ rs))) (first (front ++ (rule TooWide w ∷ rule NoSpare s ∷ rs)))
    go sound e s p w q rs = rw (passed_on front (rule NoSpare s ∷ rule TooWide w ∷ rs) e, passed_on front (rule TooWide w ∷ rule NoSpare s ∷ rs) e) (later s p w q rs e)
    go (breaks r) e s p w q rs = rw (stopped front (rule NoSpare s ∷ rule TooWide w ∷ rs) e, stopped front (rule TooWide w ∷ rule NoSpare s ∷ rs) e) (alike (λ v. breaks_sound (sym e ∙ v.passes)))

-- ---- the lines after line 1

away_is : {r q : Refusal} {l m : ℕ} → turned_away r l ≡ turned_away q m → (r ≡ q) × (l ≡ m)
away_is e = (cc, cc)

unread : {f : Form} → unformed ≡ in_form f → ⊥
unread e = let z : ◌≡◌ {A = ℕ} 0 1 = cc in omega arith

form_is : {f g : Form} → in_form f ≡ in_form g → f ≡ g
form_is e = cc

-- a refusal is at none before these lines
late : (k : Kind) (n before : ℕ) (c : List Gate) (ls : List Line) (r : Refusal) (l : ℕ) → judge_lines_now k n before c ls ≡ turned_away r l → before + 2 ≤ l
unfolding judge_lines_by
late k n before c [] r l e = absurd (away_accepted (sym e))
late k n before c (unformed ∷ ls) r l e = omega (arith, (away_is e).1)
late k n before c (in_form f ∷ ls) r l e = go (first (rules_now k n before c f)) e (late k n (before + 1) (c ++ gates_now n f) ls r l)
  where
    go : (x : Found) → or_else x (before + 2) (judge_lines_now k n (before + 1) (c ++ gates_now n f) ls) ≡ turned_away r l
        → (judge_lines_now k n (before + 1) (c ++ gates_now n f) ls ≡ turned_away r l → before + 1 + 2 ≤ l) → before + 2 ≤ l
    go sound z ih = let w = ih (unfold or_else in z) in omega arith
    go (breaks q) z ih = let w : turned_away q (before + 2) ≡ turned_away r l = unfold or_else in z in omega (arith, (away_is w).1)

module _ (k : Kind) (n : ℕ) where
  -- the line after `before` others is the first of ls
  at_first : (before : ℕ) (x : Line) (ls : List Line) {l : ℕ} → before + 2 ≡ l → (w : MeetsBothAmong k n before (x ∷ ls) l) → x ≡ in_form w.form
  at_first before x ls e w = go w.place w.reads (omega (arith, e, w.its_line))
    where
      go : (i : ℕ) → get_or (x ∷ ls) i unformed ≡ in_form w.form → i ≡ 0 → x ≡ in_form w.form
      go zero q z = q
      go (suc i) q z = absurd (omega arith)

  -- a later line is one of the others
  at_later : (before : ℕ) (x : Line) (ls : List Line) {l : ℕ} → before + 1 + 2 ≤ l → MeetsBothAmong k n before (x ∷ ls) l → MeetsBothAmong k n (before + 1) ls l
  at_later before x ls {l} e w = go w.place w.its_line w.reads
    where
      go : (i : ℕ) → l ≡ before + i + 2 → get_or (x ∷ ls) i unformed ≡ in_form w.form → MeetsBothAmong k n (before + 1) ls l
      go zero q z = absurd (omega arith)
      go (suc i) q z = record { place = i; form = w.form; its_line = omega arith; reads = z; meets = w.meets }

  one_on : (before : ℕ) (x : Line) (ls : List Line) {l : ℕ} → MeetsBothAmong k n (before + 1) ls l → MeetsBothAmong k n before (x ∷ ls) l
  one_on before x ls w = record { place = suc w.place; form = w.form; its_line = omega (arith, w.its_line); reads = w.reads; meets = w.meets }

  lines_became : (before : ℕ) (c : List Gate) (ls : List Line) → Became (MeetsBothAmong k n before ls) (judge_lines_now k n before c ls) (judge_lines_by rules gates_now k n before c ls)
  unfolding judge_lines_by
  lines_became before c [] = same (λ r l e w. away_accepted (sym e))
  lines_became before c (unformed ∷ ls) = same (λ r l e w. unread (at_first before unformed ls (away_is e).1 w))
  lines_became before c (in_form f ∷ ls) =
      go (finds k n before c f) (lines_became (before + 1) (c ++ gates_now n f) ls) (late k n (before + 1) (c ++ gates_now n f) ls)
    where
      next : {i j : Judged} → ((r : Refusal) (l : ℕ) → i ≡ turned_away r l → before + 1 + 2 ≤ l) → Became (MeetsBothAmong k n (before + 1) ls) i j → Became (MeetsBothAmong k n before (in_form f ∷ ls)) i j
      next b (same d) = same (λ r l e w. d r l e (at_later before (in_form f) ls (b r l e) w))
      next b (from_7_to_8 w) = from_7_to_8 (one_on before (in_form f) ls w)

      go : {x y : Found} {i j : Judged} → Finds k n f x y → Became (MeetsBothAmong k n (before + 1) ls) i j → ((r : Refusal) (l : ℕ) → i ≡ turned_away r l → before + 1 + 2 ≤ l)
          → Became (MeetsBothAmong k n before (in_form f ∷ ls)) (or_else x (before + 2) i) (or_else y (before + 2) j)
      go (meets_both w) t b = unfold or_else in from_7_to_8 {l = before + 2} (record { place = 0; form = f; its_line = omega arith; reads = refl; meets = w })
      go (alike {x = sound} d) t b = unfold or_else in next b t
      go (alike {x = breaks r} d) t b = unfold or_else in same (λ q l e w. d (subst (MeetsBoth k n) (sym (form_is (at_first before (in_form f) ls (away_is e).1 w))) w.meets))

-- ---- the text

module _ (k : Kind) (s : List ℕ) where
  -- before line 2 nothing changed
  early_became : (r : Refusal) (l : ℕ) → l ≤ 1 → Became (MeetsBothAt k s) (turned_away r l) (turned_away r l)
  early_became r l h = same {j = turned_away r l} (λ q m e w. let u : l ≡ m = cc in omega (arith, h, u, w.among.its_line))

  -- by what is found at line 1, or before it
  pub became_next : (x : Found) (l : ℕ) {i j : Judged} → l ≤ 1 → Became (MeetsBothAt k s) i j → Became (MeetsBothAt k s) (or_else x l i) (or_else x l j)
  unfolding or_else
  became_next sound l h t = t
  became_next (breaks r) l h t = early_became r l h

  -- its lines after line 1
  among_others : (n : ℕ) (ls : List Line) {i j : Judged} → read_all (cut s) ≡ in_form (lines n) ∷ ls → Became (MeetsBothAmong k n 0 ls) i j → Became (MeetsBothAt k s) i j
  among_others n ls q (from_7_to_8 w) = from_7_to_8 (record { number = n; others = ls; all_lines = q; among = w })
  among_others n ls q (same f) = same (λ r l e w. f r l e (there (sym q ∙ w.all_lines) w.among))
    where
      there : {m : ℕ} {ms : List Line} {l : ℕ} → in_form (lines n) ∷ ls ≡ in_form (lines m) ∷ ms → MeetsBothAmong k m 0 ms l → MeetsBothAmong k n 0 ls l
      there {m} {ms} e w = let u : ls ≡ ms = cc in let v : n ≡ m = cc in rw (u, v) w

  text_became : (ls : List Line) → read_all (cut s) ≡ ls → Became (MeetsBothAt k s) (judge_text_now k ls) (judge_text_by rules gates_now k ls)
  unfolding judge_text_by
  text_became [] q = early_became Malformed 1 (omega arith)
  text_became (unformed ∷ ls) q = early_became Malformed 1 (omega arith)
  text_became (in_form (lines n) ∷ ls) q = became_next (first (head_rules n)) 1 (omega arith) (among_others n ls q (lines_became k n 0 [] ls))
  text_became (in_form (keep l) ∷ ls) q = early_became Malformed 1 (omega arith)
  text_became (in_form (gate g) ∷ ls) q = early_became Malformed 1 (omega arith)
  text_became (in_form (mct cs t) ∷ ls) q = early_became Malformed 1 (omega arith)

  -- every text without a keep line: 8 where 7 was given at a line that meets both rules, and else the same judgement
  pub judged_became : Unkept k s → Became (MeetsBothAt k s) (now.judge k s) (judge k s)
  unfolding judge
  judged_became u = rw (unkept_judged k s u) (text_became (read_all (cut s)) refl)

-- ---- "Answers that change: exactly those"

8_is_not_7 : {l m : ℕ} → turned_away NoSpare l ≡ turned_away TooWide m → ⊥
8_is_not_7 e = let z = ap number_of (away_is e).0 in omega arith

module _ {At : ℕ → Type 0} where
  became_changed : {i j : Judged} → Became At i j → i ≢ j → (r : Refusal) × (l : ℕ) × (j ≡ turned_away r l) × At l
  became_changed (same n) c = absurd (c refl)
  became_changed (from_7_to_8 {l} w) c = (TooWide, l, refl, w)

  -- an answer that was given at such a line was 7, and is 8 at that line
  pub became_8 : {i j : Judged} → Became At i j → {r : Refusal} {l : ℕ} → j ≡ turned_away r l → At l → (r ≡ TooWide) × (i ≡ turned_away NoSpare l)
  became_8 (same n) {r} {l} e w = absurd (n r l e w)
  became_8 (from_7_to_8 v) e w = let u = away_is e in (sym u.0, ap (turned_away NoSpare) u.1)

  -- and any other is as it was
  pub became_same : {i j : Judged} → Became At i j → ((r : Refusal) (l : ℕ) → j ≡ turned_away r l → At l → ⊥) → i ≡ j
  became_same (same f) n = refl
  became_same (from_7_to_8 {l} w) n = absurd (n TooWide l refl w)

module _ (k : Kind) (s : List ℕ) (u : Unkept k s) where
  -- given at a line that meets both rules
  pub now_8 : {r : Refusal} {l : ℕ} → judge k s ≡ turned_away r l → MeetsBothAt k s l → (r ≡ TooWide) × (now.judge k s ≡ turned_away NoSpare l)
  now_8 = became_8 (judged_became k s u)

  -- an answer changed exactly if it was
  pub changes : (now.judge k s ≢ judge k s) ↔ ((r : Refusal) × (l : ℕ) × (judge k s ≡ turned_away r l) × MeetsBothAt k s l)
  changes = (became_changed (judged_became k s u), λ w e. let x = now_8 w.2 w.3 in 8_is_not_7 (sym x.1 ∙ e ∙ w.2 ∙ ap (λ (r : Refusal). turned_away r w.1) x.0))

-- ---- circuit texts are judged as they were: their gates have at most one control

none_in_circuits : (n : ℕ) (f : Form) → MeetsBoth Circuit n f → ⊥
unfolding rules_now now.rules controls belongs
none_in_circuits n (lines m) w = omega (arith, w.wide)
none_in_circuits n (keep l) w = omega (arith, w.wide)
none_in_circuits n (gate (Not t)) w = omega (arith, w.wide)
none_in_circuits n (gate (Powered p c t)) w = omega (arith, w.wide)
none_in_circuits n (mct cs t) w = true≢false (kept Malformed true _ w.passes).0

pub circuits_before : (s : List ℕ) → now.judge Circuit s ≡ judge Circuit s
circuits_before s = became_same (judged_became Circuit s tt) (λ r l e w. none_in_circuits w.number w.among.form w.among.meets)
