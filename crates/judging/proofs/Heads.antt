-- Line 1 of a text and the keep line, as the code judges them. Assumes nothing.
use mathlib.Core.Path.{◌≡◌, refl, sym, ap, ◌∙◌}
use mathlib.Core.Logic.{◌≢◌}
use mathlib.Core.Bool.{true, false, ◌&&◌}
use mathlib.Core.List.{List, [], ◌∷◌, ◌++◌}
use Prim.Native.Nat.{ℕ, ◌≤◌, ◌<◌}
use native.Mathlib.Omega.{arith}
use lib.ListN.{length, drop, length-append, length-drop}
use lib.Dec.{leb}
use borrow.Author.Tests.{leb-true, lt-leb, le-leb}
use Rattle.meaning.proofs.Flips.{both}
use Rattle.meaning.specs.Pattern.{number, has}
use Rattle.cascades.proofs.Halves.{below_more}
use Rattle.cascades.proofs.Signless.{positive_lines}
use Rattle.text.specs.declared.Refusal.TheVariants.{Malformed, NoSuchLine, Unsorted}
use Rattle.text.specs.declared.Head.{Head}
use Rattle.text.specs.Text.{Form, lines, keep, gate, mct, unsigned, render, Proper}
use Rattle.text.specs.Reading.{Got, got, none, parse, Line, in_form, unformed, cut}
use Rattle.text.specs.declared.Kind.{Kind}
use Rattle.text.specs.declared.Kind.TheVariants.{Cascade}
use Rattle.text.specs.Heads.{head_of, unkept}
use Rattle.text.specs.Judging.{turned_away, any_from, rising, first, head_rules, keep_rules, or_else, judge_lines, rest_by, rest, judge_rest, judge_text, read_all, judge}
use Rattle.text.proofs.Printed.{none_got, parse_sound}
use Rattle.text.proofs.Heads.{kept_some}
use Rattle.text.proofs.Accepted.{all_below}
use Rattle.text.proofs.Cursor.{at_form, at_bad, at_end}
use Rattle.gathering.specs.declared.Controls.{Controls}
use Rattle.gathering.specs.Gathering.{gathered}
use Rattle.gathering.proofs.Gathered.{rising_is, largest_is, mark_is}
use Rattle.reading.specs.Seen.{only_head, only_keep, kept_gathered}
use Rattle.spares.specs.Marks.{marked_number}
use Rattle.spares.proofs.Sets.{marked_packed}
use Rattle.judging.specs.Seen.{judge_at, HasHead, HasKeep}

-- a number of lines is in range
pub range_low : (n : ℕ) → n < 1 → false ≡ (leb 1 n && leb n 32)
range_low n h = rw (lt-leb 1 n h)

pub range_high : (n : ℕ) → 1 ≤ n → leb n 32 ≡ (leb 1 n && leb n 32)
range_high n h = rw (le-leb 1 n h)

range : (n : ℕ) → (leb 1 n && leb n 32) ≡ true → (1 ≤ n) × (n ≤ 32)
range n e = let u = both (leb 1 n) (leb n 32) e in (leb-true 1 n u.0, leb-true n 32 u.1)

module _ (k : Kind) where
  pub no_head : (s : List ℕ) → only_head (parse s) ≡ none → judge k s ≡ turned_away Malformed 1
  unfolding judge
  no_head s e = go (parse s) refl e
    where
      unread : (s : List ℕ) → parse s ≡ none → judge_text k (read_all (cut s)) ≡ turned_away Malformed 1
      unread [] q = ap (judge_text k) at_end ∙ unfold judge_text in refl
      unread (b ∷ s) q = let w = at_bad b s q in ap (judge_text k) w.1 ∙ unfold judge_text in refl

      go : (x : Got Form) → parse s ≡ x → only_head x ≡ none → judge_text k (read_all (cut s)) ≡ turned_away Malformed 1
      go none q z = unread s q
      go (got (lines n) r) q z = absurd (unfold only_head in none_got (sym z))
      go (got (keep l) r) q z = ap (judge_text k) (at_form s (keep l) r q) ∙ unfold judge_text in refl
      go (got (gate g) r) q z = ap (judge_text k) (at_form s (gate g) r q) ∙ unfold judge_text in refl
      go (got (mct cs t) r) q z = ap (judge_text k) (at_form s (mct cs t) r q) ∙ unfold judge_text in refl

  only_head_is : (x : Got Form) {h : Head} {r : List ℕ} → only_head x ≡ got h r → (x ≡ got (lines h.lines) r) × (h ≡ unkept h.lines)
  unfolding only_head
  only_head_is none e = absurd (none_got e)
  only_head_is (got (keep l) s) e = absurd (none_got e)
  only_head_is (got (gate g) s) e = absurd (none_got e)
  only_head_is (got (mct cs t) s) e = absurd (none_got e)
  only_head_is (got (lines n) s) {h} {r} e =
      let q : unkept n ≡ h = cc in
      let u : s ≡ r = cc in
      let i : n ≡ h.lines = ap (λ (g : Head). g.lines) q in
      (rw (i, u), sym q ∙ ap unkept i)

  a_head : (s : List ℕ) {h : Head} {r : List ℕ} → only_head (parse s) ≡ got h r → judge k s ≡ or_else (first (head_rules h.lines)) 1 (judge_rest k h.lines (rest k (read_all (cut r))))
  unfolding judge judge_text
  a_head s {h} {r} e = ap (judge_text k) (at_form s (lines h.lines) r (only_head_is (parse s) e).0)

  pub head_outside : (s : List ℕ) {h : Head} {r : List ℕ} → only_head (parse s) ≡ got h r → (leb 1 h.lines && leb h.lines 32) ≡ false → judge k s ≡ turned_away NoSuchLine 1
  unfolding first head_rules or_else
  head_outside s e q = a_head s e ∙ rw q

  head_inside : (s : List ℕ) {h : Head} {r : List ℕ} → only_head (parse s) ≡ got h r → (leb 1 h.lines && leb h.lines 32) ≡ true → judge k s ≡ judge_rest k h.lines (rest k (read_all (cut r)))
  unfolding first head_rules or_else
  head_inside s e q = a_head s e ∙ rw q

-- the code's answer, where line 1 keeps the rules
pub has_head : (s : List ℕ) (at : ℕ) {h : Head} {next : ℕ} → only_head (parse (drop at s)) ≡ got h (drop next s) → (leb 1 h.lines && leb h.lines 32) ≡ true → (at < next) × (next ≤ length s) → HasHead s at h next
unfolding judge_at
has_head s at {h} e q a = let w = range h.lines q in record {
  judged = λ k. head_inside k (drop at s) e q;
  keeps_none = (only_head_is Cascade (parse (drop at s)) e).1;
  some = w.0;
  narrow = w.1;
  ahead = a.0;
  inside = a.1;
}

-- ---- the keep line

-- what stands there is no keep line
no_keep_form : (n : ℕ) (x : Line) (ls : List Line) → ((l : List ℕ) → x ≢ in_form (keep l)) → judge_rest Cascade n (rest Cascade (x ∷ ls)) ≡ judge_lines Cascade (unkept n) 0 [] (x ∷ ls)
unfolding judge_rest rest rest_by keep_rules any_from rising first or_else head_of number has
no_keep_form n unformed ls w = refl
no_keep_form n (in_form (keep l)) ls w = absurd (w l refl)
no_keep_form n (in_form (lines m)) ls w = refl
no_keep_form n (in_form (gate g)) ls w = refl
no_keep_form n (in_form (mct cs t)) ls w = refl

form_is : {f g : Form} → in_form f ≡ in_form g → f ≡ g
form_is e = cc

unread : {f : Form} → unformed ≡ in_form f → ⊥
unread e = let z : ◌≡◌ {A = ℕ} 0 1 = cc in omega arith

pub no_keep : (n : ℕ) (s : List ℕ) → only_keep (parse s) ≡ none → judge_rest Cascade n (rest Cascade (read_all (cut s))) ≡ judge_lines Cascade (unkept n) 0 [] (read_all (cut s))
no_keep n s e = go s (parse s) refl e
  where
    other : (f : Form) (r : List ℕ) → only_keep (got f r) ≡ none → (l : List ℕ) → in_form f ≢ in_form (keep l)
    other (keep m) r e l q = unfold only_keep in none_got (sym e)
    other (lines m) r e l q = let z : ◌≡◌ {A = ℕ} 0 1 = let i = form_is q in cc in omega arith
    other (gate g) r e l q = let z : ◌≡◌ {A = ℕ} 0 1 = let i = form_is q in cc in omega arith
    other (mct cs t) r e l q = let z : ◌≡◌ {A = ℕ} 0 1 = let i = form_is q in cc in omega arith

    go : (s : List ℕ) (x : Got Form) → parse s ≡ x → only_keep x ≡ none → judge_rest Cascade n (rest Cascade (read_all (cut s))) ≡ judge_lines Cascade (unkept n) 0 [] (read_all (cut s))
    go s (got f r) q z = rw (at_form s f r q) (no_keep_form n (in_form f) (read_all (cut r)) (other f r z))
    go [] none q z = rw at_end (unfold judge_rest rest keep_rules any_from rising first or_else head_of number has in refl)
    go (b ∷ s) none q z = let w = at_bad b s q in rw w.1 (no_keep_form n unformed w.0 (λ l e. unread e))

only_keep_is : (x : Got Form) {l r : List ℕ} → only_keep x ≡ got l r → x ≡ got (keep l) r
unfolding only_keep
only_keep_is none e = absurd (none_got e)
only_keep_is (got (lines n) s) e = absurd (none_got e)
only_keep_is (got (gate g) s) e = absurd (none_got e)
only_keep_is (got (mct cs t) s) e = absurd (none_got e)
only_keep_is (got (keep m) s) {l} {r} e = let i : m ≡ l = cc in let u : s ≡ r = cc in rw (i, u)

a_keep : (n : ℕ) (s : List ℕ) {l r : List ℕ} → only_keep (parse s) ≡ got l r → judge_rest Cascade n (rest Cascade (read_all (cut s))) ≡ or_else (first (keep_rules n l)) 2 (judge_lines Cascade (head_of n l) 0 [] (read_all (cut r)))
a_keep n s {l} {r} e = ap (λ (ls : List Line). judge_rest Cascade n (rest Cascade ls)) (at_form s (keep l) r (only_keep_is (parse s) e)) ∙ unfold judge_rest rest rest_by in refl

pub gathered_none : (x : Got (List ℕ)) → kept_gathered x ≡ none → x ≡ none
unfolding kept_gathered
gathered_none none e = refl
gathered_none (got l s) e = absurd (none_got (sym e))

-- what was gathered of its numbers
module _ (n : ℕ) (l : List ℕ) {a : Controls} (q : a ≡ gathered (unsigned l)) where
  numbers_outside : 1 ≤ n → any_from n l ≡ leb n a.largest
  numbers_outside h = sym (ap (any_from n) (positive_lines l)) ∙ largest_is n (unsigned l) h ∙ ap (λ (b : Controls). leb n b.largest) (sym q)

  numbers_rising : rising l ≡ a.rising
  numbers_rising = sym (ap rising (positive_lines l)) ∙ sym (rising_is (unsigned l)) ∙ ap (λ (b : Controls). b.rising) (sym q)

  numbers_packed : marked_number a.marks ≡ (head_of n l).kept
  unfolding head_of
  numbers_packed = ap (λ (b : Controls). marked_number b.marks) q ∙ marked_packed (gathered (unsigned l)).marks l (λ x y. mark_is (unsigned l) x y ∙ ap (has x) (positive_lines l))

-- the form of the line, of which this was gathered
numbers_of : (s : List ℕ) {a : Controls} {r : List ℕ} → kept_gathered (only_keep (parse s)) ≡ got a r → (l : List ℕ) × (only_keep (parse s) ≡ got l r) × (a ≡ gathered (unsigned l)) × Proper (keep l) × (s ≡ render (keep l) ++ r)
numbers_of s {a} {r} e = go (only_keep (parse s)) refl e
  where
    go : (x : Got (List ℕ)) → only_keep (parse s) ≡ x → kept_gathered x ≡ got a r → (l : List ℕ) × (only_keep (parse s) ≡ got l r) × (a ≡ gathered (unsigned l)) × Proper (keep l) × (s ≡ render (keep l) ++ r)
    go none q z = absurd (unfold kept_gathered in none_got z)
    go (got l t) q z =
        let p : got (gathered (unsigned l)) t ≡ got a r = unfold kept_gathered in z in
        let i : gathered (unsigned l) ≡ a = cc in
        let u : t ≡ r = cc in
        let w : only_keep (parse s) ≡ got l r = q ∙ ap (got l) u in
        let y = parse_sound s (keep l) r (only_keep_is (parse s) w) in
        (l, w, sym i, y.1, y.0)

module _ (n : ℕ) (s : List ℕ) {a : Controls} {r : List ℕ} (e : kept_gathered (only_keep (parse s)) ≡ got a r) (h : 1 ≤ n) where
  pub keep_outside : n ≤ a.largest → judge_rest Cascade n (rest Cascade (read_all (cut s))) ≡ turned_away NoSuchLine 2
  unfolding first keep_rules or_else
  keep_outside k = let w = numbers_of s e in a_keep n s w.1 ∙ rw (numbers_outside n w.0 w.2 h ∙ le-leb n a.largest k)

  pub keep_unsorted : a.largest < n → a.rising ≡ false → judge_rest Cascade n (rest Cascade (read_all (cut s))) ≡ turned_away Unsorted 2
  unfolding first keep_rules or_else
  keep_unsorted k q = let w = numbers_of s e in a_keep n s w.1 ∙ rw (numbers_outside n w.0 w.2 h ∙ lt-leb n a.largest k, numbers_rising n w.0 w.2 ∙ q)

  -- the head that the line makes
  abbrev made_head : Head
  made_head = record { lines = n; kept = marked_number a.marks }

  keep_taken : a.largest < n → a.rising ≡ true → judge_rest Cascade n (rest Cascade (read_all (cut s))) ≡ judge_lines Cascade made_head 0 [] (read_all (cut r))
  unfolding first keep_rules or_else head_of
  keep_taken k q = let w = numbers_of s e in a_keep n s w.1 ∙ rw (numbers_outside n w.0 w.2 h ∙ lt-leb n a.largest k, numbers_rising n w.0 w.2 ∙ q, ← (numbers_packed n w.0 w.2))

  keeps_some : n ≤ 32 → a.largest < n → a.rising ≡ true → marked_number a.marks ≢ 0
  keeps_some b k q z = let w = numbers_of s e in go w.0 w.3 (numbers_outside n w.0 w.2 h ∙ lt-leb n a.largest k) (numbers_rising n w.0 w.2 ∙ q) (sym (numbers_packed n w.0 w.2) ∙ z)
    where
      go : (l : List ℕ) → Proper (keep l) → any_from n l ≡ false → rising l ≡ true → (head_of n l).kept ≡ 0 → ⊥
      go [] p i j z = p
      go (c ∷ l) p i j z = kept_some n c l (below_more n 32 (c ∷ l) b (all_below n (c ∷ l) i)) j z

-- the code's answer, where the keep line keeps its rules; it has some bytes
pub has_keep : (n : ℕ) (s : List ℕ) (at : ℕ) {a : Controls} {next : ℕ} → kept_gathered (only_keep (parse (drop at s))) ≡ got a (drop next s) → 1 ≤ n → n ≤ 32 → a.largest < n → a.rising ≡ true → next ≤ length s → HasKeep s at n (record { lines = n; kept = marked_number a.marks }) next
unfolding judge_at
has_keep n s at {a} {next} e h b k q i = record {
  judged = keep_taken n (drop at s) e h k q;
  lines = refl;
  some = keeps_some n (drop at s) e h b k q;
  ahead = further (numbers_of (drop at s) e).0 (numbers_of (drop at s) e).4;
  inside = i;
}
  where
    further : (l : List ℕ) → drop at s ≡ render (keep l) ++ drop next s → at < next
    further l z = unfold render in omega (arith, ap length z, length-append (render (keep l)) (drop next s), length-drop at s, length-drop next s, some_bytes l)
      where
        some_bytes : (l : List ℕ) → 1 ≤ length (render (keep l))
        some_bytes l = unfold render in omega arith
