-- A line by its word: what the parser of text's Reading gives for each kind of line, told by the reader's parts. Assumes nothing.
use mathlib.Core.Path.{◌≡◌, refl, sym, ap, ◌∙◌}
use mathlib.Core.Logic.{◌≢◌}
use mathlib.Core.Bool.{Bool, true, false, cond, not, ◌&&◌, ◌||◌, and-eq-true_iff}
use mathlib.Core.List.{List, [], ◌∷◌}
use native.Mathlib.Omega.{arith}
use Prim.Native.Nat.{ℕ, ◌+◌, ◌≤◌}
use lib.Dec.{eqb}
use lib.ListN.{length, drop, length-drop, length-append}
use borrow.Author.Tests.{eq-eqb, ne_eqb, eqb-true}
use Rattle.gates.specs.declared.Gate.TheVariants.{Not, Powered}
use Rattle.cascades.specs.declared.Control.{Control}
use Rattle.cascades.specs.Control.{control_lines, negated_lines}
use Rattle.text.specs.Text.{Form, lines, keep, gate, mct, bytes}
use Rattle.text.specs.Heads.{unkept}
use Rattle.text.specs.Reading.{Got, got, none, bind, if_got, strip, num, tail, pair, with_sign, signed, control, controls, list, many, without_sign, numbers, lines_body, keep_body, not_body, mct_body, powered_body, parse}
use Rattle.text.proofs.Printed.{none_got, no_signs, strip_sound}
use Rattle.gathering.proofs.Gathered.{negated_are}
use Rattle.gathering.specs.declared.Controls.{Controls}
use Rattle.std.proofs.Common.{Option, Some, None}
use Rattle.tokens.specs.declared.Parsed.{Parsed}
use Rattle.tokens.specs.Seen.{delimited, tells}
use Rattle.reading.specs.declared.Mct.{Mct}
use Rattle.gathering.specs.Gathering.{gathered}
use Rattle.reading.specs.Seen.{only_head, only_keep, only_gate, only_mct, all_gathered, with_gathered, kept_gathered, followed, two_after, powered_after}

-- ---- a text begins with at most one of two words that differ at a place that both have

differ : List ℕ → List ℕ → Bool
differ [] w = false
differ (a ∷ v) [] = false
differ (a ∷ v) (b ∷ w) = not (eqb a b) || differ v w

false_true : false ≡ true → ⊥
false_true = mathlib.Core.Bool.false≢true

strip_differ : (v w s r : List ℕ) → differ v w ≡ true → strip v s ≡ got tt r → strip w s ≡ none
unfolding strip differ
strip_differ [] w s r d e = absurd (false_true d)
strip_differ (a ∷ v) [] s r d e = absurd (false_true d)
strip_differ (a ∷ v) (b ∷ w) [] r d e = refl
strip_differ (a ∷ v) (b ∷ w) (c ∷ s) r d e = go (strip_differ v w s r) (eqb c a) refl e (eqb c b) refl
  where
    go : (differ v w ≡ true → strip v s ≡ got tt r → strip w s ≡ none)
        → (x : Bool) → eqb c a ≡ x → cond x (strip v s) none ≡ got tt r → (y : Bool) → eqb c b ≡ y → cond y (strip w s) none ≡ none
    go f false p h y q = absurd (none_got h)
    go f true p h false q = refl
    go f true p h true q =
        let i : a ≡ b = sym (eqb-true c a p) ∙ eqb-true c b q in
        f (rw (eq-eqb a b i) at d) h

-- the place after a word is as many bytes further
pub word_end : (s w : List ℕ) (at next : ℕ) → strip w (drop at s) ≡ got tt (drop next s) → at ≤ length s → next ≤ length s → next ≡ at + length w
word_end s w at next e h l =
    let n = ap (λ (x : List ℕ). length x) (strip_sound w (drop at s) (drop next s) e) in
    omega (arith, n, length-append w (drop next s), length-drop at s, length-drop next s, h, l)

-- ---- words, each with what stands after it

abbrev Rows : Type 0 → Type 0
Rows B = List (List ℕ × (List ℕ → Got B))

-- the first word that fits decides
by_word : {B : Type 0} → Rows B → List ℕ → Got B
by_word [] s = none
by_word (x ∷ t) s = if_got (strip x.0 s) (λ _. x.1) (by_word t s)

-- the first word that fits with what stands after it
by_line : {B : Type 0} → Rows B → List ℕ → Got B
by_line [] s = none
by_line (x ∷ t) s = if_got (bind (strip x.0 s) (λ _. x.1)) got (by_line t s)

others : {B : Type 0} → List ℕ → Rows B → Bool
others w [] = true
others w (x ∷ t) = differ w x.0 && others w t

apart : {B : Type 0} → Rows B → Bool
apart [] = true
apart (x ∷ t) = others x.0 t && apart t

no_other : {B : Type 0} (w s r : List ℕ) (t : Rows B) → strip w s ≡ got tt r → others w t ≡ true → by_line t s ≡ none
unfolding others by_line
no_other w s r [] e d = refl
no_other w s r (x ∷ t) e d =
    let h = (and-eq-true_iff (differ w x.0) (others w t)).0 d in
    rw (strip_differ w x.0 s r h.0 e) (no_other w s r t e h.1)

or_none : {B : Type 0} (g : Got B) → if_got g got none ≡ g
or_none (got b s) = refl
or_none none = refl

word_line : {B : Type 0} (t : Rows B) (s : List ℕ) → apart t ≡ true → by_word t s ≡ by_line t s
unfolding apart by_word by_line
word_line [] s d = refl
word_line (x ∷ t) s d =
    let h = (and-eq-true_iff (others x.0 t) (apart t)).0 d in
    go (word_line t s h.1) h.0 (strip x.0 s) refl
  where
    go : by_word t s ≡ by_line t s → others x.0 t ≡ true → (g : Got (Unit {0})) → strip x.0 s ≡ g → if_got g (λ _. x.1) (by_word t s) ≡ if_got (bind g (λ _. x.1)) got (by_line t s)
    go h d none e = h
    go h d (got tt r) e = rw (no_other x.0 s r t e d) (sym (or_none (x.1 r)))

-- ---- the parts of a line

-- what was found from a later place on
pub further : {A : Type 0} (s : List ℕ) (at p : ℕ) (g h : Got A) (r : Option (Parsed A)) → at ≤ p → g ≡ h → tells s p h r → tells s at g r
further s at p g h (Some x) l e w = (e ∙ w.0, (omega (arith, l, w.1.0), w.1.1))
further s at p g h None l e w = e ∙ w

module _ {A B C : Type 0} where
  -- a function goes below the first step of a parse
  below : (f : Got B → Got C) → f none ≡ none → (g : Got A) (k : A → List ℕ → Got B) (l : A → List ℕ → Got C) → ((a : A) (r : List ℕ) → f (k a r) ≡ l a r) → f (bind g k) ≡ bind g l
  below f missing (got a r) k l h = h a r
  below f missing none k l h = missing

  -- so do the steps after it
  steps : (n : B → List ℕ → Got C) (g : Got A) (k : A → List ℕ → Got B) (l : A → List ℕ → Got C) → ((a : A) (r : List ℕ) → bind (k a r) n ≡ l a r) → bind (bind g k) n ≡ bind g l
  steps n g k l h = below (λ x. bind x n) refl g k l h

pub two_delimited : (w s : List ℕ) → two_after w s ≡ bind (delimited w [] s) (λ c r. bind (delimited (bytes " ") (bytes ")\n") r) (λ t. got (c, t)))
unfolding two_after pair tail delimited strip
two_delimited w s = sym (steps _ (strip w s) _ _ (λ _ r. steps _ (num r) _ _ (λ c q. steps _ (strip (bytes " ") q) _ _ (λ _ e. refl))))

-- a control by its sign
pub control_signed : (s : List ℕ) → control s ≡ if_got (strip (bytes "-") s) (λ _. followed true) (followed false s)
unfolding control signed followed
control_signed s = go (strip (bytes "-") s)
  where
    go : (g : Got (Unit {0})) → bind {B = Control × Bool} (if_got g (λ _. with_sign true) (with_sign false s)) (λ c r. if_got (strip (bytes " ") r) (λ _. got (c, true)) (bind (strip (bytes ")") r) (λ _. got (c, false)))) ≡ if_got g (λ _. followed true) (followed false s)
    go (got a r) = refl
    go none = refl

module _ (b : Bool) where
  -- the control with this sign
  abbrev pub control_at : ℕ → Control
  control_at c = record { line = c; negated = b }

  pub followed_delimited : (s : List ℕ) → followed b s ≡ if_got {B = Control × Bool} (delimited [] (bytes " ") s) (λ c. got (control_at c, true)) (bind (delimited [] (bytes ")") s) (λ c. got (control_at c, false)))
  unfolding followed delimited strip
  followed_delimited s = go (num s)
    where
      ends : (c : ℕ) (g h : Got (Unit {0})) → if_got {B = Control × Bool} g (λ _. got (control_at c, true)) (bind h (λ _. got (control_at c, false))) ≡ if_got (bind g (λ _. got c)) (λ d. got (control_at d, true)) (bind (bind h (λ _. got c)) (λ d. got (control_at d, false)))
      ends c (got a r) h = refl
      ends c none (got a r) = refl
      ends c none none = refl

      go : (g : Got ℕ) → bind {B = Control × Bool} (bind g (λ c. got (control_at c))) (λ c r. if_got (strip (bytes " ") r) (λ _. got (c, true)) (bind (strip (bytes ")") r) (λ _. got (c, false))))
          ≡ if_got (bind g (λ c r. bind (strip (bytes " ") r) (λ _. got c))) (λ c. got (control_at c, true)) (bind (bind g (λ c r. bind (strip (bytes ")") r) (λ _. got c))) (λ c. got (control_at c, false)))
      go (got c r) = ends c (strip (bytes " ") r) (strip (bytes ")") r)
      go none = refl

-- ---- the lines of one kind

abbrev powered : ℕ → ℕ × ℕ → Form
powered p c = gate (Powered p c.0 c.1)

module _ {B : Type 0} (only : Got Form → Got B) (missing : only none ≡ none) where
  -- what is kept of the forms that stand after a word
  abbrev kept : {A : Type 0} → (List ℕ → Got A) → (A → Form) → List ℕ → Got B
  kept p form s = bind (p s) (λ a r. only (got (form a) r))

  rows : Rows B
  rows =
      (bytes "(lines ", kept tail lines)
      ∷ (bytes "(keep ", kept numbers keep)
      ∷ (bytes "(not ", kept tail (λ t. gate (Not t)))
      ∷ (bytes "(cn ", kept pair (powered 2))
      ∷ (bytes "(v ", kept pair (powered 1))
      ∷ (bytes "(vp ", kept pair (powered 3))
      ∷ (bytes "(mct (", kept many (λ p. mct p.0 p.1))
      ∷ []

  body : {A : Type 0} (p : List ℕ → Got A) (form : A → Form) (s : List ℕ) → only (bind (p s) (λ a. got (form a))) ≡ kept p form s
  body p form s = below only missing (p s) _ _ (λ a r. refl)

  row : {A : Type 0} (g : Got (Unit {0})) (p : List ℕ → Got A) (form : A → Form) {z : Got Form} {y : Got B} → only z ≡ y → only (if_got g (λ _ s. bind (p s) (λ a. got (form a))) z) ≡ if_got g (λ _. kept p form) y
  row (got a s) p form h = body p form s
  row none p form h = h

  last_row : {A : Type 0} (g : Got (Unit {0})) (p : List ℕ → Got A) (form : A → Form) → only (bind g (λ _ s. bind (p s) (λ a. got (form a)))) ≡ if_got g (λ _. kept p form) none
  last_row (got a s) p form = body p form s
  last_row none p form = missing

  only_parse : (s : List ℕ) → only (parse s) ≡ by_line rows s
  unfolding parse rows by_word apart others differ lines_body keep_body not_body powered_body mct_body
  only_parse s =
      row (strip (bytes "(lines ") s) tail lines
      (row (strip (bytes "(keep ") s) numbers keep
      (row (strip (bytes "(not ") s) tail (λ t. gate (Not t))
      (row (strip (bytes "(cn ") s) pair (powered 2)
      (row (strip (bytes "(v ") s) pair (powered 1)
      (row (strip (bytes "(vp ") s) pair (powered 3)
      (last_row (strip (bytes "(mct (") s) many (λ p. mct p.0 p.1)))))))
      ∙ word_line rows s refl

-- a row of another kind
other_row : {A B : Type 0} (g : Got (Unit {0})) (p : List ℕ → Got A) (z : Got B) → if_got (bind g (λ _ s. bind {B = B} (p s) (λ _ _. none))) got z ≡ z
other_row {A} {B} (got a s) p z = go (p s)
  where
    go : (h : Got A) → if_got (bind {B = B} h (λ _ _. none)) got z ≡ z
    go (got a r) = refl
    go none = refl
other_row none p z = refl

-- a row of the kind
own_row : {A B : Type 0} (g : Got (Unit {0})) (p : List ℕ → Got A) (k : A → B) (z : Got B) → if_got (bind g (λ _ s. bind (p s) (λ a. got (k a)))) got z ≡ if_got (bind g (λ _. p)) (λ a. got (k a)) z
own_row {A} (got a s) p k z = go (p s)
  where
    go : (h : Got A) → if_got (bind h (λ a. got (k a))) got z ≡ if_got h (λ a. got (k a)) z
    go (got a r) = refl
    go none = refl
own_row none p k z = refl

pub head_is : (s : List ℕ) → only_head (parse s) ≡ if_got (delimited (bytes "(lines ") (bytes ")\n") s) (λ n. got (unkept n)) none
unfolding only_head by_line rows delimited tail
head_is s = only_parse only_head refl s ∙ simp (other_row, own_row)

-- numbers that were gathered, where none of them has a sign
abbrev pub unsigned_gathered : Controls → List ℕ → Got Controls
unsigned_gathered a s = cond (eqb a.negated.count 0) (got a s) none

numbers_gathered : (s : List ℕ) → kept_gathered (numbers s) ≡ bind (all_gathered (controls (length s) s)) (λ a r. bind (strip (bytes "\n") r) (λ _. unsigned_gathered a))
unfolding numbers all_gathered without_sign kept_gathered
numbers_gathered s =
    steps _ (controls (length s) s) _ _ (λ cs r. steps _ (strip (bytes "\n") r) _ _ (λ _ q. signs cs q))
    ∙ sym (steps _ (controls (length s) s) _ _ (λ cs r. refl))
  where
    signs : (cs : List Control) (q : List ℕ) → kept_gathered (without_sign cs q) ≡ unsigned_gathered (gathered cs) q
    signs cs q = go (eqb (length (negated_lines cs)) 0) refl ∙ ap (λ (n : ℕ). cond (eqb n 0) (got (gathered cs) q) none) (sym (negated_are cs).count)
      where
        go : (b : Bool) → eqb (length (negated_lines cs)) 0 ≡ b → kept_gathered (cond b (got (control_lines cs) q) none) ≡ cond b (got (gathered cs) q) none
        go true e = let w = no_signs cs (eqb-true (length (negated_lines cs)) 0 e) in ap (λ (ds : List Control). got (gathered ds) q) (sym w)
        go false e = refl

pub keep_is : (s : List ℕ) → kept_gathered (only_keep (parse s)) ≡ bind (strip (bytes "(keep ") s) (λ _ r. bind (all_gathered (controls (length r) r)) (λ a q. bind (strip (bytes "\n") q) (λ _. unsigned_gathered a)))
unfolding only_keep by_line rows kept_gathered
keep_is s = only_parse (λ g. kept_gathered (only_keep g)) refl s ∙ simp other_row (or_none _ ∙ below (λ g. g) refl (strip (bytes "(keep ") s) _ _ (λ _ r. numbers_gathered r))

-- the numbers were gathered: a sign is not in form, whatever comes after them; without one the line's end decides
module _ (s : List ℕ) (at : ℕ) {r : List ℕ} {a : Controls} (q : ℕ) (k : strip (bytes "(keep ") (drop at s) ≡ got tt r) (g : all_gathered (controls (length r) r) ≡ got a (drop q s)) where
  keep_ends : kept_gathered (only_keep (parse (drop at s))) ≡ bind (strip (bytes "\n") (drop q s)) (λ _. unsigned_gathered a)
  keep_ends = keep_is (drop at s) ∙ rw (k, g)

  pub keep_signed : a.negated.count ≢ 0 → kept_gathered (only_keep (parse (drop at s))) ≡ none
  keep_signed n = keep_ends ∙ go (strip (bytes "\n") (drop q s))
    where
      go : (x : Got (Unit {0})) → bind x (λ _. unsigned_gathered a) ≡ none
      go (got u t) = rw (ne_eqb a.negated.count 0 n)
      go none = refl

  pub keep_unended : a.negated.count ≡ 0 → strip (bytes "\n") (drop q s) ≡ none → kept_gathered (only_keep (parse (drop at s))) ≡ none
  keep_unended z e = keep_ends ∙ rw e

  pub keep_found : a.negated.count ≡ 0 → (next : ℕ) → strip (bytes "\n") (drop q s) ≡ got tt (drop next s) → kept_gathered (only_keep (parse (drop at s))) ≡ got a (drop next s)
  keep_found z next e = keep_ends ∙ rw (e, eq-eqb a.negated.count 0 z)

module _ (s : List ℕ) where
  -- the row of a power, and how the reader takes it
  row_read : (w : List ℕ) (p : ℕ) → bind (strip w s) (λ _ r. bind (pair r) (λ c. got (Powered p c.0 c.1))) ≡ powered_after w p s
  unfolding two_after powered_after
  row_read w p = sym (steps _ (strip w s) _ _ (λ _ r. refl))

  pub gate_is : only_gate (parse s) ≡ if_got (delimited (bytes "(not ") (bytes ")\n") s) (λ t. got (Not t)) (if_got (powered_after (bytes "(cn ") 2 s) got (if_got (powered_after (bytes "(v ") 1 s) got (powered_after (bytes "(vp ") 3 s)))
  unfolding only_gate by_line rows delimited tail
  gate_is =
      only_parse only_gate refl s
      ∙ simp other_row
      (own_row (strip (bytes "(not ") s) tail Not _
      ∙ rw (or_none, row_read (bytes "(cn ") 2, row_read (bytes "(v ") 1, row_read (bytes "(vp ") 3))

-- what is read of a line of a cascade
abbrev pub mct_of : Controls → ℕ → Mct
mct_of a t = record { controls = a; target = t }

many_gathered : (s : List ℕ) → bind (many s) (λ p. got (mct_of (gathered p.0) p.1)) ≡ bind (all_gathered (list s)) (λ a r. bind (delimited (bytes " ") (bytes ")\n") r) (λ t. got (mct_of a t)))
unfolding many all_gathered delimited tail
many_gathered s =
    steps _ (list s) _ _ (λ cs r. steps _ (strip (bytes " ") r) _ _ (λ _ q. steps _ (tail q) _ _ (λ t e. refl)))
    ∙ sym (steps _ (list s) _ _ (λ cs r. steps _ (strip (bytes " ") r) _ _ (λ _ q. refl)))

pub mct_is : (s : List ℕ) → with_gathered (only_mct (parse s)) ≡ bind (strip (bytes "(mct (") s) (λ _ r. bind (all_gathered (list r)) (λ a q. bind (delimited (bytes " ") (bytes ")\n") q) (λ t. got (mct_of a t))))
unfolding only_mct with_gathered by_line rows
mct_is s = only_parse (λ g. with_gathered (only_mct g)) refl s ∙ simp other_row (or_none _ ∙ below (λ g. g) refl (strip (bytes "(mct (") s) _ _ (λ _ r. many_gathered r))
