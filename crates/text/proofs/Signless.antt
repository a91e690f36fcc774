-- Every text without a keep line is judged as it was before controls had signs (`Unsigned.antt`), but for a cascade with a negated control, which was
-- malformed at its line; so every such text without a minus sign is, and every circuit text. Assumes nothing.
use mathlib.Core.Path.{◌≡◌, refl, sym, ap, ◌∙◌}
use mathlib.Core.Logic.{◌⊎◌, inl, inr, ◌≢◌}
use mathlib.Core.Bool.{Bool, true, false, cond}
use mathlib.Core.List.{List, [], ◌∷◌, ◌++◌}
use Prim.Native.Nat.{ℕ, zero, suc, ◌+◌}
use native.Mathlib.Omega.{arith}
use lib.ListN.{length, drop, get_or}
use lib.Dec.{eqb}
use Rattle.gates.specs.Every.{Every}
use Rattle.gates.specs.declared.Gate.{Gate}
use Rattle.gates.specs.declared.Gate.TheVariants.{Not, Powered}
use Rattle.meaning.specs.Pattern.{has}
use Rattle.meaning.proofs.Flips.{has_append, neither}
use Rattle.cascades.specs.declared.Control.{Control}
use Rattle.cascades.specs.Control.{positive, control_lines, negated_lines}
use Rattle.cascades.specs.Expansion.{expansion}
use Rattle.cascades.proofs.Signless.{positives, none_negated, signless_expansion}
use Rattle.text.specs.declared.Kind.{Kind}
use Rattle.text.specs.declared.Kind.TheVariants.{Cascade, Circuit}
use Rattle.text.specs.declared.Refusal.TheVariants.{Malformed}
use Rattle.text.specs.Text.{Form, lines, keep, gate, mct, bytes, digits, written, spaced, one, render}
use Rattle.text.specs.Reading as now
use Rattle.text.specs.Reading.{Got, got, none, bind, if_got, strip, num, tail, pair, numbers, signed, lines_body, keep_body, not_body, powered_body, Line, in_form, unformed, whole, longer, cut}
use Rattle.cascades.specs.LineSets.{unpacked}
use Rattle.text.specs.Heads.{kept_lines}
use Rattle.text.specs.Judging as now_judged
use Rattle.text.specs.Judging.{Judged, turned_away, controls, target, belongs, Found, sound, breaks, first, head_rules, or_else}
use Rattle.text.proofs.Unsigned.{control, some_controls, list, many, mct_body, parse, read, gates, read_all, judge}
use Rattle.text.proofs.JudgedBy.{judge_lines_by, judge_text_by, rules_now, gates_now, judge_lines_now, judge_text_now, Unkept, unkept_judged, rules, judge_lines, judge_text}
use Rattle.text.proofs.Printed.{none_got, unbind, got_is, strip_sound, target_sound, strip_digits, control_sound, read_only}

-- ---- controls, as they are read now and as they were

-- what is read now is what was read then, without signs; or nothing was read then, and what is read now is signed
abbrev Told : {A B : Type 0} → (A → B) → (B → Type 0) → Got B → Got A → Type 0
Told without Signed x y = (x ≡ bind y (λ a. got (without a))) ⊎ ((y ≡ none) × ((b : _) (r : List ℕ) → x ≡ got b r → Signed b))

-- some control is negated
abbrev pub SomeNegated : List Control → Type 0
SomeNegated cs = negated_lines cs ≢ []

-- a control without a sign, with what comes after it
abbrev unsigned : ℕ × Bool → Control × Bool
unsigned c = (positive c.0, c.1)

same_control : (s : List ℕ) → strip (bytes "-") s ≡ none → now.control s ≡ bind (control s) (λ c. got (unsigned c))
unfolding now.control control signed
same_control s e = rw e (go (num s))
  where
    ends : (c : ℕ) (g h : Got (Unit {0})) → if_got {B = Control × Bool} g (λ _. got (positive c, true)) (bind h (λ _. got (positive c, false))) ≡ bind (if_got {B = ℕ × Bool} g (λ _. got (c, true)) (bind h (λ _. got (c, false)))) (λ c. got (unsigned c))
    ends c (got a r) h = refl
    ends c none (got a r) = refl
    ends c none none = refl

    go : (g : Got ℕ) → bind {B = Control × Bool} (bind g (λ c. got (positive c))) (λ c s'. if_got (strip (bytes " ") s') (λ _. got (c, true)) (bind (strip (bytes ")") s') (λ _. got (c, false))))
        ≡ bind (bind {B = ℕ × Bool} g (λ c s'. if_got (strip (bytes " ") s') (λ _. got (c, true)) (bind (strip (bytes ")") s') (λ _. got (c, false))))) (λ c. got (unsigned c))
    go (got c r) = ends c (strip (bytes " ") r) (strip (bytes ")") r)
    go none = refl

-- after a minus sign there was no number
no_number : (s r : List ℕ) → strip (bytes "-") s ≡ got tt r → control s ≡ none
unfolding control num
no_number s r e = rw (strip_sound (bytes "-") s r e)

-- and there is a control that is negated
is_negated : (s r : List ℕ) → strip (bytes "-") s ≡ got tt r → (c : Control × Bool) (q : List ℕ) → now.control s ≡ got c q → c.0.negated ≡ true
is_negated s r e c q f = go c.0.negated refl (control_sound s c.0 c.1 q f).0
  where
    go : (n : Bool) → c.0.negated ≡ n → s ≡ written c.0 ++ (cond c.1 32 41) ∷ q → n ≡ true
    go true p h = refl
    go false p h = absurd (none_got (sym (strip_digits 45 c.0.line ((cond c.1 32 41) ∷ q) (omega arith)) ∙ ap (strip (bytes "-")) (sym (h ∙ unfold written in rw p)) ∙ e))

control_told : (s : List ℕ) → Told unsigned (λ c. c.0.negated ≡ true) (now.control s) (control s)
control_told s = go (strip (bytes "-") s) refl
  where
    go : (g : Got (Unit {0})) → strip (bytes "-") s ≡ g → Told unsigned (λ c. c.0.negated ≡ true) (now.control s) (control s)
    go none e = inl (same_control s e)
    go (got a r) e = inr (no_number s r e, is_negated s r e)

negated_first : (c : Control) (cs : List Control) → c.negated ≡ true → SomeNegated (c ∷ cs)
unfolding negated_lines
negated_first c cs e = rw e (λ q. let z : ◌≡◌ {A = ℕ} 0 1 = cc in omega arith)

controls_told : (k : ℕ) (s : List ℕ) → Told positives SomeNegated (now.controls k s) (some_controls k s)
unfolding now.controls some_controls
controls_told zero s = inl refl
controls_told (suc k) s = go (control_told s) (controls_told k)
  where
    after_now : Control × Bool → List ℕ → Got (List Control)
    after_now c r = cond c.1 (bind (now.controls k r) (λ cs q. got (c.0 ∷ cs) q)) (got (c.0 ∷ []) r)

    after_then : ℕ × Bool → List ℕ → Got (List ℕ)
    after_then c r = cond c.1 (bind (some_controls k r) (λ cs q. got (c.0 ∷ cs) q)) (got (c.0 ∷ []) r)

    more : (c : ℕ) (r : List ℕ) → Told positives SomeNegated (now.controls k r) (some_controls k r) → Told positives SomeNegated (after_now (positive c, true) r) (after_then (c, true) r)
    more c r (inl e) = inl (rw e (cases (some_controls k r)))
      where
        cases : (g : Got (List ℕ)) → bind (bind g (λ cs. got (positives cs))) (λ cs q. got (positive c ∷ cs) q) ≡ bind (bind g (λ cs q. got (c ∷ cs) q)) (λ cs. got (positives cs))
        cases (got cs q) = refl
        cases none = refl
    more c r (inr (z, h)) = inr (
      rw z,
      λ cs q e.
          let w = unbind (now.controls k r) _ e in
          rw (← (got_is w.3).0) (unfold negated_lines in h w.0 w.1 w.2),
    )

    plain : (g : Got (ℕ × Bool)) → ((r : List ℕ) → Told positives SomeNegated (now.controls k r) (some_controls k r)) → Told positives SomeNegated (bind (bind g (λ c. got (unsigned c))) after_now) (bind g after_then)
    plain none f = inl refl
    plain (got (c, true) r) f = more c r (f r)
    plain (got (c, false) r) f = inl refl

    starts : (c : Control) (b : Bool) (r : List ℕ) (cs : List Control) (q : List ℕ) → after_now (c, b) r ≡ got cs q → (ds : List Control) × (c ∷ ds ≡ cs)
    starts c true r cs q e = let w = unbind (now.controls k r) _ e in (w.0, (got_is w.3).0)
    starts c false r cs q e = ([], (got_is e).0)

    go : Told unsigned (λ c. c.0.negated ≡ true) (now.control s) (control s) → ((r : List ℕ) → Told positives SomeNegated (now.controls k r) (some_controls k r)) → Told positives SomeNegated (bind (now.control s) after_now) (bind (control s) after_then)
    go (inl e) f = rw e (plain (control s) f)
    go (inr (z, h)) f = inr (
      rw z,
      λ cs q e.
          let w = unbind (now.control s) _ e in
          let d = starts w.0.0 w.0.1 w.1 cs q w.3 in
          rw (← d.1) (negated_first w.0.0 d.0 (h w.0 w.1 w.2)),
    )

list_told : (s : List ℕ) → Told positives SomeNegated (now.list s) (list s)
unfolding now.list list
list_told s = go (strip (bytes ")") s) (controls_told (length s) s)
  where
    go : (g : Got (Unit {0})) → Told positives SomeNegated (now.controls (length s) s) (some_controls (length s) s)
        → Told positives SomeNegated (if_got g (λ _ s'. got [] s') (now.controls (length s) s)) (if_got g (λ _ s'. got [] s') (some_controls (length s) s))
    go (got a r) w = inl refl
    go none w = w

-- ---- lines

-- a form with a negated control
pub record Negated (f : Form) : Type 0 where
  pub controls : List Control
  pub target : ℕ
  pub is_mct : f ≡ mct controls target
  pub negated : SomeNegated controls

-- an mct line after its word
body_told : (s : List ℕ) → (now.mct_body s ≡ mct_body s) ⊎ ((mct_body s ≡ none) × ((f : Form) (r : List ℕ) → now.mct_body s ≡ got f r → Negated f))
unfolding now.mct_body mct_body now.many many
body_told s = go (list_told s)
  where
    -- the form of what is read now, and of what was read
    form_now : Got (List Control × ℕ) → Got Form
    form_now g = bind g (λ p. got (mct p.0 p.1))

    form_then : Got (List ℕ × ℕ) → Got Form
    form_then g = bind g (λ p. got (mct (positives p.0) p.1))

    last : (cs : List ℕ) (g : Got ℕ) → form_now (bind g (λ t. got (positives cs, t))) ≡ form_then (bind g (λ t. got (cs, t)))
    last cs (got t r) = refl
    last cs none = refl

    spaced_target : (cs : List ℕ) (g : Got (Unit {0})) → form_now (bind g (λ _ r. bind (tail r) (λ t. got (positives cs, t)))) ≡ form_then (bind g (λ _ r. bind (tail r) (λ t. got (cs, t))))
    spaced_target cs (got a r) = last cs (tail r)
    spaced_target cs none = refl

    same : (g : Got (List ℕ)) → form_now (bind (bind g (λ cs. got (positives cs))) (λ cs s'. bind (strip (bytes " ") s') (λ _ r. bind (tail r) (λ t. got (cs, t)))))
        ≡ form_then (bind g (λ cs s'. bind (strip (bytes " ") s') (λ _ r. bind (tail r) (λ t. got (cs, t)))))
    same (got cs r) = spaced_target cs (strip (bytes " ") r)
    same none = refl

    go : Told positives SomeNegated (now.list s) (list s)
        → (form_now (bind (now.list s) (λ cs s'. bind (strip (bytes " ") s') (λ _ r. bind (tail r) (λ t. got (cs, t))))) ≡ form_then (bind (list s) (λ cs s'. bind (strip (bytes " ") s') (λ _ r. bind (tail r) (λ t. got (cs, t))))))
        ⊎ ((form_then (bind (list s) (λ cs s'. bind (strip (bytes " ") s') (λ _ r. bind (tail r) (λ t. got (cs, t))))) ≡ none)
        × ((f : Form) (r : List ℕ) → form_now (bind (now.list s) (λ cs s'. bind (strip (bytes " ") s') (λ _ r. bind (tail r) (λ t. got (cs, t))))) ≡ got f r → Negated f))
    go (inl e) = inl (rw e (same (list s)))
    go (inr (z, h)) = inr (
      rw z,
      λ f r e.
          let w = unbind (bind (now.list s) _) _ e in
          let t = target_sound (now.list s) {a = w.0.0} {t = w.0.1} w.2 in
          record { controls = w.0.0; target = w.0.1; is_mct = sym (got_is w.3).0; negated = h w.0.0 _ t.0 },
    )

-- a line that stands in no circuit text: it is not in form, or an mct line
data Foreign : Line → Type 0 where
  no_form : Foreign unformed
  an_mct : (cs : List Control) (t : ℕ) → Foreign (in_form (mct cs t))

-- what a line is read as now, and what it was read as, where both are judged alike in a text of the kind k
data Alike (k : Kind) : Line → Line → Type 0 where
  bad : Alike k unformed unformed
  head : (n : ℕ) → Alike k (in_form (lines n)) (in_form (lines n))
  a_keep : (l : List ℕ) → Alike k (in_form (keep l)) (in_form (keep l))
  a_gate : (g : Gate) → Alike k (in_form (gate g)) (in_form (gate g))
  no_sign : (cs : List Control) (t : ℕ) → negated_lines cs ≡ [] → Alike k (in_form (mct cs t)) (in_form (mct cs t))
  foreign : {x y : Line} → k ≡ Circuit → Foreign x → Foreign y → Alike k x y

-- the line of a cascade has a negated control, and was malformed
pub record NewlyRead (x y : Line) : Type 0 where
  pub form : Form
  pub reads_now : x ≡ in_form form
  pub has_sign : Negated form
  pub malformed_then : y ≡ unformed

abbrev Compared : Kind → Line → Line → Type 0
Compared k x y = Alike k x y ⊎ ((k ≡ Cascade) × NewlyRead x y)

module _ (k : Kind) where
  -- a form of another kind, or none
  itself : {A : Type 0} (g : Got A) (form : A → Form) → ((a : A) → Alike k (in_form (form a)) (in_form (form a))) → Alike k (whole (bind g (λ a. got (form a)))) (whole (bind g (λ a. got (form a))))
  unfolding whole
  itself none form h = bad
  itself (got a []) form h = h a
  itself (got a (b ∷ r)) form h = bad

  -- a signed form where there was none
  signed_line : (j : Kind) → k ≡ j → (g : Got Form) → ((f : Form) (r : List ℕ) → g ≡ got f r → Negated f) → Compared k (whole g) unformed
  unfolding whole
  signed_line j e none h = inl bad
  signed_line j e (got f (b ∷ r)) h = inl bad
  signed_line Cascade e (got f []) h = inr (e, record { form = f; reads_now = refl; has_sign = h f [] refl; malformed_then = refl })
  signed_line Circuit e (got f []) h = let w = h f [] refl in inl (rw w.is_mct (foreign e (an_mct w.controls w.target) no_form))

  mct_line : (s : List ℕ) → Compared k (whole (now.mct_body s)) (whole (mct_body s))
  mct_line s = go (body_told s)
    where
      go : (now.mct_body s ≡ mct_body s) ⊎ ((mct_body s ≡ none) × ((f : Form) (r : List ℕ) → now.mct_body s ≡ got f r → Negated f)) → Compared k (whole (now.mct_body s)) (whole (mct_body s))
      go (inl e) = inl (rw e (unfold mct_body in itself (many s) (λ p. mct (positives p.0) p.1) (λ p. no_sign (positives p.0) p.1 (none_negated p.0))))
      go (inr (z, h)) = rw z (unfold whole in signed_line k refl (now.mct_body s) h)

  -- a word that fits, or the words after it
  row : (g : Got (Unit {0})) (f : List ℕ → Got Form) (y z : Got Form) → ((r : List ℕ) → Alike k (whole (f r)) (whole (f r))) → Compared k (whole y) (whole z) → Compared k (whole (if_got g (λ _. f) y)) (whole (if_got g (λ _. f) z))
  row (got a r) f y z h w = inl (h r)
  row none f y z h w = w

  mct_row : (g : Got (Unit {0})) → Compared k (whole (bind g (λ _. now.mct_body))) (whole (bind g (λ _. mct_body)))
  mct_row none = unfold whole in inl bad
  mct_row (got a r) = mct_line r

  line_compared : (s : List ℕ) → Compared k (now.read s) (read s)
  unfolding now.read read now.parse parse lines_body keep_body not_body powered_body
  line_compared s =
      row (strip (bytes "(lines ") s) _ _ _ (λ r. itself (tail r) lines head)
      (row (strip (bytes "(keep ") s) _ _ _ (λ r. itself (numbers r) keep a_keep)
      (row (strip (bytes "(not ") s) _ _ _ (λ r. itself (tail r) (λ t. gate (Not t)) (λ t. a_gate (Not t)))
      (row (strip (bytes "(cn ") s) _ _ _ (powered 2)
      (row (strip (bytes "(v ") s) _ _ _ (powered 1)
      (row (strip (bytes "(vp ") s) _ _ _ (powered 3)
      (mct_row (strip (bytes "(mct (") s)))))))
    where
      powered : (p : ℕ) (r : List ℕ) → Alike k (whole (bind (pair r) (λ c. got (gate (Powered p c.0 c.1))))) (whole (bind (pair r) (λ c. got (gate (Powered p c.0 c.1)))))
      powered p r = itself (pair r) (λ c. gate (Powered p c.0 c.1)) (λ c. a_gate (Powered p c.0 c.1))

-- ---- texts

-- the answer changed: the text is a cascade, and was malformed at the line after the next i lines, which has a negated control
pub record Changed (k : Kind) (j : Judged) (before : ℕ) (ls : List (List ℕ)) : Type 0 where
  pub cascade : k ≡ Cascade
  pub place : ℕ
  pub malformed : j ≡ turned_away Malformed (before + place + 2)
  pub newly : NewlyRead (now.read (get_or ls place [])) (read (get_or ls place []))

-- a line that both keep is gone on from
module _ (k : Kind) (before : ℕ) (l : List ℕ) (ls : List (List ℕ)) {x y : Judged} where
  next : (f : Found) → (x ≡ y) ⊎ Changed k y (before + 1) ls → (or_else f (before + 2) x ≡ or_else f (before + 2) y) ⊎ Changed k (or_else f (before + 2) y) before (l ∷ ls)
  unfolding or_else
  next (breaks r) w = inl refl
  next sound (inl e) = inl e
  next sound (inr w) = inr (record { cascade = w.cascade; place = suc w.place; malformed = w.malformed ∙ ap (turned_away Malformed) (omega arith); newly = w.newly })

module _ (k : Kind) (n : ℕ) where
  -- a line of another kind
  foreign_now : (before : ℕ) (c : List Gate) {x : Line} (ls : List Line) → k ≡ Circuit → Foreign x → judge_lines_now k n before c (x ∷ ls) ≡ turned_away Malformed (before + 2)
  unfolding judge_lines_by rules_now now_judged.rules first or_else belongs
  foreign_now before c ls e no_form = refl
  foreign_now before c ls e (an_mct cs t) = rw e

  foreign_then : (before : ℕ) (c : List Gate) {x : Line} (ls : List Line) → k ≡ Circuit → Foreign x → judge_lines gates k n before c (x ∷ ls) ≡ turned_away Malformed (before + 2)
  unfolding judge_lines_by rules_now now_judged.rules rules first or_else belongs
  foreign_then before c ls e no_form = refl
  foreign_then before c ls e (an_mct cs t) = rw e

  abbrev Outcome : ℕ → List Gate → List (List ℕ) → List Line → List Line → Type 0
  Outcome before c ls xs ys = (judge_lines_now k n before c xs ≡ judge_lines gates k n before c ys) ⊎ Changed k (judge_lines gates k n before c ys) before ls

  -- a line that is read alike
  step : (before : ℕ) (c : List Gate) (l : List ℕ) (ls : List (List ℕ)) {x y : Line} (xs ys : List Line) → Alike k x y → ((d : List Gate) → Outcome (before + 1) d ls xs ys) → Outcome before c (l ∷ ls) (x ∷ xs) (y ∷ ys)
  unfolding judge_lines_by rules_now now_judged.rules rules gates_now now_judged.gates gates kept_lines unpacked
  step before c l ls xs ys bad f = inl refl
  step before c l ls xs ys (head m) f = next k before l ls (first (rules gates k n before c (lines m))) (f (c ++ []))
  step before c l ls xs ys (a_keep m) f = next k before l ls (first (rules gates k n before c (keep m))) (f (c ++ []))
  step before c l ls xs ys (a_gate g) f = next k before l ls (first (rules gates k n before c (gate g))) (f (c ++ g ∷ []))
  step before c l ls xs ys (no_sign cs t e) f = rw (signless_expansion n [] cs t e) (next k before l ls (first (rules gates k n before c (mct cs t))) (f (c ++ expansion n [] (control_lines cs) t)))
  step before c l ls xs ys (foreign e a b) f = inl (foreign_now before c xs e a ∙ sym (foreign_then before c ys e b))

  lines_compared : (before : ℕ) (c : List Gate) (ls : List (List ℕ)) → Outcome before c ls (now_judged.read_all ls) (read_all ls)
  unfolding now_judged.read_all read_all
  lines_compared before c [] = inl (unfold judge_lines_by in refl)
  lines_compared before c (l ∷ ls) = go (line_compared k l) (λ d. lines_compared (before + 1) d ls)
    where
      go : Compared k (now.read l) (read l) → ((d : List Gate) → Outcome (before + 1) d ls (now_judged.read_all ls) (read_all ls)) → Outcome before c (l ∷ ls) (now.read l ∷ now_judged.read_all ls) (read l ∷ read_all ls)
      go (inl a) f = step before c l ls (now_judged.read_all ls) (read_all ls) a f
      go (inr (e, w)) f = inr (record { cascade = e; place = 0; malformed = ap (λ (y : Line). judge_lines gates k n before c (y ∷ read_all ls)) w.malformed_then ∙ (unfold judge_lines_by in ap (turned_away Malformed) (omega arith)); newly = w })

module _ (k : Kind) where
  first_line : (ls : List (List ℕ)) {x y : Line} → Compared k x y → ((m : ℕ) → Outcome k m 0 [] ls (now_judged.read_all ls) (read_all ls))
      → (judge_text_now k (x ∷ now_judged.read_all ls) ≡ judge_text gates k (y ∷ read_all ls)) ⊎ Changed k (judge_text gates k (y ∷ read_all ls)) 0 ls
  unfolding judge_text_by
  first_line ls (inl bad) f = inl refl
  first_line ls (inl (head n)) f = go (first (head_rules n)) (f n)
    where
      go : {x y : Judged} (r : Found) → (x ≡ y) ⊎ Changed k y 0 ls → (or_else r 1 x ≡ or_else r 1 y) ⊎ Changed k (or_else r 1 y) 0 ls
      go sound w = unfold or_else in w
      go (breaks r) w = unfold or_else in inl refl
  first_line ls (inl (a_keep l)) f = inl refl
  first_line ls (inl (a_gate g)) f = inl refl
  first_line ls (inl (no_sign cs t e)) f = inl refl
  first_line ls (inl (foreign e no_form no_form)) f = inl refl
  first_line ls (inl (foreign e no_form (an_mct cs t))) f = inl refl
  first_line ls (inl (foreign e (an_mct cs t) no_form)) f = inl refl
  first_line ls (inl (foreign e (an_mct cs t) (an_mct ds u))) f = inl refl
  first_line ls (inr (e, w)) f = inl (rw (w.reads_now, w.has_sign.is_mct, w.malformed_then))

  lines_judged : (ls : List (List ℕ)) → (judge_text_now k (now_judged.read_all ls) ≡ judge_text gates k (read_all ls)) ⊎ Changed k (judge_text gates k (read_all ls)) 0 (drop 1 ls)
  unfolding now_judged.read_all read_all
  lines_judged [] = inl (unfold judge_text_by in refl)
  lines_judged (l ∷ ls) = first_line ls (line_compared k l) (λ m. lines_compared k m 0 [] ls)

  -- every text without a keep line is judged as it was, but for a cascade with a negated control, which was malformed at that line
  pub changed_only : (s : List ℕ) → Unkept k s → (now_judged.judge k s ≡ judge k s) ⊎ Changed k (judge k s) 0 (drop 1 (cut s))
  unfolding judge
  changed_only s u = rw (unkept_judged k s u) (lines_judged (cut s))

-- ---- texts without a minus sign

-- no minus sign, byte 45, is in the bytes
abbrev pub Signless : List ℕ → Type 0
Signless s = has 45 s ≡ false

-- nor in parts of them
signless_parts : (a b : List ℕ) → Signless (a ++ b) → Signless a × Signless b
signless_parts a b e = neither (has 45 a) (has 45 b) (sym (has_append 45 a b) ∙ e)

written_signless : (c : Control) → Signless (written c) → c.negated ≡ false
unfolding written has
written_signless c e = go c.negated e
  where
    go : (n : Bool) → Signless (cond n (bytes "-" ++ digits c.line) (digits c.line)) → n ≡ false
    go true q = q
    go false q = refl

spaced_signless : (cs : List Control) → Signless (spaced cs) → negated_lines cs ≡ []
unfolding spaced negated_lines
spaced_signless [] e = refl
spaced_signless (c ∷ []) e = rw (written_signless c e)
spaced_signless (c ∷ d ∷ cs) e =
    let u = signless_parts (written c) (bytes " " ++ spaced (d ∷ cs)) e in
    let v = signless_parts (bytes " ") (spaced (d ∷ cs)) u.1 in
    rw (written_signless c u.0) (spaced_signless (d ∷ cs) v.1)

-- the lines of such a text have none
longer_signless : (b : ℕ) (ls : List (List ℕ)) → eqb 45 b ≡ false → Every Signless ls → Every Signless (longer b ls)
unfolding longer has
longer_signless b [] e w = (rw e, tt)
longer_signless b (l ∷ ls) e w = (rw (e, w.0), w.1)

cut_signless : (s : List ℕ) → Signless s → Every Signless (cut s)
unfolding cut has
cut_signless [] n = tt
cut_signless (b ∷ s) n = let u = neither (eqb 45 b) (has 45 s) n in go (eqb b 10) u.0 (cut_signless s u.1)
  where
    go : (x : Bool) → eqb 45 b ≡ false → Every Signless (cut s) → Every Signless (cond x ((b ∷ []) ∷ cut s) (longer b (cut s)))
    go true e w = (rw e, w)
    go false e w = longer_signless b (cut s) e w

each_signless : (ls : List (List ℕ)) (i : ℕ) → Every Signless ls → Signless (get_or ls i [])
unfolding has
each_signless [] i w = refl
each_signless (l ∷ ls) zero w = w.0
each_signless (l ∷ ls) (suc i) w = each_signless ls i w.1

after_first : (ls : List (List ℕ)) → Every Signless ls → Every Signless (drop 1 ls)
after_first [] w = tt
after_first (l ∷ ls) w = w.1

-- so no control of it is negated
not_newly : (l : List ℕ) → Signless l → NewlyRead (now.read l) (read l) → ⊥
not_newly l n w =
    let f = w.has_sign in
    let q = (read_only l w.form w.reads_now).0 ∙ ap render f.is_mct in
    let u = signless_parts (bytes "(mct (") (spaced f.controls ++ (bytes ") " ++ one f.target)) (ap (has 45) (sym (q ∙ unfold render in refl)) ∙ n) in
    f.negated (spaced_signless f.controls (signless_parts (spaced f.controls) _ u.1).0)

-- a text without a minus sign, and without a keep line, is judged as it was
pub judged_before : (k : Kind) (s : List ℕ) → Unkept k s → Signless s → now_judged.judge k s ≡ judge k s
judged_before k s u n = go (changed_only k s u)
  where
    go : (now_judged.judge k s ≡ judge k s) ⊎ Changed k (judge k s) 0 (drop 1 (cut s)) → now_judged.judge k s ≡ judge k s
    go (inl e) = e
    go (inr w) = absurd (not_newly _ (each_signless (drop 1 (cut s)) w.place (after_first (cut s) (cut_signless s n))) w.newly)

-- and so is every circuit text: a sign was malformed there, and is
pub circuits_before : (s : List ℕ) → now_judged.judge Circuit s ≡ judge Circuit s
circuits_before s = go (changed_only Circuit s tt)
  where
    go : (now_judged.judge Circuit s ≡ judge Circuit s) ⊎ Changed Circuit (judge Circuit s) 0 (drop 1 (cut s)) → now_judged.judge Circuit s ≡ judge Circuit s
    go (inl e) = e
    go (inr w) = absurd (let z : ◌≡◌ {A = ℕ} 0 1 = cc in omega arith)
