-- Judging a text line by line, as a place that only moves forward finds the lines. Assumes nothing.
use mathlib.Core.Path.{◌≡◌, refl, sym, ap, ◌∙◌}
use mathlib.Core.Bool.{false}
use mathlib.Core.List.{List, ◌∷◌, ◌++◌}
use Prim.Native.Nat.{ℕ, ◌+◌}
use native.Mathlib.Omega.{arith}
use Rattle.gates.specs.declared.Gate.{Gate}
use Rattle.cascades.specs.declared.Control.{Control}
use Rattle.text.specs.declared.Refusal.{Refusal}
use Rattle.text.specs.declared.Refusal.TheVariants.{Malformed}
use Rattle.text.specs.declared.Head.{Head}
use Rattle.text.specs.Text.{Form, lines, keep, gate, mct}
use Rattle.text.specs.Heads.{line_below}
use Rattle.text.specs.Reading.{Got, got, none, parse, cut}
use Rattle.text.specs.declared.Kind.{Kind}
use Rattle.text.specs.declared.Kind.TheVariants.{Cascade, Circuit}
use Rattle.text.specs.Judging.{Judged, turned_away, gates, belongs, Found, sound, breaks, first, rules, or_else, judge_lines, read_all}
use Rattle.text.proofs.Printed.{none_got, parse_sound}
use Rattle.text.proofs.Cursor.{at_form, at_bad}
use Rattle.text.proofs.Accepted.{Kept, keeps as rules_kept}
use Rattle.reading.specs.declared.Mct.{Mct}
use Rattle.gathering.specs.Gathering.{gathered}
use Rattle.reading.specs.Seen.{only_gate, only_mct, with_gathered}
use Rattle.judging.specs.Seen.{Judgement, keeps, fails, by_rules, by_form, judge_line}

-- ---- one line

-- the judging of the lines goes on after a line that keeps the rules, and ends at one that does not
unfoldable pub goes_on : Kind → Head → ℕ → List Gate → Judgement → Judged
goes_on k h before c (keeps f s) = judge_lines k h (before + 1) (c ++ gates h f) (read_all (cut s))
goes_on k h before c (fails r) = turned_away r (line_below h before)

pub line_judged : (k : Kind) (h : Head) (before : ℕ) (c : List Gate) (b : ℕ) (s : List ℕ) → judge_lines k h before c (read_all (cut (b ∷ s))) ≡ goes_on k h before c (judge_line k h before c (b ∷ s))
unfolding judge_line
line_judged k h before c b s = go (parse (b ∷ s)) refl
  where
    ruled : (f : Form) (r : List ℕ) (x : Found) → or_else x (line_below h before) (judge_lines k h (before + 1) (c ++ gates h f) (read_all (cut r))) ≡ goes_on k h before c (by_rules x f r)
    ruled f r sound = unfold or_else by_rules goes_on in refl
    ruled f r (breaks x) = unfold or_else by_rules goes_on in refl

    go : (x : Got Form) → parse (b ∷ s) ≡ x → judge_lines k h before c (read_all (cut (b ∷ s))) ≡ goes_on k h before c (by_form k h before c x)
    go (got f r) e = ap (judge_lines k h before c) (at_form (b ∷ s) f r e) ∙ unfold judge_lines by_form in ruled f r (first (rules k h before c f))
    go none e = let w = at_bad b s e in ap (judge_lines k h before c) w.1 ∙ unfold judge_lines by_form goes_on in refl

-- what holds of a line that keeps the rules
fails_keeps : {x : Refusal} {f : Form} {s : List ℕ} → fails x ≡ keeps f s → ⊥
fails_keeps e = let z : ◌≡◌ {A = ℕ} 0 1 = cc in omega arith

formed_kept : (k : Kind) (h : Head) (before : ℕ) (c : List Gate) (x : Got Form) {f : Form} {s : List ℕ} → by_form k h before c x ≡ keeps f s → (x ≡ got f s) × (first (rules k h before c f) ≡ sound)
unfolding by_form by_rules
formed_kept k h before c none e = absurd (fails_keeps e)
formed_kept k h before c (got g r) {f} {s} e = go (first (rules k h before c g)) refl e
  where
    go : (x : Found) → first (rules k h before c g) ≡ x → by_rules x g r ≡ keeps f s → (got g r ≡ got f s) × (first (rules k h before c f) ≡ sound)
    go sound q e = let a : g ≡ f = cc in let b : r ≡ s = cc in (cc, rw (← a) q)
    go (breaks y) q e = absurd (fails_keeps e)

pub line_kept : (k : Kind) (h : Head) (before : ℕ) (c : List Gate) (s : List ℕ) {f : Form} {r : List ℕ} → judge_line k h before c s ≡ keeps f r → Kept k h before c f
unfolding judge_line
line_kept k h before c s {f} {r} e = let w = formed_kept k h before c (parse s) e in rules_kept k h before c f (parse_sound s f r w.0).1 w.1

-- ---- the lines after line 1, as the reader gives them for one kind of text

-- `only` gives what a line of the kind k holds, which has the form `form`; no other form belongs to such a text
pub record Only (k : Kind) {B : Type 0} (only : Got Form → Got B) (form : B → Form) : Type 0 where
  pub in_kind : (x : Got Form) {b : B} {s : List ℕ} → only x ≡ got b s → x ≡ got (form b) s
  pub others : (f : Form) (s : List ℕ) → only (got f s) ≡ none → belongs k f ≡ false

pub gate_lines : Only Circuit only_gate gate
gate_lines = record { in_kind = in_kind; others = others }
  where
    in_kind : (x : Got Form) {g : Gate} {s : List ℕ} → only_gate x ≡ got g s → x ≡ got (gate g) s
    in_kind none e = absurd (unfold only_gate in none_got e)
    in_kind (got (lines n) r) e = absurd (unfold only_gate in none_got e)
    in_kind (got (keep l) r) e = absurd (unfold only_gate in none_got e)
    in_kind (got (mct cs t) r) e = absurd (unfold only_gate in none_got e)
    in_kind (got (gate g) r) e = unfold only_gate in cc

    others : (f : Form) (s : List ℕ) → only_gate (got f s) ≡ none → belongs Circuit f ≡ false
    others (lines n) s e = unfold belongs in refl
    others (keep l) s e = unfold belongs in refl
    others (mct cs t) s e = unfold belongs in refl
    others (gate g) s e = absurd (unfold only_gate in none_got (sym e))

pub mct_lines : Only Cascade only_mct (λ p. mct p.0 p.1)
mct_lines = record { in_kind = in_kind; others = others }
  where
    in_kind : (x : Got Form) {p : List Control × ℕ} {s : List ℕ} → only_mct x ≡ got p s → x ≡ got (mct p.0 p.1) s
    in_kind none e = absurd (unfold only_mct in none_got e)
    in_kind (got (lines n) r) e = absurd (unfold only_mct in none_got e)
    in_kind (got (keep l) r) e = absurd (unfold only_mct in none_got e)
    in_kind (got (gate g) r) e = absurd (unfold only_mct in none_got e)
    in_kind (got (mct cs t) r) {p} {s} e = unfold only_mct in (let q : ◌≡◌ {A = List Control × ℕ} (cs, t) p = cc in let u : r ≡ s = cc in rw (← q, u))

    others : (f : Form) (s : List ℕ) → only_mct (got f s) ≡ none → belongs Cascade f ≡ false
    others (lines n) s e = unfold belongs in refl
    others (keep l) s e = unfold belongs in refl
    others (gate g) s e = unfold belongs in refl
    others (mct cs t) s e = absurd (unfold only_mct in none_got (sym e))

module _ {k : Kind} {B : Type 0} {only : Got Form → Got B} {form : B → Form} (o : Only k only form) (h : Head) (before : ℕ) (c : List Gate) (s : List ℕ) where
  pub line_malformed : only (parse s) ≡ none → fails Malformed ≡ judge_line k h before c s
  unfolding judge_line
  line_malformed e = go (parse s) e
    where
      go : (x : Got Form) → only x ≡ none → fails Malformed ≡ by_form k h before c x
      go none e = unfold by_form in refl
      go (got f r) e = unfold by_form first rules by_rules in rw (o.others f r e)

  pub line_sound : {b : B} {r : List ℕ} → only (parse s) ≡ got b r → first (rules k h before c (form b)) ≡ sound → keeps (form b) r ≡ judge_line k h before c s
  unfolding judge_line by_form by_rules
  line_sound e q = rw (o.in_kind (parse s) e, q)

  pub line_broken : {b : B} {r : List ℕ} {x : Refusal} → only (parse s) ≡ got b r → first (rules k h before c (form b)) ≡ breaks x → fails x ≡ judge_line k h before c s
  unfolding judge_line by_form by_rules
  line_broken e q = rw (o.in_kind (parse s) e, q)

-- ---- the controls, as they were gathered

pub with_gathered_is : (x : Got (List Control × ℕ)) {m : Mct} {r : List ℕ} → with_gathered x ≡ got m r → (cs : List Control) × (m.controls ≡ gathered cs) × (x ≡ got (cs, m.target) r)
unfolding with_gathered
with_gathered_is none e = absurd (none_got e)
with_gathered_is (got p s) {m} {r} e =
    let q : ◌≡◌ {A = Mct} (record { controls = gathered p.0; target = p.1 }) m = cc in
    let u : s ≡ r = cc in
    let v : p.1 ≡ m.target = ap (λ (w : Mct). w.target) q in
    (p.0, ap (λ (w : Mct). w.controls) (sym q), rw (u, ← v))

pub with_gathered_none : (x : Got (List Control × ℕ)) → with_gathered x ≡ none → x ≡ none
unfolding with_gathered
with_gathered_none none e = refl
with_gathered_none (got p s) e = absurd (none_got (sym e))
