-- Of a text without a keep line map and reduce say what they said when rule 7 was tried before rule 8: number, line, gates, bytes, every record and every byte; but for an answer
-- at a line that meets both rules, which was 7 and is 8, and all else of it is as it was. Assumes nothing.
use Prim.Native.Nat.{ℕ}
use mathlib.Core.Path.{◌≡◌, refl, sym, ap, ◌∙◌, subst}
use mathlib.Core.Logic.{◌↔◌, ◌≢◌}
use mathlib.Core.List.{List, [], ◌∷◌}
use native.Mathlib.Omega.{arith}
use lib.ListN.{length}
use Rattle.gates.specs.declared.Gate.{Gate}
use Rattle.text.specs.declared.Kind.{Kind}
use Rattle.text.specs.declared.Head.{Head}
use Rattle.text.specs.declared.Refusal.{Refusal}
use Rattle.text.specs.declared.Refusal.TheVariants.{TooWide, NoSpare}
use Rattle.text.specs.Text.{circuit_text}
use Rattle.text.specs.Judging.{Judged, turned_away, accepted, first}
use Rattle.text.proofs.JudgedBy.{Unkept}
use Rattle.text.proofs.WideFirst as wide_first
use Rattle.text.proofs.WideFirst.{judge, MeetsBothAt, Became, became_next, judged_became}
use Rattle.habits.specs.Habits.{size_rules, left}
use Rattle.habits.specs.Demands.{One}
use Rattle.jobs.specs.Jobs as now
use Rattle.jobs.specs.Jobs.{Job, takes, Output, as_text, as_count, wanted, Entry, Exit, refusal, put_out, answered, Settled}
use Rattle.jobs.proofs.One.{says_one}
use Rattle.demands.proofs.Demands.{Wrote, longer, holds, wrote, refusal_is}
use Rattle.demands.proofs.JudgedBy.{judged_text, judged, Says}
pub use Rattle.demands.proofs.Renumbered.{renumbered}

-- ---- an exit of now and of then

-- the same, where it was given at no line that meets both rules; or 8 in place of 7
pub data ExitBecame (j : Job) (e : Entry) : Exit → Exit → Type 0 where
  same : {x : Exit} → (MeetsBothAt (takes j) e.text x.line → ⊥) → ExitBecame j e x x
  from_7_to_8 : {x : Exit} → x.number ≡ 7 → MeetsBothAt (takes j) e.text x.line → ExitBecame j e (renumbered 8 x) x

-- rules 1 and 2 come first
pub text_became : (k : Kind) (s : List ℕ) (records : ℕ) → Unkept k s → Became (MeetsBothAt k s) (now.judged_text k s records) (judged_text judge k s records)
unfolding now.judged_text judged_text
text_became k s records u = became_next k s (first (size_rules (length s) (records ∷ []))) 0 (omega arith) (judged_became k s u)

-- ---- what is said

-- success has line 0, and refusal 10 too
answer_line : (o : Output) (e : Entry) (h : Head) (r : List Gate) → (put_out o e h r).line ≡ 0
answer_line as_count e h r = refl
answer_line as_text e h r = go _ (wrote e r (circuit_text h.lines r))
  where
    go : (x : Exit) → Wrote e r (circuit_text h.lines r) x → x.line ≡ 0
    go x (longer l q) = (refusal_is _ 0 e q).1
    go x (holds l q) = ap (λ (y : Exit). y.line) q

module _ (j : Job) (e : Entry) where
  abbrev At : ℕ → Type 0
  At = MeetsBothAt (takes j) e.text

  -- line 0 is none
  not_line_0 : {l : ℕ} → l ≡ 0 → At l → ⊥
  not_line_0 q w = omega (arith, q, w.among.its_line)

  -- nor is the line of an exit whose text was turned away at no such line
  settled_line : (d : Judged) (x : Exit) → ((r : Refusal) (l : ℕ) → d ≡ turned_away r l → At l → ⊥) → Settled j e d x → At x.line → ⊥
  unfolding Settled answered
  settled_line (turned_away r l) x n q w = n r l refl (subst At (refusal_is r l e q).1 w)
  settled_line (accepted h c) x n q w = not_line_0 (ap (λ (y : Exit). y.line) q.2 ∙ answer_line (wanted j e) e h q.0) w

  -- refusals 7 and 8 leave the same
  8_for_7 : (l : ℕ) → renumbered 8 (refusal TooWide l e) ≡ refusal NoSpare l e
  unfolding refusal left
  8_for_7 l = refl

  became_8 : {l : ℕ} → At l → ExitBecame j e (refusal NoSpare l e) (refusal TooWide l e)
  became_8 {l} w = let q = refusal_is TooWide l e refl in subst (λ (x : Exit). ExitBecame j e x (refusal TooWide l e)) (8_for_7 l) (from_7_to_8 q.0 (subst At (sym q.1) w))

  was_said : {i d : Judged} → Became At i d → (x : Exit) → Settled j e i x → (y : Exit) × Settled j e d y × ExitBecame j e x y
  was_said {i} (wide_first.same n) x s = (x, s, same (settled_line i x n s))
  was_said (wide_first.from_7_to_8 {l} w) x s = unfold Settled in (refusal TooWide l e, refl, subst (λ (z : Exit). ExitBecame j e z (refusal TooWide l e)) (sym (unfold Settled in s)) (became_8 w))

  is_said : {i d : Judged} → Became At i d → (x y : Exit) → Settled j e d y → ExitBecame j e x y → Settled j e i x
  is_said (wide_first.same n) x y s (same m) = s
  is_said {i} (wide_first.same n) x y s (from_7_to_8 p w) = absurd (settled_line i y n s w)
  is_said (wide_first.from_7_to_8 {l} v) x y s t = unfold Settled in go (unfold Settled in s) t
    where
      go : {x y : Exit} → y ≡ refusal TooWide l e → ExitBecame j e x y → x ≡ refusal NoSpare l e
      go q (same m) = absurd (m (subst At (sym (refusal_is TooWide l e q).1) v))
      go q (from_7_to_8 p w) = ap (renumbered 8) q ∙ 8_for_7 l

  -- every entry whose text has no keep line: what is said now is what was said, but for 8 in place of 7 at a line that meets both rules
  pub says_became : Unkept (takes j) e.text → (x : Exit) → now.Says j e x ↔ ((y : Exit) × Says judge j e y × ExitBecame j e x y)
  unfolding now.Says Says now.judged judged
  says_became u x = let t = text_became (takes j) e.text (length e.list) u in (was_said t x, λ w. is_said t x w.0 w.1 w.2)

  -- where one exit is said now, and what was said is any
  exits_became : {i d : Judged} → Became At i d → (x y : Exit) → (Settled j e i y → y ≡ x) → Settled j e i x → Settled j e d y → ExitBecame j e x y
  exits_became {i} (wide_first.same n) x y u s w = subst (ExitBecame j e x) (sym (u w)) (same (settled_line i x n s))
  exits_became (wide_first.from_7_to_8 {l} v) x y u s w = go (unfold Settled in s) (unfold Settled in w)
    where
      go : x ≡ refusal NoSpare l e → y ≡ refusal TooWide l e → ExitBecame j e x y
      go p q = rw (p, q) (became_8 v)

  -- there is one exit of now and one of then for an entry
  pub said_became : Unkept (takes j) e.text → (x y : Exit) → now.Says j e x → Says judge j e y → ExitBecame j e x y
  said_became k x y s w = go s w (λ v. o.2 y v ∙ sym (o.2 x s))
    where
      o : One (now.Says j e)
      o = says_one j e

      go : now.Says j e x → Says judge j e y → (now.Says j e y → y ≡ x) → ExitBecame j e x y
      go v z u = exits_became (text_became (takes j) e.text (length e.list) k) x y (λ t. u (unfold now.Says now.judged in t)) (unfold now.Says now.judged in v) (unfold Says judged in z)

  -- it changed exactly if it was given at such a line
  pub exit_changes : Unkept (takes j) e.text → (x y : Exit) → now.Says j e x → Says judge j e y → (x ≢ y) ↔ MeetsBothAt (takes j) e.text y.line
  exit_changes k x y s w = go (said_became k x y s w)
    where
      go : {x y : Exit} → ExitBecame j e x y → (x ≢ y) ↔ MeetsBothAt (takes j) e.text y.line
      go (same n) = (λ c. absurd (c refl), λ m. absurd (n m))
      go (from_7_to_8 p m) = (λ c. m, λ _ q. omega (arith, p, ap (λ (z : Exit). z.number) q))
