-- Demand 1 follows from what the jobs say. Assumes nothing.
use mathlib.Core.Path.{◌≡◌, refl, sym, ap, ◌∙◌, subst}
use mathlib.Core.List.{List, [], ◌∷◌, ◌++◌}
use Prim.Native.Nat.{ℕ, ◌≤◌, ◌<◌}
use native.Mathlib.Omega.{arith}
use lib.ListN.{length, drop, length-append, length-drop}
use lib.Seq.{take-append_seam, drop-append_seam}
use Rattle.gates.specs.declared.Gate.{Gate}
use Rattle.gates.proofs.Theorem.{reduced_unique}
use Rattle.text.specs.declared.Refusal.{Refusal}
use Rattle.text.specs.declared.Head.{Head}
use Rattle.text.specs.Refusals.{number_of}
use Rattle.text.specs.declared.Refusal.TheVariants.{Overlong, ShortList, Malformed, NoSuchLine, Crossed, Unsorted, TooWide, NoSpare, TooMany, ShortAnswer, DifferentLines, NotAllowed, OtherEnd}
use Rattle.text.specs.Text.{circuit_text}
use Rattle.text.specs.Reading.{cut}
use Rattle.text.specs.Judging.{Judged, turned_away, accepted, judge_text, read_all, judge}
use Rattle.habits.specs.Habits.{filled}
use Rattle.habits.specs.Demands.{Sized, failing_line}
use Rattle.habits.proofs.Says.{left_early, left_late, left_length, filled_first, filled_later, filled_length}
use Rattle.jobs.specs.Jobs.{Job, takes, Output, as_text, as_count, wanted, Entry, Exit, refusal, judged, success, put_out, answered, Says}
use Rattle.demands.specs.Demands.{Yields, Due, refused, short_answer, no_refusal, RefusalLeaves, SuccessLeaves, Demand1}
use Rattle.jobs.proofs.Habits.{judged_refuses, refuses_judged, judged_accepts, accepts_judged}
use Rattle.jobs.proofs.One.{judged_accepted}
use Rattle.demands.proofs.Demands.{says_accepted, says_turned_away, facts, Wrote, longer, holds, wrote, refusal_is}

-- ---- a refusal

-- what it leaves
refuses : (r : Refusal) (l : ℕ) (e : Entry) {x : Exit} → x ≡ refusal r l e → RefusalLeaves e x
refuses r l e q = let f = refusal_is r l e q in
    record { countless = f.2; unchanged = f.4; early = λ h. f.3 ∙ left_early r e.list (omega (arith, h, f.0)); late = λ h. f.3 ∙ left_late r e.list (omega (arith, h, f.0)) }

-- no refusal has the number 0
pub from_1 : (r : Refusal) → 1 ≤ number_of r
from_1 Overlong = omega arith
from_1 ShortList = omega arith
from_1 Malformed = omega arith
from_1 NoSuchLine = omega arith
from_1 Crossed = omega arith
from_1 Unsorted = omega arith
from_1 TooWide = omega arith
from_1 NoSpare = omega arith
from_1 TooMany = omega arith
from_1 ShortAnswer = omega arith
from_1 DifferentLines = omega arith
from_1 NotAllowed = omega arith
from_1 OtherEnd = omega arith

-- ---- success

-- a text is no count
pub text_count : as_text ≡ as_count → ⊥
text_count e = let z : ◌≡◌ {A = ℕ} 0 1 = cc in omega arith

-- the exit with the text s at the front of the area
succeeds_text : (j : Job) (e : Entry) (h : Head) (r : List Gate) → wanted j e ≡ as_text
    → let s = circuit_text h.lines r in SuccessLeaves j e (success e r (length s) (s ++ drop (length s) e.area)) h r
succeeds_text j e h r i = let s = circuit_text h.lines r in
    record {
      list_first = filled_first r e.list;
      list_later = filled_later r e.list;
      gates_counted = refl;
      bytes_written = λ _. refl;
      area_text = λ _. take-append_seam s _;
      area_others = drop-append_seam s _;
      none_written = λ k. absurd (text_count (sym i ∙ k));
    }

-- the exit with the count of the list r alone
succeeds_count : (j : Job) (e : Entry) (h : Head) (r : List Gate) → wanted j e ≡ as_count → SuccessLeaves j e (success e r 0 e.area) h r
succeeds_count j e h r i = record {
  list_first = filled_first r e.list;
  list_later = filled_later r e.list;
  gates_counted = refl;
  bytes_written = λ k. absurd (text_count (sym k ∙ i));
  area_text = λ k. absurd (text_count (sym k ∙ i));
  area_others = refl;
  none_written = λ _. refl;
}

-- ---- what can come of a run

-- a refusal, or success
data Came (j : Job) (e : Entry) (x : Exit) : Type 0 where
  turned : (r : Refusal) (l : ℕ) → Due j e (number_of r) l → x ≡ refusal r l e → Came j e x
  succeeded : (h : Head) (r : List Gate) (n : ℕ) (a : List ℕ) → Due j e 0 0 → Yields j e h r → x ≡ success e r n a → SuccessLeaves j e (success e r n a) h r → length a ≡ length e.area → Came j e x

module _ (j : Job) (e : Entry) (x : Exit) (s : Says j e x) where
  by_text : (h : Head) (r : List Gate) → Yields j e h r → wanted j e ≡ as_text → Wrote e r (circuit_text h.lines r) x → Came j e x
  by_text h r y i (longer l q) = turned ShortAnswer _ (short_answer h r y i l) q
  by_text h r y i (holds l q) = let t = circuit_text h.lines r in
      succeeded h r _ _ (no_refusal h r y (λ _. l)) y q (succeeds_text j e h r i) (length-append t (drop (length t) e.area) ∙ omega (arith, l, length-drop (length t) e.area))

  by_answer : (h : Head) (r : List Gate) → Yields j e h r → (o : Output) → wanted j e ≡ o → x ≡ put_out o e h r → Came j e x
  by_answer h r y as_text i q = by_text h r y i (rw q (wrote e r (circuit_text h.lines r)))
  by_answer h r y as_count i q = succeeded h r _ _ (no_refusal h r y (λ k. absurd (text_count (sym k ∙ i)))) y q (succeeds_count j e h r i) refl

  came : Came j e x
  unfolding judged answered
  came = go (judged (takes j) e) refl
    where
      go : (d : Judged) → judged (takes j) e ≡ d → Came j e x
      go (turned_away r l) q = turned r l (refused (judged_refuses (takes j) e.text (length e.list) q)) (says_turned_away j e x s q)
      go (accepted h c) q =
          let a = says_accepted j e x s q in
          by_answer h a.0 (record { circuit = c; accepts = judged_accepts (takes j) e.text (length e.list) q; reduced = a.1 }) (wanted j e) refl a.2

  -- ---- the table

  due : Came j e x → Due j e x.number x.line
  due (turned r l d q) = let f = refusal_is r l e q in rw (f.0, f.1) d
  due (succeeded h r n a d y q t k) = rw q d

  by_refusal : (r : Refusal) (l : ℕ) → x ≡ refusal r l e → (x.number ≡ number_of r) × (x.line ≡ l)
  by_refusal r l q = let f = refusal_is r l e q in (f.0, f.1)

  -- a text that rules 1 to 9 let pass has this exit
  put : (h : Head) (r : List Gate) → Yields j e h r → (o : Output) → wanted j e ≡ o → x ≡ put_out o e h r
  unfolding judged answered
  put h r y o i = let a = says_accepted j e x s (accepts_judged (takes j) e.text (length e.list) y.accepts) in
      subst (λ (p : Output). x ≡ put_out p e h r) i (a.2 ∙ ap (answered j e h) (reduced_unique h.lines a.1 y.reduced))

  too_long : (r : List Gate) (t : List ℕ) → length e.area < length t → Wrote e r t x → (x.number ≡ 10) × (x.line ≡ 0)
  too_long r t l (longer k q) = by_refusal ShortAnswer _ q
  too_long r t l (holds k q) = absurd (omega (arith, l, k))

  no_longer : (r : List Gate) (t : List ℕ) → length t ≤ length e.area → Wrote e r t x → (x.number ≡ 0) × (x.line ≡ 0)
  no_longer r t l (longer k q) = absurd (omega (arith, l, k))
  no_longer r t l (holds k q) = (ap (λ (y : Exit). y.number) q, ap (λ (y : Exit). y.line) q)

  put_zero : (h : Head) (r : List Gate) (o : Output) → (o ≡ as_text → length (circuit_text h.lines r) ≤ length e.area) → x ≡ put_out o e h r → (x.number ≡ 0) × (x.line ≡ 0)
  put_zero h r as_text f q = no_longer r (circuit_text h.lines r) (f refl) (rw q (wrote e r (circuit_text h.lines r)))
  put_zero h r as_count f q = (ap (λ (y : Exit). y.number) q, ap (λ (y : Exit). y.line) q)

  told : {n l : ℕ} → Due j e n l → (x.number ≡ n) × (x.line ≡ l)
  unfolding judged
  told (refused d) = let z = refuses_judged (takes j) e.text (length e.list) d in let f = by_refusal z.0 _ (says_turned_away j e x s z.1) in (f.0 ∙ z.2, f.1)
  told (short_answer h r y i l) = too_long r (circuit_text h.lines r) l (rw (put h r y as_text i) (wrote e r (circuit_text h.lines r)))
  told (no_refusal h r y f) = put_zero h r (wanted j e) f (put h r y (wanted j e) refl)

  empty_told : Sized e.text (length e.list ∷ []) → e.text ≡ [] → (x.number ≡ 3) × (x.line ≡ 1)
  unfolding judge judge_text read_all cut
  empty_told z q = told (refused (failing_line Malformed 1 z (ap (judge (takes j)) q) (omega arith) (omega arith) (omega arith)))

  -- ---- demand 1

  -- as many records as were lent: the reduced list has no more
  listed_length : (h : Head) (r : List Gate) → Yields j e h r → length (filled r e.list) ≡ length e.list
  unfolding judged
  listed_length h r y =
      let p = judged_accepted (takes j) e (accepts_judged (takes j) e.text (length e.list) y.accepts) in
      filled_length r e.list (omega (arith, (facts p y.reduced).short, p.room))

  demanded : Came j e x → Demand1 j e x
  demanded (turned r l d q) =
      let f = refusal_is r l e q in
      record {
        by_table = λ n k. (λ t. rw (← t.0, ← t.1) (due (turned r l d q)), told);
        empty = empty_told;
        refusal_leaves = λ _. refuses r l e q;
        success_leaves = λ z. absurd (omega (arith, from_1 r, f.0, z));
        lengths = (ap length f.3 ∙ left_length r e.list, ap length f.4);
      }
  demanded (succeeded h r n a d y q t k) = record {
    by_table = λ m l. (λ i. rw (← i.0, ← i.1) (due (succeeded h r n a d y q t k)), told);
    empty = empty_told;
    refusal_leaves = λ u. absurd (omega (arith, u, ap (λ (o : Exit). o.number) q));
    success_leaves = λ _. (h, r, y, rw q t);
    lengths = (ap (λ (o : Exit). length o.list) q ∙ listed_length h r y, ap (λ (o : Exit). length o.area) q ∙ k);
  }

pub demand_1 : (j : Job) (e : Entry) (x : Exit) → Says j e x → Demand1 j e x
demand_1 j e x s = demanded j e x s (came j e x s)
