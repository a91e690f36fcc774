-- What map, reduce and quote said before map told its gates (the definitions of then, word for word), and that they say it still: map with an
-- answer area of a byte or more, reduce with any; and map with an area of length 0 what quote said. Assumes nothing.
use Prim.Native.Nat.{ℕ, ◌≤◌}
use mathlib.Core.Path.{◌≡◌, refl, sym, ap, ◌∙◌, subst}
use mathlib.Core.Logic.{◌↔◌}
use mathlib.Core.Bool.{Bool, true, false, cond}
use mathlib.Core.List.{List, ◌++◌}
use lib.ListN.{length, drop}
use lib.Dec.{ltb}
use Rattle.gates.specs.declared.Gate.{Gate}
use Rattle.gates.specs.Reduced.{Reduced}
use Rattle.text.specs.declared.Refusal.{Refusal}
use Rattle.text.specs.declared.Refusal.TheVariants.{ShortAnswer}
use Rattle.text.specs.declared.Head.{Head}
use Rattle.text.specs.declared.Kind.{Kind}
use Rattle.text.specs.declared.Kind.TheVariants.{Cascade, Circuit}
use Rattle.text.specs.Refusals.{number_of}
use Rattle.text.specs.Text.{circuit_text}
use Rattle.text.specs.Judging.{Judged, turned_away, accepted}
use Rattle.habits.specs.Habits.{left, filled}
use Rattle.jobs.specs.Jobs as now
use Rattle.jobs.specs.Jobs.{Output, as_text, as_count, Entry, judged}
use Rattle.demands.proofs.Demands.{text_wanted, count_wanted}

-- ---- the definitions of then

pub data Job : Type 0 where
  mapping reducing quoting : Job

unfoldable pub takes : Job → Kind
takes mapping = Cascade
takes reducing = Circuit
takes quoting = Cascade

abbrev pub output : Job → Output
output mapping = as_text
output reducing = as_text
output quoting = as_count

pub record Exit : Type 0 where
  pub number : ℕ
  pub line : ℕ
  pub count : ℕ
  pub list : List Gate
  pub area : List ℕ

unfoldable pub refusal : Refusal → ℕ → Entry → Exit
refusal r l e = record { number = number_of r; line = l; count = 0; list = left r e.list; area = e.area }

abbrev pub success : Entry → List Gate → ℕ → List ℕ → Exit
success e r n a = record { number = 0; line = 0; count = n; list = filled r e.list; area = a }

unfoldable pub written : Entry → List Gate → List ℕ → Exit
written e r s =
    cond (ltb (length e.area) (length s)) (refusal ShortAnswer 0 e) (success e r (length s) (s ++ drop (length s) e.area))

abbrev pub put_out : Output → Entry → Head → List Gate → Exit
put_out as_text e h r = written e r (circuit_text h.lines r)
put_out as_count e h r = success e r (length r) e.area

unfoldable pub answered : Job → Entry → Head → List Gate → Exit
answered j e h r = put_out (output j) e h r

unfoldable pub Settled : Job → Entry → Judged → Exit → Type 0
Settled j e (turned_away r l) x = x ≡ refusal r l e
Settled j e (accepted h c) x = (r : List Gate) × Reduced h.lines c r × (x ≡ answered j e h r)

unfoldable pub Says : Job → Entry → Exit → Type 0
Says j e x = Settled j e (judged (takes j) e) x

-- ---- what is said now, as it was told then

-- the count is that of the bytes: gates are not told
abbrev pub with_bytes : now.Exit → Exit
with_bytes x = record { number = x.number; line = x.line; count = x.bytes; list = x.list; area = x.area }

-- the count is that of the gates: bytes are not told
abbrev pub with_gates : now.Exit → Exit
with_gates x = record { number = x.number; line = x.line; count = x.gates; list = x.list; area = x.area }

-- a job of now and one of then that take the same kind of text, of this entry, whose refusals and whose answers are the same as they were told
module _ (i : now.Job) (j : Job) (e : Entry) (as_told : now.Exit → Exit) (same_kind : now.takes i ≡ takes j)
    (refusals : (r : Refusal) (l : ℕ) → as_told (now.refusal r l e) ≡ refusal r l e) (answers : (h : Head) (r : List Gate) → as_told (now.answered i e h r) ≡ answered j e h r) where
  settled_then : (d : Judged) (x : now.Exit) → now.Settled i e d x → Settled j e d (as_told x)
  unfolding now.Settled Settled
  settled_then (turned_away r l) x q = ap as_told q ∙ refusals r l
  settled_then (accepted h c) x (r, w, q) = (r, w, ap as_told q ∙ answers h r)

  settled_now : (d : Judged) (y : Exit) → Settled j e d y → (x : now.Exit) × now.Settled i e d x × (as_told x ≡ y)
  unfolding now.Settled Settled
  settled_now (turned_away r l) y q = (now.refusal r l e, refl, refusals r l ∙ sym q)
  settled_now (accepted h c) y (r, w, q) = (now.answered i e h r, (r, w, refl), answers h r ∙ sym q)

  -- what was said then is what is said now
  same_answers : (y : Exit) → Says j e y ↔ ((x : now.Exit) × now.Says i e x × (as_told x ≡ y))
  unfolding now.Says Says
  same_answers y = (
    λ s. settled_now (judged (now.takes i) e) y (rw same_kind s),
    λ (x, s, q). subst (Settled j e (judged (takes j) e)) q (rw (← same_kind) (settled_then (judged (now.takes i) e) x s)),
  )

refusal_bytes : (e : Entry) (r : Refusal) (l : ℕ) → with_bytes (now.refusal r l e) ≡ refusal r l e
unfolding now.refusal refusal
refusal_bytes e r l = refl

refusal_gates : (e : Entry) (r : Refusal) (l : ℕ) → with_gates (now.refusal r l e) ≡ refusal r l e
unfolding now.refusal refusal
refusal_gates e r l = refl

-- a written answer is the one of then
pub written_before : (e : Entry) (r : List Gate) (s : List ℕ) → with_bytes (now.written e r s) ≡ written e r s
unfolding now.written written
written_before e r s = go (ltb (length e.area) (length s))
  where
    go : (b : Bool) → with_bytes (cond b (now.refusal ShortAnswer 0 e) (now.success e r (length s) (s ++ drop (length s) e.area))) ≡ cond b (refusal ShortAnswer 0 e) (success e r (length s) (s ++ drop (length s) e.area))
    go true = refusal_bytes e ShortAnswer 0
    go false = refl

-- ---- the three theorems

-- "A mapping with a real area answers as it did": number, line, bytes, list and area
pub mapping_before : (e : Entry) → 1 ≤ length e.area → (y : Exit) → Says mapping e y ↔ ((x : now.Exit) × now.Says now.mapping e x × (with_bytes x ≡ y))
unfolding now.takes takes now.answered answered
mapping_before e h = same_answers now.mapping mapping e with_bytes refl (refusal_bytes e) (λ g r. rw (text_wanted now.mapping (length e.area) h) (written_before e r (circuit_text g.lines r)))

-- reduce answers as it did, with any area
pub reducing_before : (e : Entry) (y : Exit) → Says reducing e y ↔ ((x : now.Exit) × now.Says now.reducing e x × (with_bytes x ≡ y))
unfolding now.takes takes now.answered answered
reducing_before e = same_answers now.reducing reducing e with_bytes refl (refusal_bytes e) (λ g r. written_before e r (circuit_text g.lines r))

-- with an area of length 0 map answers as quote did: number, line, gates, list and area
pub quoting_before : (e : Entry) → length e.area ≡ 0 → (y : Exit) → Says quoting e y ↔ ((x : now.Exit) × now.Says now.mapping e x × (with_gates x ≡ y))
unfolding now.takes takes now.answered answered
quoting_before e z = same_answers now.mapping quoting e with_gates refl (refusal_gates e) (λ g r. rw (count_wanted (length e.area) z) refl)
