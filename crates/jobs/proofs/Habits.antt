-- Map and reduce keep the habits: what each says is what the habits say of one text, one gate list and one area, but for the text number and the
-- gates.
-- Assumes nothing.
use Prim.Native.Nat.{ℕ}
use mathlib.Core.Path.{◌≡◌, refl, sym, ap, ◌∙◌, subst}
use mathlib.Core.Bool.{Bool, true, false, cond}
use mathlib.Core.List.{List, [], ◌∷◌, ◌++◌}
use native.Mathlib.Omega.{arith}
use lib.ListN.{length, drop}
use lib.Dec.{ltb}
use borrow.Author.Tests.{le-ltb}
use Rattle.gates.specs.declared.Gate.{Gate}
use Rattle.text.specs.declared.Refusal.{Refusal}
use Rattle.text.specs.declared.Refusal.TheVariants.{ShortAnswer}
use Rattle.text.specs.declared.Head.{Head}
use Rattle.text.specs.declared.Kind.{Kind}
use Rattle.text.specs.Refusals.{number_of}
use Rattle.text.specs.Text.{circuit_text}
use Rattle.text.specs.Judging.{Judged, turned_away, accepted, Found, sound, breaks, first, or_else, judge}
use Rattle.text.proofs.Accepted.{away_accepted}
use Rattle.habits.specs.Habits as habits
use Rattle.habits.specs.Habits.{Judgement, away, ◌then◌, passes, size_rules, taken, Circuit, told, text_judged, all_filled}
use Rattle.habits.specs.Demands.{Sized, Refuses, Accepts}
use Rattle.habits.proofs.Rules.{Sizes, too_long, too_few, passing, sizes}
use Rattle.habits.proofs.Yields.{away_is, away_fine}
use Rattle.habits.proofs.Refused.{refuses_exactly_if}
use Rattle.jobs.specs.Jobs.{Job, takes, Output, as_text, as_count, wanted, Entry, Exit, refusal, judged_text, judged, success, written, put_out, answered, Settled, Says}
use Rattle.jobs.specs.Habits.{answer, Right, lent, Keeps, Agrees}

-- ---- judging

-- whatever its text number, a text is judged as the habits say
pub judged_told : (t : ℕ) (k : Kind) (s : List ℕ) (records : ℕ) → text_judged t k s (records ∷ []) ≡ told t (judged_text k s records)
unfolding text_judged taken passes told judged_text or_else
judged_told t k s records = go (first (size_rules (length s) (records ∷ [])))
  where
    go : (f : Found) → (passes f t 0 then λ _. told t (judge k s)) ≡ told t (or_else f 0 (judge k s))
    go sound = refl
    go (breaks r) = refl

-- a refusal that is told was judged
told_away : (d : Judged) {r : Refusal} {l : ℕ} → told 1 d ≡ away r 1 l → d ≡ turned_away r l
unfolding told
told_away (turned_away q m) e = let z = away_is e in rw (z.0, z.2)
told_away (accepted h c) e = absurd (away_fine (sym e))

-- the text s of kind k, with which a gate list of so many records is judged
module _ (k : Kind) (s : List ℕ) (records : ℕ) where
  -- what refuses it is in the table
  pub judged_refuses : {r : Refusal} {l : ℕ} → judged_text k s records ≡ turned_away r l → Refuses k s (records ∷ []) (number_of r) l
  unfolding told
  judged_refuses {r} {l} q = (refuses_exactly_if 1 k s (records ∷ []) (number_of r) l).1 (r, judged_told 1 k s records ∙ ap (told 1) q, refl)

  -- and each row of the table refuses it
  pub refuses_judged : {n l : ℕ} → Refuses k s (records ∷ []) n l → (r : Refusal) × (judged_text k s records ≡ turned_away r l) × (number_of r ≡ n)
  refuses_judged {n} {l} d =
      let z = (refuses_exactly_if 1 k s (records ∷ []) n l).0 d in
      (z.0, told_away (judged_text k s records) (sym (judged_told 1 k s records) ∙ z.1), z.2)

  -- what rules 1 and 2 let pass is judged by its lines
  pub judged_sized : Sized s (records ∷ []) → judged_text k s records ≡ judge k s
  unfolding judged_text or_else
  judged_sized z = go (sizes s (records ∷ []))
    where
      go : {f : Found} → Sizes s (records ∷ []) f → or_else f 0 (judge k s) ≡ judge k s
      go (too_long h) = let l = z.small in absurd (omega arith)
      go (too_few h l) = absurd (l z.room)
      go (passing y) = refl

  -- what is accepted passes every rule
  pub judged_accepts : {h : Head} {c : List Gate} → judged_text k s records ≡ accepted h c → Accepts k s (records ∷ []) h c
  unfolding judged_text or_else
  judged_accepts {h} {c} q = go (sizes s (records ∷ [])) q
    where
      go : {f : Found} → Sizes s (records ∷ []) f → or_else f 0 (judge k s) ≡ accepted h c → Accepts k s (records ∷ []) h c
      go (too_long a) z = absurd (away_accepted z)
      go (too_few a b) z = absurd (away_accepted z)
      go (passing y) z = record { sized = y; judged = z }

  -- and what passes every rule is accepted
  pub accepts_judged : {h : Head} {c : List Gate} → Accepts k s (records ∷ []) h c → judged_text k s records ≡ accepted h c
  accepts_judged a = judged_sized a.sized ∙ a.judged

-- ---- exits

module _ (e : Entry) where
  -- a refusal
  refused : (r : Refusal) (t l : ℕ) → Agrees (habits.refusal r t l (lent e)) (refusal r l e)
  unfolding habits.refusal refusal
  refused r t l = record { number = refl; line = refl; bytes = refl; list = refl; area = refl }

  -- a success with the text s
  succeeded : (r : List Gate) (s : List ℕ) → Agrees (habits.success (record { count = length s; circuits = r ∷ []; text = s }) (lent e)) (success e r (length s) (s ++ drop (length s) e.area))
  unfolding habits.success all_filled
  succeeded r s = record { number = refl; line = refl; bytes = refl; list = refl; area = refl }

  -- an answer, or refusal 10
  answers : (o : Output) (h : Head) (r : List Gate) → Agrees (habits.answered (answer o h.lines r) (lent e)) (put_out o e h r)
  unfolding habits.answered written
  answers as_text h r = go (ltb (length e.area) (length s))
    where
      s : List ℕ
      s = circuit_text h.lines r

      go : (b : Bool) → Agrees (cond b (habits.refusal ShortAnswer 0 0 (lent e)) (habits.success (answer as_text h.lines r) (lent e))) (cond b (refusal ShortAnswer 0 e) (success e r (length s) (s ++ drop (length s) e.area)))
      go true = refused ShortAnswer 0 0
      go false = succeeded r s
  answers as_count h r = rw (le-ltb (length e.area) 0 (omega arith)) (succeeded r [])

-- ---- the contracts

module _ (j : Job) (e : Entry) where
  -- what the habits say of what was judged
  abbrev By : Judgement Circuit → habits.Exit → Type 0
  By v x = habits.Says v (Right (wanted j e)) (lent e) x

  -- what the habits say, the job says with some gates
  pub kept_says : (x : habits.Exit) → Keeps j e x → (y : Exit) × Says j e y × Agrees x y
  unfolding Keeps habits.Says told Says Settled judged answered
  kept_says x k = go (judged (takes j) e) (subst (λ (v : Judgement Circuit). By v x) (judged_told 1 (takes j) e.text (length e.list)) k)
    where
      go : (d : Judged) → By (told 1 d) x → (y : Exit) × Settled j e d y × Agrees x y
      go (turned_away r l) z = (refusal r l e, refl, rw z (refused e r 1 l))
      go (accepted h c) (w, (r, f, i), z) = (put_out (wanted j e) e h r, (r, f, refl), rw (z, i) (answers e (wanted j e) h r))

  -- what the job says, the habits say with some text number
  pub says_kept : (y : Exit) → Says j e y → (x : habits.Exit) × Keeps j e x × Agrees x y
  unfolding Keeps habits.Says told Says Settled judged answered
  says_kept y k = let z = go (judged (takes j) e) k in (z.0, subst (λ (v : Judgement Circuit). By v z.0) (sym (judged_told 1 (takes j) e.text (length e.list))) z.1, z.2)
    where
      go : (d : Judged) → Settled j e d y → (x : habits.Exit) × By (told 1 d) x × Agrees x y
      go (turned_away r l) z = (habits.refusal r 1 l (lent e), refl, rw z (refused e r 1 l))
      go (accepted h c) (r, f, i) = let w = answer (wanted j e) h.lines r in (habits.answered w (lent e), (w, (r, f, refl), refl), rw i (answers e (wanted j e) h r))

  -- what a job says is what the habits say, but for the text number and the gates
  pub base_keeps : ((y : Exit) → Says j e y → (x : habits.Exit) × Keeps j e x × Agrees x y) × ((x : habits.Exit) → Keeps j e x → (y : Exit) × Says j e y × Agrees x y)
  base_keeps = (says_kept, kept_says)
