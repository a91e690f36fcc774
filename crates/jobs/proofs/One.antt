-- For every entry there is exactly one exit that a job's contract allows. Assumes nothing.
use mathlib.Core.Path.{◌≡◌, refl, sym, ap, ◌∙◌, subst}
use mathlib.Core.List.{List}
use Prim.Native.Nat.{ℕ, ◌≤◌}
use lib.ListN.{length}
use Rattle.gates.specs.declared.Gate.{Gate}
use Rattle.gates.specs.Circuit.{AllValid}
use Rattle.gates.specs.Reduced.{Reduced}
use Rattle.gates.proofs.Theorem.{nf, reduced_unique}
use Rattle.gates.proofs.ReducedLists.{one_reduced_list, reduced_is_nf}
use Rattle.text.specs.declared.Head.{Head}
use Rattle.text.specs.declared.Kind.{Kind}
use Rattle.text.specs.Judging.{Judged, turned_away, accepted}
use Rattle.text.proofs.Accepted.{Text, accepted_head, accepted_circuit, judge_accepted, text_valid}
use Rattle.habits.specs.Demands.{One}
use Rattle.jobs.specs.Jobs.{Job, takes, Entry, refusal, judged, judged_text, answered, Settled, Says}
use Rattle.jobs.proofs.Habits.{judged_accepts}

-- what rules 1 and 2 let pass: a text, for a gate list of this many records
pub record Passed (k : Kind) (s : List ℕ) (records : ℕ) (h : Head) (c : List Gate) : Type 0 where
  pub small : length s ≤ 60000
  pub room : 4096 ≤ records
  pub text : Text k h s c

pub text_passed : (k : Kind) (s : List ℕ) (records : ℕ) {h : Head} {c : List Gate} → judged_text k s records ≡ accepted h c → Passed k s records h c
text_passed k s records q = let a = judged_accepts k s records q in record { small = a.sized.small; room = a.sized.room.0; text = judge_accepted k s a.judged }

pub judged_accepted : (k : Kind) (e : Entry) {h : Head} {c : List Gate} → judged k e ≡ accepted h c → Passed k e.text (length e.list) h c
unfolding judged
judged_accepted k e q = text_passed k e.text (length e.list) q

pub passed_valid : {k : Kind} {s : List ℕ} {records : ℕ} {h : Head} {c : List Gate} → Passed k s records h c → AllValid h.lines c
passed_valid w = text_valid w.text

-- a judgement leaves one reduced list
pub accepted_one : {h g : Head} {c d r s : List Gate} → accepted h c ≡ accepted g d → Reduced h.lines c r → Reduced g.lines d s → r ≡ s
accepted_one {h} {g} {c} {d} {r} {s} q v w = reduced_unique h.lines v
    (subst (λ (b : List Gate). Reduced h.lines b s) (sym (accepted_circuit q)) (subst (λ (f : Head). Reduced f.lines d s) (sym (accepted_head q)) w))

-- and that is the normal form
pub is_nf : {n : ℕ} {c r : List Gate} → AllValid n c → Reduced n c r → r ≡ nf c
is_nf {n} {c} {r} v w = sym ((reduced_is_nf n c r v).0 w)

-- ---- the one exit

-- by what its text was judged to be, with a circuit on the lines of the head
pub settled_one : (j : Job) (e : Entry) (d : Judged) → ((h : Head) (c : List Gate) → d ≡ accepted h c → AllValid h.lines c) → One (Settled j e d)
unfolding Settled
settled_one j e (turned_away r l) v = (refusal r l e, refl, λ y h. h)
settled_one j e (accepted h c) v =
    let y = one_reduced_list h.lines c (v h c refl) in
    (answered j e h y.0, (y.0, y.1, refl), λ x z. z.2 ∙ ap (answered j e h) (sym (y.2 z.0 z.1)))

-- the contract binds completely
pub says_one : (j : Job) (e : Entry) → One (Says j e)
unfolding Says
says_one j e = settled_one j e (judged (takes j) e) (λ h c q. passed_valid (judged_accepted (takes j) e q))
