-- What a job left in the area, and what was written into it then, is what the job's program writes. Assumes nothing.
use mathlib.Core.Path.{◌≡◌, refl, sym, ap, ◌∙◌, subst}
use mathlib.Core.List.{List, [], ◌++◌}
use Prim.Native.Nat.{ℕ, ◌≤◌}
use native.Mathlib.Omega.{arith}
use lib.ListN.{length, drop, replicate, length-replicate}
use borrow.Author.Tests.{le-ltb}
use Rattle.gates.specs.declared.Gate.{Gate}
use Rattle.gates.specs.declared.Gate.TheVariants.{Not}
use Rattle.gates.specs.Circuit.{done}
use Rattle.gates.specs.Reduced.{Reduced}
use Rattle.records.specs.declared.Outcome.{Outcome}
use Rattle.text.specs.declared.Refusal.{Refusal}
use Rattle.text.specs.declared.Head.{Head}
use Rattle.text.specs.Refusals.{number_of}
use Rattle.text.specs.Text.{circuit_text}
use Rattle.text.specs.Judging.{Judged, turned_away, accepted}
use Rattle.text.proofs.Longest.{text_length}
use Rattle.writing.specs.Decimal as form
use Rattle.jobs.specs.Jobs.{Job, mapping, reducing, takes, Output, as_text, as_count, output, wanted, Entry, Exit, refusal, judged, judged_text, success, written, put_out, answered, Settled, Says}
use Rattle.jobs.specs.Handing.{exit_of, Own}
use Rattle.jobs.proofs.One.{text_passed}
use Rattle.demands.proofs.Demands.{text_wanted}
use Rattle.demands.proofs.Numbers.{from_1, text_count}
use Rattle.console.specs.declared.Program.{Program}
use Rattle.console.specs.declared.Program.TheVariants.{Map, Reduce, Quote}
use Rattle.console.specs.Output.{job_of, output_of, shown, PrintsBy, answer_bytes, Fronts, Answers, Does, Succeeds}

-- ---- what a job left of the area a, with its outcome o

-- on success, with these counts: the text at the front; nothing, where gates are counted alone
abbrev pub Stands : Output → ℕ → List Gate → List ℕ → (gates bytes : ℕ) → List ℕ → Type 0
Stands as_text n r a gates bytes b = Fronts a bytes b (circuit_text n r)
Stands as_count n r a gates bytes b = (gates ≡ length r) × (b ≡ a)

-- where the text was judged to be d, and this is put out
pub data Left (d : Judged) (w : Output) (a : List ℕ) (o : Outcome) (b : List ℕ) : Type 0 where
  -- the area is as it was
  refused : {r : Refusal} {l : ℕ} → d ≡ turned_away r l → o.number ≡ number_of r → o.line ≡ l → b ≡ a → Left d w a o b
  succeeded : {h : Head} {c r : List Gate} → d ≡ accepted h c → Reduced h.lines c r → o.number ≡ 0 → Stands w h.lines r a o.gates o.bytes b → Left d w a o b

-- what a job puts out by the reduced list r, in an area that is long enough
stands : (w : Output) (e : Entry) (h : Head) (r : List Gate) (x : Exit) → (w ≡ as_text → length (circuit_text h.lines r) ≤ length e.area) → x ≡ put_out w e h r → (x.number ≡ 0) × Stands w h.lines r e.area x.gates x.bytes x.area
unfolding written
stands as_text e h r x room q =
    let t = circuit_text h.lines r in
    let z : x ≡ success e r (length t) (t ++ drop (length t) e.area) = q ∙ rw (le-ltb (length e.area) (length t) (room refl)) in
    (ap (λ (y : Exit). y.number) z, rw z (record { number = refl; bytes = refl }))
stands as_count e h r x room q = (ap (λ (y : Exit). y.number) q, (ap (λ (y : Exit). y.gates) q, ap (λ (y : Exit). y.area) q))

-- by a job that answers as j does, on a circuit of at most 4,096 gates
pub settled_left : (j : Job) (e : Entry) (o : Outcome) (l : List Gate) (b : List ℕ) (d : Judged) → ((h : Head) (c : List Gate) → d ≡ accepted h c → length c ≤ 4096) → (wanted j e ≡ as_text → answer_bytes ≤ length e.area)
    → Settled j e d (exit_of o l b) → Left d (wanted j e) e.area o b
unfolding Settled answered refusal
settled_left j e o l b (turned_away r i) short room z = refused refl (ap (λ (y : Exit). y.number) z) (ap (λ (y : Exit). y.line) z) (ap (λ (y : Exit). y.area) z)
settled_left j e o l b (accepted h c) short room (r, y, z) =
    let k = stands (wanted j e) e h r (exit_of o l b) (λ i. omega (arith, room i, text_length h.lines r, y.fewest c done, short h c refl)) z in
    succeeded refl y k.0 k.1

-- by one with a gate list of its own
pub own_left : (j : Job) (s a : List ℕ) (o : Outcome) (b : List ℕ) → (output j (length a) ≡ as_text → answer_bytes ≤ length a) → Own j s a o b → Left (judged_text (takes j) s 4096) (output j (length a)) a o b
unfolding judged Says
own_left j s a o b room (l, says) =
    let e : Entry = record { text = s; list = replicate 4096 (Not 0); area = a } in
    settled_left j e o l b (judged_text (takes j) s 4096) (λ h c q. (text_passed (takes j) s 4096 q).text.short) room
    (subst (λ (n : ℕ). Settled j e (judged_text (takes j) s n) (exit_of o l b)) (length-replicate 4096 (Not 0)) says)

-- where the area is that of a program
pub area_left : (j : Job) (s a : List ℕ) (o : Outcome) (b : List ℕ) → answer_bytes ≤ length a → Own j s a o b → Left (judged_text (takes j) s 4096) as_text a o b
area_left j s a o b room d = subst (λ (w : Output). Left (judged_text (takes j) s 4096) w a o b) (text_wanted j (length a) (omega (arith, room))) (own_left j s a o b (λ _. room) d)

-- where map was lent none: a is any other, left as it was
unlent : (d : Judged) (a : List ℕ) (o : Outcome) (b : List ℕ) → b ≡ a → Left d as_count [] o [] → Left d as_count a o b
unlent d a o b e (refused q n i k) = refused q n i e
unlent d a o b e (succeeded q w z (n, k)) = succeeded q w z (n, e)

pub does_left : (p : Program) (s a : List ℕ) (o : Outcome) (b : List ℕ) → answer_bytes ≤ length a → Does p s a o b → Left (judged_text (takes (job_of p)) s 4096) (output_of p) a o b
does_left Map s a o b room d = area_left mapping s a o b room d
does_left Reduce s a o b room d = area_left reducing s a o b room d
does_left Quote s a o b room (d, e) = unlent _ a o b e (own_left mapping s [] o [] (λ w. absurd (text_count (sym w))) d)

-- ---- what is written then

pub prints_refusal : (w : Output) {d : Judged} {r : Refusal} {l : ℕ} → d ≡ turned_away r l → PrintsBy w d (form.turned_away (number_of r) l)
unfolding PrintsBy
prints_refusal w {d} {r} {l} q = subst (λ (d : Judged). PrintsBy w d (form.turned_away (number_of r) l)) (sym q) refl

pub prints_success : (w : Output) {d : Judged} {h : Head} {c r : List Gate} → d ≡ accepted h c → Reduced h.lines c r → PrintsBy w d (shown w h.lines r)
unfolding PrintsBy
prints_success w {h = h} {r = r} q x = subst (λ (d : Judged). PrintsBy w d (shown w h.lines r)) (sym q) (r, x, refl)

-- with the counts put out, the success stands at the front
fronted : (k : Output) (m : ℕ) (r : List Gate) (a : List ℕ) (gates bytes : ℕ) (b : List ℕ) (n : ℕ) (d : List ℕ) → Stands k m r a gates bytes b → Succeeds k gates bytes b n d → Fronts a n d (shown k m r)
fronted as_text m r a gates bytes b n d f (x, y) = rw (x, y) f
fronted as_count m r a gates bytes b n d (x, y) f = rw (x, y) at f

module _ (d : Judged) (w : Output) (a : List ℕ) (o : Outcome) (b : List ℕ) (n : ℕ) (e : List ℕ) where
  -- the refusal
  pub refusal_answers : Left d w a o b → (o.number ≡ 0 → ⊥) → Fronts b n e (form.turned_away o.number o.line) → Answers (PrintsBy w d) a n e
  refusal_answers (refused {r} {l} q i k z) h f = record { written = form.turned_away (number_of r) l; prints = prints_refusal w q; fronts = rw (i, k, z) at f }
  refusal_answers (succeeded q x z k) h f = absurd (h z)

  -- the success
  pub success_answers : Left d w a o b → o.number ≡ 0 → Succeeds w o.gates o.bytes b n e → Answers (PrintsBy w d) a n e
  success_answers (refused {r} q i k z) h f = absurd (omega (arith, from_1 r, i, h))
  success_answers (succeeded {h} {c} {r} q x y k) z f =
      record { written = shown w h.lines r; prints = prints_success w q x; fronts = fronted w h.lines r a o.gates o.bytes b n e k f }
