-- What the C functions promise follows from what is handed over to them, and it leaves no choice. Assumes nothing.
use mathlib.Core.Path.{◌≡◌, refl, sym, ap, ◌∙◌}
use mathlib.Core.Bool.{Bool, true, false, cond}
use mathlib.Core.List.{List, [], ◌∷◌, ◌++◌}
use Prim.Native.Nat.{ℕ, zero, suc, ◌-◌}
use native.Mathlib.Omega.{arith}
use lib.Dec.{eqb}
use lib.ListN.{length, get_or, take, drop, replicate, drop_of_length-le}
use Rattle.gates.specs.declared.Gate.{Gate}
use Rattle.gates.specs.declared.Gate.TheVariants.{Not}
use Rattle.gates.specs.Circuit.{valid_not}
use Rattle.gates.specs.Code.{assembled, gate, gates, Code, AllCodes}
use Rattle.gates.proofs.Codes.{code_not, code_code}
use Rattle.gates.proofs.CodeLists.{length_gates, gates_append, gates_drop, code_gates, all_codes_append}
use Rattle.records.specs.declared.Done.{Done}
use Rattle.records.specs.declared.TextOutcome.{TextOutcome}
use Rattle.records.specs.declared.Outcome.{Outcome}
use Rattle.records.specs.declared.DoneTwo.{DoneTwo}
use Rattle.records.specs.declared.Filling.{Filling}
use Rattle.records.specs.Records as R
use Rattle.records.specs.Records.{filled_by}
use Rattle.habits.specs.Habits as habits
use Rattle.habits.specs.Demands.{One}
use Rattle.jobs.specs.Jobs.{Job, Exit}
use Rattle.outcomes.specs.Outcomes.{limit_of, Settles}
use Rattle.jobs.specs.Handing.{HandsOne, HandsText, HandsTwo}
use Rattle.jobs.proofs.One.{says_one}
use Rattle.inversion.specs.Invert.{Invert}
use Rattle.inversion.proofs.One.{invert_one}
use Rattle.joins.specs.Join.{Join}
use Rattle.joins.proofs.One.{join_one}
use Rattle.comparison.specs.Compare.{Compare}
use Rattle.comparison.proofs.One.{compare_one}
use Rattle.slips.specs.Slip.{Slip}
use Rattle.slips.proofs.One.{slip_one}
use Rattle.storing.specs.Storing.{not_0, front, written, stored}
use Rattle.capi.specs.Exported.{codes, numbers, four, TellsOne, Tells, TellsText, TellsTwo}

-- ---- the number of `not 0`

gates_not_0 : (m : ℕ) → gates (replicate m not_0) ≡ replicate m (Not 0)
unfolding gate assembled
gates_not_0 zero = refl
gates_not_0 (suc m) = ap (λ (l : List Gate). Not 0 ∷ l) (gates_not_0 m)

code_not_0 : Code 32 not_0
code_not_0 = rw (code_not 0) (code_code {n = 32} {g = Not 0} (omega arith) (valid_not (omega arith)))

codes_not_0 : (m : ℕ) → AllCodes 32 (replicate m not_0)
codes_not_0 zero = tt
codes_not_0 (suc m) = (code_not_0, codes_not_0 m)

-- ---- the list at exit

-- the numbers that are written are those of the gates that the job's list would hold
gates_written : (ks : List ℕ) (count limit : ℕ) (l : List ℕ) → gates (written ks count limit l) ≡ R.written ks count limit (gates l)
gates_written ks count limit l =
    gates_append (front ks count limit) (drop limit l)
    ∙ ap (λ (f : List Gate). f ++ gates (drop limit l)) (gates_append (take count ks) (replicate (limit - count) not_0) ∙ ap (λ (f : List Gate). gates (take count ks) ++ f) (gates_not_0 (limit - count)))
    ∙ ap (λ (f : List Gate). (gates (take count ks) ++ replicate (limit - count) (Not 0)) ++ f) (gates_drop limit l)

-- what is handed over for a list with this number
module _ (number : ℕ) (f : Filling) (l : List ℕ) (w : Settles number (length l) f) where
  pub gates_stored : gates (stored f l) ≡ filled_by f (gates l)
  gates_stored = gates_written f.codes f.gates f.limit l

  unchanged : f.limit ≡ 0 → stored f l ≡ l
  unchanged h =
      let none : f.gates ≡ 0 = omega (arith, w.fits.few, h) in
      rw (none, h)

  coded : f.limit ≡ length l → stored f l ≡ codes (gates (stored f l))
  coded h =
      let rest : drop f.limit l ≡ [] = drop_of_length-le l {i = f.limit} (omega (arith, h)) in
      sym (code_gates 32 (stored f l) (all_codes_append 32 (front f.codes f.gates f.limit) (drop f.limit l)
      (all_codes_append 32 (take f.gates f.codes) (replicate (f.limit - f.gates) not_0) w.fits.valid (codes_not_0 (f.limit - f.gates)))
      (rw rest tt)))

  pub stored_numbers : stored f l ≡ numbers number l (gates (stored f l))
  unfolding numbers limit_of
  stored_numbers = go (eqb number 1) (eqb number 2) w.limit
    where
      go : (b c : Bool) → f.limit ≡ cond b 0 (cond c 0 (length l)) → stored f l ≡ cond b l (cond c l (codes (gates (stored f l))))
      go true c e = unchanged e
      go false true e = unchanged e
      go false false e = coded e

-- what a job hands over, written into the list and the outcome
pub told : {Says : List Gate → Exit → Type 0} {l : List ℕ} {d : Done Outcome} {o l' a' : List ℕ} → HandsOne Says (length l) d a'
    → (l' ≡ stored d.filling l) × (o ≡ four d.outcome.number d.outcome.line d.outcome.gates d.outcome.bytes) → TellsOne Says l o l' a'
told {l = l} {d} w over = rw (over.0, over.1) (record {
  answer = d.outcome;
  outcome = refl;
  said = rw (gates_stored d.outcome.number d.filling l w.settles) (w.tells (gates l) (length_gates l));
  list = stored_numbers d.outcome.number d.filling l w.settles;
})

-- the same of a job over several texts and one list
pub told_text : {Says : List Gate → habits.Exit → Type 0} {l : List ℕ} {d : Done TextOutcome} {o l' a' : List ℕ} → HandsText Says (length l) d a'
    → (l' ≡ stored d.filling l) × (o ≡ four d.outcome.number d.outcome.line d.outcome.text d.outcome.count) → TellsText Says l o l' a'
told_text {l = l} {d} w over = rw (over.0, over.1) (record {
  answer = d.outcome;
  outcome = refl;
  said = rw (gates_stored d.outcome.number d.filling l w.settles) (w.tells (gates l) (length_gates l));
  list = stored_numbers d.outcome.number d.filling l w.settles;
})

-- the same of a job over several texts and two lists
pub told_two : {Says : List Gate → List Gate → habits.Exit → Type 0} {l k : List ℕ} {d : DoneTwo} {o l' k' : List ℕ} → HandsTwo Says (length l) (length k) d
    → (l' ≡ stored d.first l) × (k' ≡ stored d.second k) × (o ≡ four d.outcome.number d.outcome.line d.outcome.text d.outcome.count) → TellsTwo Says l k o l' k'
told_two {Says} {l} {k} {d} w over = rw (over.0, over.1, over.2) (record {
  answer = d.outcome;
  outcome = refl;
  said =
      rw (gates_stored d.outcome.number d.first l w.first, gates_stored d.outcome.number d.second k w.second)
      (w.tells (gates l) (gates k) (length_gates l) (length_gates k));
  first = stored_numbers d.outcome.number d.first l w.first;
  second = stored_numbers d.outcome.number d.second k w.second;
})

-- ---- the promise settles all that is lent: whatever keeps it leaves the same outcome, the same list and the same area

-- of a job whose contract allows exactly one exit
module _ {Says : List Gate → Exit → Type 0} (l : List ℕ) (one : One (Says (gates l))) where
  pub tells_one_one : {o l' a' p m b : List ℕ} → TellsOne Says l o l' a' → TellsOne Says l p m b → (o ≡ p) × (l' ≡ m) × (a' ≡ b)
  tells_one_one t u =
      let e = one.2 _ t.said ∙ sym (one.2 _ u.said) in (
        t.outcome ∙ ap (λ (x : Exit). four x.number x.line x.gates x.bytes) e ∙ sym u.outcome,
        t.list ∙ ap (λ (x : Exit). numbers x.number l x.list) e ∙ sym u.list,
        ap (λ (x : Exit). x.area) e,
      )

-- so do those of map and reduce, and of invert
pub tells_one : (j : Job) (s l a : List ℕ) {o l' a' p m b : List ℕ} → Tells j s l a o l' a' → Tells j s l a p m b → (o ≡ p) × (l' ≡ m) × (a' ≡ b)
tells_one j s l a = tells_one_one l (says_one j (record { text = s; list = gates l; area = a }))

pub invert_tells_one : (s l a : List ℕ) {o l' a' p m b : List ℕ} → TellsOne (λ k x. Invert (record { text = s; list = k; area = a }) x) l o l' a' → TellsOne (λ k x. Invert (record { text = s; list = k; area = a }) x) l p m b → (o ≡ p) × (l' ≡ m) × (a' ≡ b)
invert_tells_one s l a = tells_one_one l (invert_one (record { text = s; list = gates l; area = a }))

-- the list of that number of those lent to a job over several texts
listed : ℕ → habits.Exit → List Gate
listed i x = get_or x.lent.lists i []

-- of a job over several texts and one list
module _ {Says : List Gate → habits.Exit → Type 0} (l : List ℕ) (one : One (Says (gates l))) where
  pub tells_text_one : {o l' a' p m b : List ℕ} → TellsText Says l o l' a' → TellsText Says l p m b → (o ≡ p) × (l' ≡ m) × (a' ≡ b)
  unfolding listed
  tells_text_one t u =
      let e = one.2 _ t.said ∙ sym (one.2 _ u.said) in (
        t.outcome ∙ ap (λ (x : habits.Exit). four x.number x.line x.text x.count) e ∙ sym u.outcome,
        t.list ∙ ap (λ (x : habits.Exit). numbers x.number l (listed 0 x)) e ∙ sym u.list,
        ap (λ (x : habits.Exit). x.lent.area) e,
      )

-- the same of a job over several texts and two lists, whose contract allows exactly one exit
module _ {Says : List Gate → List Gate → habits.Exit → Type 0} (l k : List ℕ) (one : One (Says (gates l) (gates k))) where
  pub tells_two_one : {o l' k' p m n : List ℕ} → TellsTwo Says l k o l' k' → TellsTwo Says l k p m n → (o ≡ p) × (l' ≡ m) × (k' ≡ n)
  unfolding listed
  tells_two_one t u =
      let e = one.2 _ t.said ∙ sym (one.2 _ u.said) in (
        t.outcome ∙ ap (λ (x : habits.Exit). four x.number x.line x.text x.count) e ∙ sym u.outcome,
        t.first ∙ ap (λ (x : habits.Exit). numbers x.number l (listed 0 x)) e ∙ sym u.first,
        t.second ∙ ap (λ (x : habits.Exit). numbers x.number k (listed 1 x)) e ∙ sym u.second,
      )

-- so does join's: the outcome, the list and the area
pub join_tells_one : (s l t a : List ℕ) {o l' a' p m b : List ℕ} → TellsText (λ l x. Join s l t a x) l o l' a' → TellsText (λ l x. Join s l t a x) l p m b → (o ≡ p) × (l' ≡ m) × (a' ≡ b)
join_tells_one s l t a = tells_text_one l (join_one s (gates l) t a)

-- and compare's: the outcome and both lists
pub compare_tells_one : (s l t k : List ℕ) {o l' k' p m n : List ℕ} → TellsTwo (λ l m x. Compare s l t m x) l k o l' k' → TellsTwo (λ l m x. Compare s l t m x) l k p m n → (o ≡ p) × (l' ≡ m) × (k' ≡ n)
compare_tells_one s l t k = tells_two_one l k (compare_one s (gates l) t (gates k))

-- and slip's
pub slip_tells_one : (s l t u k : List ℕ) {o l' k' p m n : List ℕ} → TellsTwo (λ l m x. Slip s l t u m x) l k o l' k' → TellsTwo (λ l m x. Slip s l t u m x) l k p m n → (o ≡ p) × (l' ≡ m) × (k' ≡ n)
slip_tells_one s l t u k = tells_two_one l k (slip_one s (gates l) t u (gates k))
