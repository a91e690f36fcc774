-- The demands follow from what the jobs say. Assumes nothing.
use mathlib.Core.Path.{◌≡◌, refl, sym, ap, ◌∙◌, subst}
use mathlib.Core.Bool.{Bool, true, false}
use mathlib.Core.List.{List, ◌++◌}
use Prim.Native.Nat.{ℕ, zero, suc, ◌≤◌, ◌<◌}
use native.Mathlib.Omega.{arith}
use lib.ListN.{length, take, drop}
use lib.Seq.{take-append_seam}
use lib.Dec.{ltb}
use borrow.Author.Tests.{ltb-true, ltb-false}
use Rattle.gates.specs.declared.Gate.{Gate}
use Rattle.gates.specs.Circuit.{AllValid, done}
use Rattle.gates.specs.Reduced.{Reduced}
use Rattle.gates.proofs.Theorem.{reduced_unique}
use Rattle.gates.proofs.ReducedLists.{reduced_all_valid, linked_exactly_if}
use Rattle.meaning.proofs.Links.{same_matrix_sym, reduced_matrix}
use Rattle.meaning.specs.Pattern.{has}
use Rattle.cascades.specs.Cascade.{Controlled, expand_all, AllExpandable, Realises}
use Rattle.cascades.specs.Touching.{Touched, Named}
use Rattle.cascades.proofs.Realises.{reduced_realises}
use Rattle.cascades.proofs.Touched.{expansion_touches, list_touches, none_touches, unnamed_no_target}
use Rattle.text.specs.declared.Refusal.{Refusal}
use Rattle.text.specs.declared.Head.{Head}
use Rattle.text.specs.Refusals.{number_of}
use Rattle.text.specs.declared.Refusal.TheVariants.{ShortAnswer}
use Rattle.text.specs.Text.{circuit_text}
use Rattle.text.specs.declared.Kind.{Kind}
use Rattle.text.specs.declared.Kind.TheVariants.{Cascade, Circuit}
use Rattle.text.specs.Judging.{Judged, turned_away, accepted, judge}
use Rattle.habits.specs.Habits.{left}
use Rattle.habits.proofs.Says.{filled_first}
use Rattle.jobs.specs.Jobs.{Job, mapping, reducing, takes, Output, as_text, as_count, output, wanted, Entry, Exit, refusal, judged, success, written, put_out, answered, Settled, Says}
use Rattle.demands.specs.Demands.{Gives, Listed, given, withheld, Ran, KeptLines, ShownCascade, ShownCircuit, Meant, Demand2, Demand3}
use Rattle.text.specs.Heads.{kept_lines}
use Rattle.text.proofs.Accepted.{Text, accepted_circuit, text_valid, cascade_of, cascade_proper, circuit_of}
use Rattle.text.proofs.Written.{gates_proper, judge_written}
use Rattle.text.proofs.Unambiguous.{circuit_text_is, cascade_text_is}
use Rattle.jobs.proofs.One.{Passed, judged_accepted, passed_valid}

-- ---- what is put out

-- an area of a byte or more gets a text
pub text_wanted : (j : Job) (n : ℕ) → 1 ≤ n → output j n ≡ as_text
text_wanted mapping zero h = absurd (omega (arith, h))
text_wanted mapping (suc n) h = refl
text_wanted reducing n h = refl

-- with one of length 0 map only quotes
pub count_wanted : (n : ℕ) → n ≡ 0 → output mapping n ≡ as_count
count_wanted n z = ap (output mapping) z

-- ---- an accepted text

pub says_accepted : (j : Job) (e : Entry) (x : Exit) {h : Head} {c : List Gate} → Says j e x → judged (takes j) e ≡ accepted h c → (r : List Gate) × Reduced h.lines c r × (x ≡ answered j e h r)
unfolding Says Settled
says_accepted j e x s q = subst (λ (d : Judged). Settled j e d x) q s

pub says_turned_away : (j : Job) (e : Entry) (x : Exit) {r : Refusal} {l : ℕ} → Says j e x → judged (takes j) e ≡ turned_away r l → x ≡ refusal r l e
unfolding Says Settled
says_turned_away j e x s q = subst (λ (d : Judged). Settled j e d x) q s

-- the reduced list of a text's circuit
pub record Facts (n : ℕ) (c r : List Gate) : Type 0 where
  pub fits : AllValid n r
  pub short : length r ≤ 4096
  pub least : 1 ≤ n
  pub largest : n ≤ 32

pub facts : {k : Kind} {s : List ℕ} {records : ℕ} {h : Head} {c r : List Gate} → Passed k s records h c → Reduced h.lines c r → Facts h.lines c r
facts {h = h} {c} p w = let s = w.fewest c done in let t = p.text.short in
    record { fits = reduced_all_valid h.lines (passed_valid p) w; short = omega arith; least = p.text.least; largest = p.text.largest }

pub data Wrote (e : Entry) (r : List Gate) (s : List ℕ) (x : Exit) : Type 0 where
  longer : length e.area < length s → x ≡ refusal ShortAnswer 0 e → Wrote e r s x
  holds : length s ≤ length e.area → x ≡ success e r (length s) (s ++ drop (length s) e.area) → Wrote e r s x

pub wrote : (e : Entry) (r : List Gate) (s : List ℕ) → Wrote e r s (written e r s)
unfolding written
wrote e r s = go (ltb (length e.area) (length s)) refl
  where
    go : (b : Bool) → ltb (length e.area) (length s) ≡ b → Wrote e r s (written e r s)
    go true q = longer (ltb-true _ _ q) (rw q)
    go false q = holds (ltb-false _ _ q) (rw q)

-- a text at the front of the area, and gates at the front of the list
pub area_front : (e : Entry) (r : List Gate) (s t : List ℕ) {x : Exit} → x ≡ success e r (length s) (s ++ t) → take x.bytes x.area ≡ s
area_front e r s t q = ap (λ (y : Exit). take y.bytes y.area) q ∙ take-append_seam s t

list_front : (e : Entry) (r : List Gate) (n : ℕ) (a : List ℕ) {x : Exit} → x ≡ success e r n a → take x.gates x.list ≡ r
list_front e r n a q = ap (λ (y : Exit). take y.gates y.list) q ∙ filled_first r e.list

pub refusal_is : (r : Refusal) (l : ℕ) (e : Entry) {x : Exit} → x ≡ refusal r l e → (x.number ≡ number_of r) × (x.line ≡ l) × ((x.gates ≡ 0) × (x.bytes ≡ 0)) × (x.list ≡ left r e.list) × (x.area ≡ e.area)
unfolding refusal
refusal_is r l e q = (ap (λ (y : Exit). y.number) q, ap (λ (y : Exit). y.line) q, (ap (λ (y : Exit). y.gates) q, ap (λ (y : Exit). y.bytes) q), ap (λ (y : Exit). y.list) q, ap (λ (y : Exit). y.area) q)

-- ---- the list that a job gives

-- there is one at the most
gives_one : (o : Output) (n : ℕ) (x : Exit) {r s : List Gate} → Gives o n x r → Gives o n x s → r ≡ s
unfolding Gives
gives_one as_text n x g k = accepted_circuit (sym g ∙ k)
gives_one as_count n x g k = sym g ∙ k

-- it is the reduced list
listed_text : (e : Entry) (n : ℕ) (c r : List Gate) (x : Exit) → Facts n c r → Reduced n c r → Wrote e r (circuit_text n r) x → Listed as_text n c x r
unfolding Gives
listed_text e n c r x f w (longer h q) = withheld (refusal_is ShortAnswer _ e q).0 w
listed_text e n c r x f w (holds h q) = given (ap (λ (y : Exit). y.number) q)
    (ap (judge Circuit) (area_front e r (circuit_text n r) _ q) ∙ judge_written n r f.fits f.least f.largest f.short)

listed_answer : (o : Output) (e : Entry) (h : Head) (c r : List Gate) (x : Exit) → Facts h.lines c r → Reduced h.lines c r → x ≡ put_out o e h r → Listed o h.lines c x r
unfolding Gives
listed_answer as_text e h c r x f w q = listed_text e h.lines c r x f w (rw q (wrote e r (circuit_text h.lines r)))
listed_answer as_count e h c r x f w q = given (ap (λ (y : Exit). y.number) q) (list_front e r 0 e.area q)

-- the circuit of a run, and what its job said of it
record Answer {n : ℕ} {c r : List Gate} (a : Ran n c r) : Type 0 where
  text : Text (takes a.job) a.head a.entry.text c
  list : List Gate
  reduced : Reduced n c list
  is : a.exit ≡ answered a.job a.entry a.head list
  listed : Listed (wanted a.job a.entry) n c a.exit list

answer : {n : ℕ} {c r : List Gate} (a : Ran n c r) → Answer a
unfolding answered
answer {n} {c} a =
    let p = judged_accepted (takes a.job) a.entry a.passed in
    let s = says_accepted a.job a.entry a.exit a.says a.passed in
    record {
      text = p.text;
      list = s.0;
      reduced = subst (λ (m : ℕ). Reduced m c s.0) a.lines s.1;
      is = s.2;
      listed = subst (λ (m : ℕ). Listed (wanted a.job a.entry) m c a.exit s.0) a.lines (listed_answer (wanted a.job a.entry) a.entry a.head c s.0 a.exit (facts p s.1) s.1 s.2);
    }

-- the text of a run is one that the rules let pass
pub ran_text : {n : ℕ} {c r : List Gate} (a : Ran n c r) → Text (takes a.job) a.head a.entry.text c
ran_text a = (answer a).text

pub ran_reduced : {n : ℕ} {c r : List Gate} → Ran n c r → Reduced n c r
ran_reduced {n} {c} {r} a = go a.listed (answer a).listed
  where
    go : Listed (wanted a.job a.entry) n c a.exit r → Listed (wanted a.job a.entry) n c a.exit (answer a).list → Reduced n c r
    go (withheld z w) l = w
    go (given z g) (withheld y w) = absurd (omega (arith, z, y))
    go (given z g) (given y k) = rw (gives_one (wanted a.job a.entry) n a.exit g k) (answer a).reduced

-- each run on a text that rules 1 to 9 let pass has exactly one list
pub listed_one : (j : Job) (e : Entry) (x : Exit) {h : Head} {c : List Gate} → Says j e x → judged (takes j) e ≡ accepted h c → (r : List Gate) × Listed (wanted j e) h.lines c x r × ((s : List Gate) → Listed (wanted j e) h.lines c x s → s ≡ r)
unfolding answered
listed_one j e x {h} {c} s q =
    let y = says_accepted j e x s q in
    (y.0, listed_answer (wanted j e) e h c y.0 x (facts (judged_accepted (takes j) e q) y.1) y.1 y.2, λ t k. reduced_unique h.lines (ran_reduced (run t k)) y.1)
  where
    run : (r : List Gate) → Listed (wanted j e) h.lines c x r → Ran h.lines c r
    run r l = record { job = j; entry = e; exit = x; head = h; says = s; passed = q; lines = refl; listed = l }

-- ---- demand 3

pub demand_3 : {n : ℕ} {c d r s : List Gate} (a : Ran n c r) (b : Ran n d s) → Demand3 a b
demand_3 {n} a b = let k = linked_exactly_if n (ran_reduced a) (ran_reduced b) in
    record { same = (k.1, k.0); first = ran_reduced a; second = ran_reduced b }

-- ---- demand 2

-- the kept lines of a cascade
kept_by : (n : ℕ) (kept : List ℕ) (gs : List Controlled) {c r : List Gate} → AllExpandable n kept gs → c ≡ expand_all n kept gs → Reduced n c r → Realises n gs r → KeptLines n kept gs c r
kept_by n kept gs {c} {r} w e k q = record {
  expansion_touches = λ i h t. expansion_touches n kept gs w i (subst (λ (d : List Gate). Touched d i) e t) h;
  list_touches = listed;
  untouched = λ i h u. none_touches r i (λ t. u (listed i h t));
  old_bit = λ i h u y. q.restored y i (unnamed_no_target gs i u);
  undisturbed = λ i b h u y x d. q.undisturbed y x i b (unnamed_no_target gs i u) d;
}
  where
    listed : (i : ℕ) → has i kept ≡ true → Touched r i → Named gs i
    listed i h t = list_touches n kept gs w (subst (λ (d : List Gate). Reduced n d r) e k) i t h

shown_cascade : {h : Head} {s : List ℕ} {c r : List Gate} → Text Cascade h s c → Reduced h.lines c r → ShownCascade h.lines (kept_lines h) s c r
shown_cascade {h} {s} {c} {r} t w =
    let k = cascade_of t in
    let n = h.lines in
    let l = kept_lines h in
    let q = reduced_realises n l k.mcts k.ready (subst (λ (d : List Gate). Reduced n d r) k.expanded w) in
    record {
      cascade = k.mcts;
      shown = k.written;
      only = λ m i gs p e. cascade_text_is n m l i k.mcts gs (cascade_proper t) p (sym k.written ∙ e);
      expanded = k.expanded;
      realised = q;
      keeps = kept_by n l k.mcts k.ready k.expanded w q;
    }

pub shown_circuit : {h : Head} {s : List ℕ} {c : List Gate} → Text Circuit h s c → ShownCircuit h.lines s c
shown_circuit {h} {s} {c} t =
    let n = h.lines in
    let b = t.largest in
    record { shown = circuit_of t; only = λ m d p e. circuit_text_is n m c d (omega arith, gates_proper n c b (text_valid t)) p (sym (circuit_of t) ∙ e) }

meant : (k : Kind) {h : Head} {s : List ℕ} {c r : List Gate} → Text k h s c → Reduced h.lines c r → Meant k h.lines (kept_lines h) s c r
unfolding Meant
meant Cascade t w = shown_cascade t w
meant Circuit t w = shown_circuit t

-- an answer that is no refusal counts the gates of its list
pub gates_counted : (o : Output) (e : Entry) (h : Head) (r : List Gate) (x : Exit) → x ≡ put_out o e h r → x.number ≡ 0 → x.gates ≡ length r
gates_counted as_count e h r x q z = ap (λ (y : Exit). y.gates) q
gates_counted as_text e h r x q z = go (rw q (wrote e r (circuit_text h.lines r)))
  where
    go : Wrote e r (circuit_text h.lines r) x → x.gates ≡ length r
    go (longer k i) = absurd (omega (arith, (refusal_is ShortAnswer 0 e i).0, z))
    go (holds k i) = ap (λ (y : Exit). y.gates) i

pub demand_2 : {n : ℕ} {c r : List Gate} (a : Ran n c r) → Demand2 a
unfolding answered
demand_2 {n} {c} {r} a =
    let w = ran_reduced a in
    let s = answer a in
    record {
      meant = subst (λ (m : ℕ). Meant (takes a.job) m (kept_lines a.head) a.entry.text c r) a.lines (meant (takes a.job) s.text (subst (λ (m : ℕ). Reduced m c r) (sym a.lines) w));
      matrix = same_matrix_sym n c r (reduced_matrix n w);
      counted = λ z. gates_counted (wanted a.job a.entry) a.entry a.head s.list a.exit s.is z ∙ ap length (reduced_unique n s.reduced w);
    }
