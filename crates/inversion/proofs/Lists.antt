-- The list that invert gives is the reduced list of the inverse, and undoes the circuit. Assumes nothing.
use mathlib.Core.Path.{refl}
use mathlib.Core.List.{List, []}
use Prim.Native.Nat.{ℕ}
use lib.ListN.{length}
use Rattle.gates.specs.declared.Gate.{Gate}
use Rattle.gates.specs.Circuit.{AllValid, Linked, done}
use Rattle.gates.specs.Inverse.{inverse}
use Rattle.gates.proofs.Chains.{linked_sym, linked_trans, linked_join}
use Rattle.gates.proofs.Inverses.{all_valid_inverse, linked_undone, linked_redone, length_reduced_inverse}
use Rattle.meaning.specs.Amplitude.{doubled}
use Rattle.meaning.specs.State.{run, powered_gates, SameAmplitude, SameMatrix}
use Rattle.meaning.proofs.Links.{linked_matrix}
use Rattle.text.specs.Heads.{unkept}
use Rattle.text.specs.declared.Kind.TheVariants.{Circuit}
use Rattle.text.proofs.Accepted.{judge_accepted, text_valid}
use Rattle.jobs.specs.Jobs.{reducing, takes, judged}
use Rattle.demands.specs.Demands as jobs
use Rattle.demands.proofs.Demands.{ran_reduced, shown_circuit, demand_2}
use Rattle.jobs.proofs.Habits.{accepts_judged}
use Rattle.inversion.specs.Demands.{Ran, Unmoved, Undoes, Lists}
use Rattle.inversion.proofs.Reducing.{inverse_entry, inverse_accepts, inverts_as}

-- what is linked to no gates leaves every start pattern as it was
unmoved : (n : ℕ) {c : List Gate} → Linked n c [] → Unmoved n c
unfolding Unmoved SameMatrix SameAmplitude run powered_gates doubled
unmoved n l = linked_matrix n l

-- what is linked to the inverse undoes the circuit
pub undoes : (n : ℕ) {c r : List Gate} → AllValid n c → Linked n (inverse c) r → Undoes n c r
undoes n {c} f l =
    let k = all_valid_inverse n c f in
    record {
      after = unmoved n (linked_trans (linked_sym (linked_join {c = c} {d = inverse c} f k done l)) (linked_undone c f));
      before = unmoved n (linked_trans (linked_sym (linked_join {c = inverse c} {d = c} k f l done)) (linked_redone c f));
    }

-- a run of invert is a run of reduce on the text of the inverse
as_reduce : {n : ℕ} {c r : List Gate} → Ran n c r → jobs.Ran n (inverse c) r
unfolding takes judged
as_reduce {n} {c} a = let e = inverse_entry a.entry n c in
    record {
      job = reducing;
      entry = e;
      exit = a.exit;
      head = unkept n;
      says = (inverts_as a.entry a.exit a.accepts).0 a.says;
      passed = accepts_judged Circuit e.text (length e.list) (inverse_accepts a.accepts);
      lines = refl;
      listed = a.listed;
    }

pub invert_lists : {n : ℕ} {c r : List Gate} (a : Ran n c r) → Lists a
unfolding as_reduce
invert_lists {n} {c} a =
    let t = judge_accepted Circuit a.entry.text a.accepts.judged in
    let w = ran_reduced (as_reduce a) in
    record {
      shown = shown_circuit t;
      reduced = w;
      undoes = undoes n (text_valid t) w.linked;
      counted = (demand_2 (as_reduce a)).counted;
      as_many = λ q. length_reduced_inverse n (text_valid t) q w;
    }
