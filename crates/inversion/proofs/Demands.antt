-- The numbers that invert gives, and what it leaves, follow from what it says: by those of reduce. Assumes nothing.
use Prim.Native.Nat.{ℕ}
use mathlib.Core.Path.{◌≡◌, refl, sym, ◌∙◌, subst}
use mathlib.Core.List.{List, [], ◌∷◌}
use lib.ListN.{length}
use Rattle.gates.specs.declared.Gate.{Gate}
use Rattle.gates.specs.Inverse.{inverse}
use Rattle.gates.specs.Reduced.{Reduced}
use Rattle.text.specs.declared.Head.{Head}
use Rattle.text.specs.declared.Refusal.{Refusal}
use Rattle.text.specs.declared.Kind.TheVariants.{Circuit}
use Rattle.text.specs.Judging.{Judged, turned_away, accepted}
use Rattle.text.proofs.Accepted.{accepted_head, accepted_circuit, away_accepted}
use Rattle.habits.specs.Demands.{Refuses, Accepts}
use Rattle.jobs.specs.Jobs.{reducing, takes, Entry, Exit, judged}
use Rattle.demands.specs.Demands as jobs
use Rattle.demands.specs.Demands.{RefusalLeaves, SuccessLeaves, Yields}
use Rattle.jobs.proofs.Habits.{refuses_judged, judged_accepts, accepts_judged}
use Rattle.demands.proofs.Numbers.{demand_1}
use Rattle.inversion.specs.Invert.{Invert}
use Rattle.inversion.specs.Demands.{Inverts, Due, refused, short_answer, no_refusal, Demand}
use Rattle.inversion.proofs.Reducing.{inverse_entry, inverse_accepts, inverts_as, refuses_as}

-- no text is refused and accepted, with the same lists
never_both : {s rooms : List ℕ} {records n l : ℕ} {h : Head} {c : List Gate} → rooms ≡ records ∷ [] → Refuses Circuit s rooms n l → Accepts Circuit s rooms h c → ⊥
never_both {s} {records = records} q d a =
    let z = refuses_judged Circuit s records (rw q at d) in
    away_accepted (sym z.1 ∙ accepts_judged Circuit s records (rw q at a))

-- ---- a text that rules 1 to 9 turn away

module _ (e : Entry) (x : Exit) (r : Refusal) (i : ℕ) (q : judged Circuit e ≡ turned_away r i) (s : Invert e x) where
  none : {h : Head} {c : List Gate} → Accepts Circuit e.text (length e.list ∷ []) h c → ⊥
  unfolding judged
  none a = away_accepted (sym q ∙ accepts_judged Circuit e.text (length e.list) a)

  as_reduce : {n l : ℕ} → Due e n l → jobs.Due reducing e n l
  unfolding takes
  as_reduce (refused d) = jobs.refused d
  as_reduce (short_answer h c r y k) = absurd (none y.accepts)
  as_reduce (no_refusal h c r y k) = absurd (none y.accepts)

  of_reduce : {n l : ℕ} → jobs.Due reducing e n l → Due e n l
  unfolding takes
  of_reduce (jobs.refused d) = refused d
  of_reduce (jobs.short_answer h r y j k) = absurd (none y.accepts)
  of_reduce (jobs.no_refusal h r y k) = absurd (none y.accepts)

  turned : Demand e x
  unfolding takes
  turned = let d = demand_1 reducing e x ((refuses_as e x q).0 s) in
      record {
        by_table = λ n l. (λ t. of_reduce ((d.by_table n l).0 t), λ t. (d.by_table n l).1 (as_reduce t));
        refusal_leaves = d.refusal_leaves;
        success_leaves = λ z. absurd (none (d.success_leaves z).2.accepts);
        lengths = d.lengths;
      }

-- ---- a text that they let pass

module _ (e : Entry) (x : Exit) (g : Head) (b : List Gate) (a : Accepts Circuit e.text (length e.list ∷ []) g b) (s : Invert e x) where
  abbrev e' : Entry
  e' = inverse_entry e g.lines b

  -- reduce's list for the text of the inverse is that of the inverse
  yields_inverse : {h : Head} {r : List Gate} → Yields reducing e' h r → Inverts e h b r
  unfolding takes
  yields_inverse {h} {r} y =
      let w : accepted g (inverse b) ≡ accepted h y.circuit = sym (inverse_accepts a).judged ∙ y.accepts.judged in
      record {
        accepts = subst (λ (f : Head). Accepts Circuit e.text (length e.list ∷ []) f b) (accepted_head w) a;
        reduced = subst (λ (c : List Gate). Reduced h.lines c r) (sym (accepted_circuit w)) y.reduced;
      }

  inverse_yields : {h : Head} {c r : List Gate} → Inverts e h c r → Yields reducing e' h r
  unfolding takes
  inverse_yields {h} {c} {r} y =
      let w : accepted h c ≡ accepted g b = sym y.accepts.judged ∙ a.judged in
      record {
        circuit = inverse b;
        accepts = subst (λ (f : Head). Accepts Circuit e'.text (length e.list ∷ []) f (inverse b)) (sym (accepted_head w)) (inverse_accepts a);
        reduced = subst (λ (d : List Gate). Reduced h.lines (inverse d) r) (accepted_circuit w) y.reduced;
      }

  to_reduce : {n l : ℕ} → Due e n l → jobs.Due reducing e' n l
  to_reduce (refused d) = absurd (never_both refl d a)
  to_reduce (short_answer h c r y k) = jobs.short_answer h r (inverse_yields y) refl k
  to_reduce (no_refusal h c r y k) = jobs.no_refusal h r (inverse_yields y) (λ _. k)

  from_reduce : {n l : ℕ} → jobs.Due reducing e' n l → Due e n l
  unfolding takes
  from_reduce (jobs.refused d) = absurd (never_both refl d (inverse_accepts a))
  from_reduce (jobs.short_answer h r y i k) = short_answer h b r (yields_inverse y) k
  from_reduce (jobs.no_refusal h r y k) = no_refusal h b r (yields_inverse y) (k refl)

  -- what is left is the same, whatever the text
  leaves : RefusalLeaves e' x → RefusalLeaves e x
  leaves z = record { countless = z.countless; unchanged = z.unchanged; early = z.early; late = z.late }

  success : {h : Head} {r : List Gate} → SuccessLeaves reducing e' x h r → SuccessLeaves reducing e x h r
  success z = record {
    list_first = z.list_first;
    list_later = z.list_later;
    gates_counted = z.gates_counted;
    bytes_written = z.bytes_written;
    area_text = z.area_text;
    area_others = z.area_others;
    none_written = z.none_written;
  }

  passed : Demand e x
  passed = let d = demand_1 reducing e' x ((inverts_as e x a).0 s) in
      record {
        by_table = λ n l. (λ t. from_reduce ((d.by_table n l).0 t), λ t. (d.by_table n l).1 (to_reduce t));
        refusal_leaves = λ z. leaves (d.refusal_leaves z);
        success_leaves = λ z. let (h, r, y, w) = d.success_leaves z in (h, b, r, yields_inverse y, success w);
        lengths = d.lengths;
      }

-- ---- any text

pub invert_demand : (e : Entry) (x : Exit) → Invert e x → Demand e x
unfolding judged
invert_demand e x s = go (judged Circuit e) refl
  where
    go : (d : Judged) → judged Circuit e ≡ d → Demand e x
    go (turned_away r i) q = turned e x r i q s
    go (accepted g b) q = passed e x g b (judged_accepts Circuit e.text (length e.list) q) s
