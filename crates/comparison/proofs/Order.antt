-- Compare is a total order on linked classes. Assumes nothing.
use Prim.Native.Nat.{ℕ, ◌-◌, ◌≤◌}
use mathlib.Core.Path.{◌≡◌, refl, sym, ap, ◌∙◌}
use mathlib.Core.Logic.{◌≢◌, ◌↔◌, ⊎_map}
use mathlib.Core.List.{List}
use native.Mathlib.Omega.{arith}
use Rattle.gates.specs.declared.Gate.{Gate}
use Rattle.gates.specs.Circuit.{AllValid, Linked}
use Rattle.text.specs.declared.Kind.TheVariants as kind
use Rattle.text.proofs.Accepted.{judge_accepted, text_valid}
use Rattle.std.specs.declared.cmp.Ordering.{Ordering}
use Rattle.std.specs.declared.cmp.Ordering.TheVariants.{Less, Equal, Greater}
use Rattle.ordering.specs.Comparing.{count_of, Compares, NotAfter}
use Rattle.ordering.proofs.Linked as O
use Rattle.ordering.proofs.Linked.{reduced_compares, compares_one, compares_count_turned, equal_linked, linked_compares, not_after_exactly_if}
use Rattle.habits.specs.Habits.{Exit}
use Rattle.comparison.specs.Demands.{Ran, TotalOrder}
use Rattle.comparison.proofs.Demands.{both_accepted}

-- ---- counts

counts_1 : (k : Ordering) → (count_of k ≡ 1) ↔ (k ≡ Equal)
unfolding count_of
counts_1 Less = (λ e. absurd (omega (arith, e)), λ e. absurd (let z : ◌≡◌ {A = ℕ} 0 1 = cc in omega arith))
counts_1 Equal = (λ _. refl, λ _. refl)
counts_1 Greater = (λ e. absurd (omega (arith, e)), λ e. absurd (let z : ◌≡◌ {A = ℕ} 0 1 = cc in omega arith))

counts_below : (k : Ordering) → (count_of k ≤ 1) ↔ (k ≢ Greater)
unfolding count_of
counts_below Less = (λ _ e. let z : ◌≡◌ {A = ℕ} 0 1 = cc in omega arith, λ _. omega arith)
counts_below Equal = (λ _ e. let z : ◌≡◌ {A = ℕ} 0 1 = cc in omega arith, λ _. omega arith)
counts_below Greater = (λ l. absurd (omega (arith, l)), λ h. absurd (h refl))

-- ---- a run says how the circuits compare

pub ran_compares : {n m : ℕ} {c d : List Gate} {k : ℕ} → Ran n c m d k → (x : Ordering) × Compares n c m d x × (k ≡ count_of x)
ran_compares r =
    let (p, q, i, j, z) = both_accepted r.text_1 r.list_1 r.text_2 r.list_2 r.exit r.says r.accepts_1 r.accepts_2 in
    (_, reduced_compares i j, sym r.counted ∙ ap (λ (y : Exit). y.count) z)

-- its count is at most 1 exactly if the first circuit is not after the second
ran_not_after : {n m : ℕ} {c d : List Gate} {k : ℕ} → Ran n c m d k → (k ≤ 1) ↔ NotAfter n c m d
ran_not_after r =
    let (x, y, e) = ran_compares r in
    (λ h. (not_after_exactly_if y).1 ((counts_below x).0 (rw (← e) h)), λ h. rw e ((counts_below x).1 ((not_after_exactly_if y).0 h)))

-- the circuits of a run are valid
ran_valid : {n m : ℕ} {c d : List Gate} {k : ℕ} → Ran n c m d k → AllValid n c × AllValid m d
ran_valid r = (text_valid (judge_accepted kind.Circuit r.text_1 r.accepts_1.judged), text_valid (judge_accepted kind.Circuit r.text_2 r.accepts_2.judged))

-- ---- the order

one : {n m : ℕ} {c c' d d' : List Gate} {k j : ℕ} → Linked n c c' → Linked m d d' → Ran n c m d k → Ran n c' m d' j → k ≡ j
one {n} {m} {c' = c'} {d' = d'} l i r q =
    let (x, y, e) = ran_compares r in
    let (x', y', e') = ran_compares q in
    let v = ran_valid q in
    let u = (compares_one n c' m d' v.0 v.1).2 in
    e ∙ ap count_of (sym (u x (linked_compares l i y)) ∙ u x' y') ∙ sym e'

equal : {n m : ℕ} {c d : List Gate} {k : ℕ} → Ran n c m d k → (k ≡ 1) ↔ ((n ≡ m) × Linked n c d)
equal r =
    let (x, y, e) = ran_compares r in
    (λ h. (equal_linked y).0 ((counts_1 x).0 (sym e ∙ h)), λ h. e ∙ (counts_1 x).1 ((equal_linked y).1 h))

pub total_order : TotalOrder
total_order = record {
  equal = equal;
  one = one;
  exchanged = λ r q. let (x, y, e) = ran_compares r in let (x', y', e') = ran_compares q in e' ∙ compares_count_turned y y' ∙ ap (λ (i : ℕ). 2 - i) (sym e);
  reflexive = λ {n} {c} r. (ran_not_after r).1 (O.reflexive n c (ran_valid r).0);
  total = λ {n} {m} {c} {d} r q. ⊎_map (ran_not_after r).1 (ran_not_after q).1 (O.total n c m d (ran_valid r).0 (ran_valid r).1);
  transitive = λ r q p h i. (ran_not_after p).1 (O.transitive ((ran_not_after r).0 h) ((ran_not_after q).0 i));
  antisymmetric = λ r q h i. O.antisymmetric ((ran_not_after r).0 h) ((ran_not_after q).0 i);
}
