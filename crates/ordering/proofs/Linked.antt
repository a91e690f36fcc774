-- How two circuits compare (document 02, order 1): for valid circuits in exactly one way; as equal exactly if they are linked, on the same number
-- of lines; alike when a circuit is replaced by a linked one; and this is a total order on linked classes. Assumes nothing.
use mathlib.Core.Path.{◌≡◌, refl, sym, ap, ◌∙◌}
use mathlib.Core.Logic.{◌≢◌, ◌↔◌, ◌⊎◌, ⊎_elim, ⊎_map}
use mathlib.Core.List.{List}
use Prim.Native.Nat.{ℕ, ◌-◌}
use Rattle.gates.specs.declared.Gate.{Gate}
use Rattle.gates.specs.Circuit.{AllValid, Linked}
use Rattle.gates.specs.Reduced.{Reduced}
use Rattle.gates.proofs.Theorem.{reduced_unique}
use Rattle.gates.proofs.ReducedLists.{one_reduced_list, linked_exactly_if, reduced_linked}
use Rattle.std.specs.declared.cmp.Ordering.{Ordering}
use Rattle.std.specs.declared.cmp.Ordering.TheVariants.{Equal, Greater}
use Rattle.ordering.specs.Comparing.{count_of, turned, compare_lists, Compares, NotAfter}
use Rattle.ordering.proofs.Orders.{count_turned, not_greater_either, not_greater_both, not_greater_chains}
use Rattle.ordering.proofs.Circuits.{lists_orders, lists_equal}

-- ---- one answer

-- circuits compare as their reduced lists do
pub reduced_compares : {n m : ℕ} {c d r s : List Gate} → Reduced n c r → Reduced m d s → Compares n c m d (compare_lists n r m s)
reduced_compares {r = r} {s} x y = record { first = r; second = s; first_reduced = x; second_reduced = y; compared = refl }

-- a circuit has one reduced list, so two compare in one way
compares_both : {n m : ℕ} {c d : List Gate} {j k : Ordering} → Compares n c m d j → Compares n c m d k → j ≡ k
compares_both {n} {m} x y =
    sym x.compared
    ∙ rw (reduced_unique n x.first_reduced y.first_reduced, reduced_unique m x.second_reduced y.second_reduced) y.compared

-- two circuits have exactly one answer
pub compares_one : (n : ℕ) (c : List Gate) (m : ℕ) (d : List Gate) → AllValid n c → AllValid m d → (k : Ordering) × Compares n c m d k × ((j : Ordering) → Compares n c m d j → k ≡ j)
compares_one n c m d f h =
    let x = one_reduced_list n c f in
    let y = one_reduced_list m d h in
    let z = reduced_compares x.1 y.1 in
    (compare_lists n x.0 m y.0, z, λ j w. compares_both z w)

-- less and greater change places with the circuits
pub compares_turned : {n m : ℕ} {c d : List Gate} {k : Ordering} → Compares n c m d k → Compares m d n c (turned k)
compares_turned {n} {m} x =
    record {
      first = x.second;
      second = x.first;
      first_reduced = x.second_reduced;
      second_reduced = x.first_reduced;
      compared = lists_orders.turns (n, x.first) (m, x.second) ∙ ap turned x.compared;
    }

-- so do the counts 0 and 2
pub compares_count_turned : {n m : ℕ} {c d : List Gate} {j k : Ordering} → Compares n c m d j → Compares m d n c k → count_of k ≡ 2 - count_of j
compares_count_turned {j = j} x y = ap count_of (compares_both y (compares_turned x)) ∙ count_turned j

-- ---- the answer is one of linked classes

-- circuits on the same number of lines are linked exactly if their reduced lists are equal
same_class : {n m : ℕ} {c d r s : List Gate} → n ≡ m → Reduced n c r → Reduced m d s → Linked n c d ↔ (r ≡ s)
same_class {n} e x y = linked_exactly_if n x (rw (← e) at y)

-- "Equal on the same line count must mean linked": equal exactly if the circuits are on the same number of lines and linked
pub equal_linked : {n m : ℕ} {c d : List Gate} {k : Ordering} → Compares n c m d k → (k ≡ Equal) ↔ ((n ≡ m) × Linked n c d)
equal_linked {n} {m} {c} {d} {k} x = (there, back)
  where
    same : (compare_lists n x.first m x.second ≡ Equal) ↔ ((n ≡ m) × (x.first ≡ x.second))
    same = lists_equal n x.first m x.second

    there : k ≡ Equal → (n ≡ m) × Linked n c d
    there e = let q = same.0 (x.compared ∙ e) in (q.0, (same_class q.0 x.first_reduced x.second_reduced).1 q.1)

    back : (n ≡ m) × Linked n c d → k ≡ Equal
    back q = sym x.compared ∙ same.1 (q.0, (same_class q.0 x.first_reduced x.second_reduced).0 q.1)

-- the answer is kept when a circuit is replaced by a linked one
pub linked_compares : {n m : ℕ} {c c' d d' : List Gate} {k : Ordering} → Linked n c c' → Linked m d d' → Compares n c m d k → Compares n c' m d' k
linked_compares {n} {m} l i x = rw x.compared at (reduced_compares (reduced_linked n l x.first_reduced) (reduced_linked m i x.second_reduced))

-- ---- a total order on linked classes

-- not after is: the answer is not greater
pub not_after_exactly_if : {n m : ℕ} {c d : List Gate} {k : Ordering} → Compares n c m d k → NotAfter n c m d ↔ (k ≢ Greater)
not_after_exactly_if {k = k} x =
    (λ y e. y.not_greater (compares_both y.compares x ∙ e), λ h. record { comparison = k; compares = x; not_greater = h })

-- it is kept when a circuit is replaced by a linked one
pub linked_not_after : {n m : ℕ} {c c' d d' : List Gate} → Linked n c c' → Linked m d d' → NotAfter n c m d → NotAfter n c' m d'
linked_not_after l i x = (not_after_exactly_if (linked_compares l i x.compares)).1 x.not_greater

-- one of two circuits is not after the other
pub total : (n : ℕ) (c : List Gate) (m : ℕ) (d : List Gate) → AllValid n c → AllValid m d → NotAfter n c m d ⊎ NotAfter m d n c
total n c m d f h =
    let x = compares_one n c m d f h in
    ⊎_map (not_after_exactly_if x.1).1 (not_after_exactly_if (compares_turned x.1)).1 (not_greater_either x.0)

-- a circuit is not after itself
pub reflexive : (n : ℕ) (c : List Gate) → AllValid n c → NotAfter n c n c
reflexive n c f = ⊎_elim (λ x. x) (λ x. x) (total n c n c f f)

-- not after one that is not after a third is not after the third
pub transitive : {n m k : ℕ} {c d e : List Gate} → NotAfter n c m d → NotAfter m d k e → NotAfter n c k e
transitive {n} {m} {k} x y =
    let a = x.compares in
    let b = y.compares in
    let i : a.second ≡ b.first = reduced_unique m a.second_reduced b.first_reduced in
    (not_after_exactly_if (reduced_compares a.first_reduced b.second_reduced)).1
    (not_greater_chains lists_orders (n, a.first) (m, a.second) (k, b.second) (λ g. x.not_greater (sym a.compared ∙ g))
    (λ g. y.not_greater (sym b.compared ∙ rw (← i) g)))

-- two circuits that are not after each other are linked, on the same number of lines
pub antisymmetric : {n m : ℕ} {c d : List Gate} → NotAfter n c m d → NotAfter m d n c → (n ≡ m) × Linked n c d
antisymmetric x y =
    (equal_linked x.compares).0 (not_greater_both x.comparison x.not_greater ((not_after_exactly_if (compares_turned x.compares)).0 y))
