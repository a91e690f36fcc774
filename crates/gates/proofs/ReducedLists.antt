-- The theorem of reduced lists, in document 01's terms: for every number n of lines, and circuits of any length. Assumes nothing.
use mathlib.Core.Path.{◌≡◌}
use mathlib.Core.Logic.{◌↔◌}
use mathlib.Core.List.{List}
use Prim.Native.Nat.{ℕ, ◌≤◌}
use lib.ListN.{length}
use Rattle.gates.specs.declared.Gate.{Gate}
use Rattle.gates.specs.Circuit.{AllValid, Linked, Reaches}
use Rattle.gates.specs.Reduced.{Reduced}
use Rattle.gates.proofs.Chains.{linked_trans, linked_both, linked_sym, linked_all_valid}
use Rattle.gates.proofs.Theorem.{nf, nf_reached, nf_reduced, reduced_unique}

module _ (n : ℕ) where
  -- every circuit has exactly one reduced list
  pub one_reduced_list : (c : List Gate) → AllValid n c → (r : List Gate) × Reduced n c r × ((s : List Gate) → Reduced n c s → r ≡ s)
  one_reduced_list c f = (nf c, nf_reduced n c f, λ s y. reduced_unique n (nf_reduced n c f) y)

  -- it is the list that pushing the gates one after the other makes
  pub reduced_is_nf : (c r : List Gate) → AllValid n c → Reduced n c r ↔ (nf c ≡ r)
  reduced_is_nf c r f = (λ x. reduced_unique n (nf_reduced n c f) x, λ e. rw e at (nf_reduced n c f))

  -- the circuit reaches it by steps forwards alone
  pub reduced_reached : {c r : List Gate} → AllValid n c → Reduced n c r → Reaches n c r
  reduced_reached {c} {r} f x = rw ((reduced_is_nf c r f).0 x) at (nf_reached n c f)

  -- it is a circuit on the same lines
  pub reduced_all_valid : {c r : List Gate} → AllValid n c → Reduced n c r → AllValid n r
  reduced_all_valid f x = linked_all_valid x.linked f

  -- every linked circuit has at least as many gates
  pub reduced_fewest : {c d r : List Gate} → Reduced n c r → Linked n c d → length r ≤ length d
  reduced_fewest {d = d} x l = x.fewest d l

  -- linked circuits have the same reduced lists
  pub reduced_linked : {c d r : List Gate} → Linked n c d → Reduced n c r → Reduced n d r
  reduced_linked l x = record { linked = linked_both l x.linked; fewest = λ e k. x.fewest e (linked_trans l k); first = λ e k h. x.first e (linked_trans l k) h }

  -- two circuits are linked exactly if their reduced lists are equal, gate for gate
  pub linked_exactly_if : {c d r s : List Gate} → Reduced n c r → Reduced n d s → Linked n c d ↔ (r ≡ s)
  linked_exactly_if x y = (λ l. reduced_unique n (reduced_linked l x) y, λ e. linked_trans x.linked (rw e (linked_sym y.linked)))

  -- a reduced list is its own reduced list
  pub reduced_reduced : {c r : List Gate} → Reduced n c r → Reduced n r r
  reduced_reduced x = reduced_linked x.linked x

-- the number of lines does not matter to the reduced list of a circuit that has room on both
pub reduced_on_lines : (n m : ℕ) {c r : List Gate} → AllValid n c → AllValid m c → Reduced n c r → Reduced m c r
reduced_on_lines n m {c} {r} f h x = (reduced_is_nf m c r h).1 ((reduced_is_nf n c r f).0 x)
