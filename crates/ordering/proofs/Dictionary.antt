-- On the same number of lines the order is document 01's dictionary order of the reduced lists. Assumes nothing.
use mathlib.Core.Path.{◌≡◌, refl, sym, ◌∙◌}
use mathlib.Core.Logic.Iff
use mathlib.Core.Logic.{◌≢◌, ◌↔◌}
use mathlib.Core.List.{List, [], ◌∷◌}
use Prim.Native.Nat.{ℕ}
use Rattle.gates.specs.declared.Gate.{Gate}
use Rattle.gates.specs.Order.{◌≼◌, none, less, same}
use Rattle.gates.specs.Reduced.{Reduced}
use Rattle.std.specs.declared.cmp.Ordering.{Ordering}
use Rattle.std.specs.declared.cmp.Ordering.TheVariants.{Less, Equal, Greater}
use Rattle.ordering.specs.Comparing.{then, compare_gates, dictionary, NotAfter}
use Rattle.ordering.proofs.Orders.{less_greater, equal_greater, then_first, then_second, self}
use Rattle.ordering.proofs.Gates.{gates_orders, equal_gates, earlier_gates, gates_earlier}
use Rattle.ordering.proofs.Circuits.{same_lines}
use Rattle.ordering.proofs.Linked.{reduced_compares, not_after_exactly_if}

-- not greater leads to document 01's order
there : (c d : List Gate) → dictionary compare_gates c d ≢ Greater → c ≼ d
unfolding dictionary then
there [] d h = none
there (g ∷ c) [] h = absurd (h refl)
there (g ∷ c) (k ∷ d) h = go (compare_gates g k) refl (there c d)
  where
    go : (a : Ordering) → compare_gates g k ≡ a → (dictionary compare_gates c d ≢ Greater → c ≼ d) → (g ∷ c) ≼ (k ∷ d)
    go Less e ih = less (gates_earlier g k e)
    go Equal e ih = rw (equal_gates g k e) (same (ih (λ i. h (then_second _ _ e ∙ i))))
    go Greater e ih = absurd (h (rw e))

-- and back
back : {c d : List Gate} → c ≼ d → dictionary compare_gates c d ≢ Greater
unfolding dictionary
back {d = []} none e = equal_greater e
back {d = h ∷ d} none e = less_greater e
back (less l) e = less_greater (sym (then_first _ _ (earlier_gates l)) ∙ e)
back (same {g} p) e = back p (sym (then_second _ _ (self gates_orders g)) ∙ e)

-- "not greater" is document 01's dictionary order
pub dictionary_is : (c d : List Gate) → (dictionary compare_gates c d ≢ Greater) ↔ (c ≼ d)
dictionary_is c d = (there c d, back)

-- a circuit is not after another on the same lines exactly if its reduced list is equal to the other's or comes before it
pub same_lines_not_after : {n : ℕ} {c d r s : List Gate} → Reduced n c r → Reduced n d s → NotAfter n c n d ↔ (r ≼ s)
same_lines_not_after {n} {r = r} {s} x y = Iff.trans (not_after_exactly_if (rw (same_lines n r s) at (reduced_compares x y))) (dictionary_is r s)
