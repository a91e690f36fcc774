-- Closed examples of comparisons, by computation. Assumes nothing.
use mathlib.Core.Path.{◌≡◌, refl}
use mathlib.Core.List.{List, [], ◌∷◌}
use Prim.Native.Nat.{ℕ}
use Rattle.gates.specs.declared.Gate.{Gate}
use Rattle.gates.specs.declared.Gate.TheVariants.{Not}
use Rattle.gates.specs.Every.{Every}
use Rattle.gates.specs.Circuit.{target, slot, power}
use Rattle.gates.proofs.ReducedLists.{reduced_reduced}
use Rattle.gates.proofs.Examples.{v, cn, vp, starred_examples}
use Rattle.std.specs.declared.cmp.Ordering.TheVariants.{Equal}
use Rattle.ordering.specs.Comparing.{count_of, then, compare_numbers, compare_gates, dictionary, compare_lists, Compares}

-- two lists, each behind its number of lines, and the count of their comparison
abbrev table : List (ℕ × List Gate × ℕ × List Gate × ℕ)
table =
    -- the number of lines decides before any gate
    (2, Not 1 ∷ [], 3, [], 0)
    -- the first gates decide before the number of gates: the target first, then the control, a NOT before control 0, then the power
    ∷ (3, vp 2 0 ∷ Not 0 ∷ [], 3, Not 1 ∷ [], 0)
    ∷ (3, v 0 2 ∷ [], 3, Not 2 ∷ [], 2)
    ∷ (3, vp 0 2 ∷ [], 3, v 1 2 ∷ [], 0)
    ∷ (3, cn 0 2 ∷ [], 3, v 0 2 ∷ [], 2)
    -- a list that ends sooner comes first
    ∷ (3, Not 0 ∷ [], 3, Not 0 ∷ Not 1 ∷ [], 0)
    ∷ (3, Not 0 ∷ Not 1 ∷ [], 3, Not 0 ∷ [], 2)
    -- equal are equal lists on the same lines
    ∷ (3, Not 0 ∷ vp 2 0 ∷ [], 3, Not 0 ∷ vp 2 0 ∷ [], 1)
    ∷ []

-- each row's lists compare with its count
counts : Every (λ row. count_of (compare_lists row.0 row.1 row.2 row.3) ≡ row.4) table
unfolding count_of then compare_numbers compare_gates dictionary compare_lists target slot power
counts = (refl, (refl, (refl, (refl, (refl, (refl, (refl, (refl, tt))))))))

-- document 01's `cn 0 1` and then `not 1`, redrawn the other way round, is one circuit
redrawn : Compares 3 (cn 0 1 ∷ Not 1 ∷ []) 3 (Not 1 ∷ cn 0 1 ∷ []) Equal
unfolding then compare_numbers compare_gates dictionary compare_lists target slot power
redrawn =
    let x = starred_examples.1.1.1.1.1.0 in
    record { first = Not 1 ∷ cn 0 1 ∷ []; second = Not 1 ∷ cn 0 1 ∷ []; first_reduced = x; second_reduced = reduced_reduced 3 x; compared = refl }
