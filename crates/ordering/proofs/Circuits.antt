-- Lists of gates, each on its number of lines, are ordered by their comparison: fewer lines come first, and equal are equal lists on the same
-- lines. Assumes nothing.
use mathlib.Core.Path.{◌≡◌, refl}
use mathlib.Core.Logic.{◌↔◌}
use mathlib.Core.List.{List}
use Prim.Native.Nat.{ℕ, ◌<◌}
use Rattle.gates.specs.declared.Gate.{Gate}
use Rattle.std.specs.declared.cmp.Ordering.{Ordering}
use Rattle.std.specs.declared.cmp.Ordering.TheVariants.{Less, Equal}
use Rattle.ordering.specs.Comparing.{compare_gates, dictionary, compare_lists}
use Rattle.ordering.proofs.Orders.{then_equal, then_first, then_second, Orders, self, on_orders, then_orders, dictionary_orders, dictionary_equal}
use Rattle.ordering.proofs.Gates.{numbers_less, numbers_equal, equal_numbers, numbers_orders, gates_orders, equal_gates}

-- "by number of lines first"
pub fewer_lines : (n : ℕ) (c : List Gate) (m : ℕ) (d : List Gate) → n < m → compare_lists n c m d ≡ Less
unfolding compare_lists
fewer_lines n c m d h = then_first _ _ (numbers_less h)

-- on the same lines the lists decide
pub same_lines : (n : ℕ) (c d : List Gate) → compare_lists n c n d ≡ dictionary compare_gates c d
unfolding compare_lists
same_lines n c d = then_second _ _ (numbers_equal refl)

-- the comparison, of pairs of a number of lines and a list
abbrev pub compare_pairs : ℕ × List Gate → ℕ × List Gate → Ordering
compare_pairs x y = compare_lists x.0 x.1 y.0 y.1

-- lists on their lines are ordered
pub lists_orders : Orders compare_pairs
unfolding compare_lists
lists_orders = then_orders (on_orders (λ x. x.0) numbers_orders) (on_orders (λ x. x.1) (dictionary_orders gates_orders))

-- "equal" is: the same number of lines and the same list, gate for gate
pub lists_equal : (n : ℕ) (c : List Gate) (m : ℕ) (d : List Gate) → (compare_lists n c m d ≡ Equal) ↔ ((n ≡ m) × (c ≡ d))
unfolding compare_lists
lists_equal n c m d = (there, λ q. rw (q.0, q.1) (self lists_orders (m, d)))
  where
    there : compare_lists n c m d ≡ Equal → (n ≡ m) × (c ≡ d)
    there e = let q = then_equal _ _ e in (equal_numbers n m q.0, dictionary_equal equal_gates c d q.1)
