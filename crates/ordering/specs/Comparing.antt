-- How two circuits compare (document 02, order 1): "by number of lines first, then by dictionary order of the reduced lists, a list that ends
-- sooner coming first". Assumes nothing.
use Rattle.std.specs.Prelude.{◌≡◌, cond, List, [], ◌∷◌, ℕ, ltb}
use Rattle.gates.specs.declared.Gate.{Gate}
use Rattle.gates.specs.Circuit.{target, slot, power}
use Rattle.gates.specs.Reduced.{Reduced}
use Rattle.std.specs.declared.cmp.Ordering.{Ordering}
use Rattle.std.specs.declared.cmp.Ordering.TheVariants.{Less, Equal, Greater}

-- "less, equal or greater (count 0, 1, 2)"
unfoldable pub count_of : Ordering → ℕ
count_of Less = 0
count_of Equal = 1
count_of Greater = 2

-- how the second stands to the first
unfoldable pub turned : Ordering → Ordering
turned Less = Greater
turned Equal = Equal
turned Greater = Less

-- by the first comparison; where that is equal, by the second
unfoldable pub then : Ordering → Ordering → Ordering
then Less b = Less
then Equal b = b
then Greater b = Greater

unfoldable pub compare_numbers : ℕ → ℕ → Ordering
compare_numbers m n = cond (ltb m n) Less (cond (ltb n m) Greater Equal)

-- document 01: "Gates compare by target, then control (a NOT before control 0), then power"
unfoldable pub compare_gates : Gate → Gate → Ordering
compare_gates g h = then (compare_numbers (target g) (target h)) (then (compare_numbers (slot g) (slot h)) (compare_numbers (power g) (power h)))

-- "dictionary order .., a list that ends sooner coming first", where f compares the elements
unfoldable pub dictionary : {A : Type 0} → (A → A → Ordering) → List A → List A → Ordering
dictionary f [] [] = Equal
dictionary f [] (y ∷ m) = Less
dictionary f (x ∷ l) [] = Greater
dictionary f (x ∷ l) (y ∷ m) = then (f x y) (dictionary f l m)

-- "by number of lines first, then by dictionary order of the .. lists": the list c on n lines and the list d on m lines
unfoldable pub compare_lists : ℕ → List Gate → ℕ → List Gate → Ordering
compare_lists n c m d = then (compare_numbers n m) (dictionary compare_gates c d)

-- the circuit c on n lines stands so to the circuit d on m lines: as their reduced lists compare
pub record Compares (n : ℕ) (c : List Gate) (m : ℕ) (d : List Gate) (k : Ordering) : Type 0 where
  pub first : List Gate
  pub second : List Gate
  pub first_reduced : Reduced n c first
  pub second_reduced : Reduced m d second
  pub compared : compare_lists n first m second ≡ k

-- the circuit c on n lines comes before the circuit d on m lines, or compares as equal to it
pub record NotAfter (n : ℕ) (c : List Gate) (m : ℕ) (d : List Gate) : Type 0 where
  pub comparison : Ordering
  pub compares : Compares n c m d comparison
  pub not_greater : comparison ≡ Greater → ⊥
