-- Numbers, and lists of numbers in dictionary order, compare as the library compares them. Assumes nothing.
use Rattle.std.proofs.Common.{◌≡◌, ℕ, List, [], ◌∷◌, refl}
use Rattle.std.specs.declared.cmp.Ordering.{Ordering}
use Rattle.std.specs.declared.cmp.Ordering.TheVariants.{Less, Equal, Greater}
use Rattle.std.specs.Ordering.{nat_cmp, ordering_then}
use Rattle.std.specs.Cmp.{nat_cmp_is}
use Rattle.std.specs.Cmp.Lexicographic.{slice_cmp}
use Rattle.ordering.specs.Comparing.{then, compare_numbers, dictionary}
use Rattle.ordering.proofs.Gates.{Stands, below, level, above, stands}

pub compare_numbers_is : (m n : ℕ) → compare_numbers m n ≡ nat_cmp m n
compare_numbers_is m n = go (stands m n)
  where
    go : Stands m n → compare_numbers m n ≡ nat_cmp m n
    go (below h e) = rw e (nat_cmp_is m n _ h)
    go (level h e) = rw e (nat_cmp_is m n _ h)
    go (above h e) = rw e (nat_cmp_is m n _ h)

then_is : (a b : Ordering) → then a b ≡ ordering_then a b
unfolding then
then_is Less b = refl
then_is Equal b = refl
then_is Greater b = refl

pub dictionary_numbers : (l m : List ℕ) → dictionary compare_numbers l m ≡ slice_cmp nat_cmp l m
unfolding dictionary
dictionary_numbers [] [] = refl
dictionary_numbers [] (y ∷ m) = refl
dictionary_numbers (x ∷ l) [] = refl
dictionary_numbers (x ∷ l) (y ∷ m) = rw (compare_numbers_is x y, dictionary_numbers l m) (then_is _ _)
