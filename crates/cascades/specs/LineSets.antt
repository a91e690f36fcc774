-- A set of lines as a number, whose binary digits say which lines are in it. Assumes nothing.
use Rattle.std.specs.Prelude.{ℕ, zero, suc, ◌/◌, ◌%◌, cond, List, [], ◌∷◌, eqb}
use Rattle.meaning.specs.Pattern.{number, has}

-- the lines of a list, below 32: the number of the pattern in which they are 1
abbrev pub packed : List ℕ → ℕ
packed l = number 32 (λ i. has i l)

-- of the m lines from i on, those whose digit in k is 1, rising: that of i is the lowest
unfoldable pub unpacked : ℕ → ℕ → ℕ → List ℕ
unpacked zero i k = []
unpacked (suc m) i k = let rest = unpacked m (suc i) (k / 2) in cond (eqb (k % 2) 1) (i ∷ rest) rest
