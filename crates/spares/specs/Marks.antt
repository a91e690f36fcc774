-- The marks of lines, from which the spare lines of an mct gate are found, and a set of lines is made. Assumes nothing.
use Rattle.std.specs.Prelude.{Bool, true, false, cond, ◌&&◌, ◌||◌, List, [], ◌∷◌, ℕ, zero, suc, ◌/◌, ◌%◌, eqb, get_or, set, replicate}
use Rattle.meaning.specs.Pattern.{number}

-- a mark on each line of the list, besides those that are there
unfoldable pub mark : List Bool → List ℕ → List Bool
mark m [] = m
mark m (c ∷ cs) = mark (set m c true) cs

-- 32 marks, one a line: the lines of the list have theirs
unfoldable pub marks : List ℕ → List Bool
marks l = mark (replicate 32 false) l

-- those of the k lines from i on that have no mark, rising
unfoldable pub unmarked : ℕ → ℕ → List Bool → List ℕ
unmarked zero i m = []
unmarked (suc k) i m = cond (get_or m i false) (unmarked k (suc i) m) (i ∷ unmarked k (suc i) m)

-- the lines that have a mark, as a set
abbrev pub marked_number : List Bool → ℕ
marked_number m = number 32 (λ i. get_or m i false)

-- the line i is taken: its digit in the set, the lowest, is 1, it is the target, or it has a mark
abbrev pub is_taken : ℕ → ℕ → ℕ → Bool → Bool
is_taken set i t marked = eqb (set % 2) 1 || (eqb i t || marked)

-- each of the k lines from i on is taken
unfoldable pub none_left : ℕ → ℕ → ℕ → List Bool → ℕ → Bool
none_left zero i set m t = true
none_left (suc k) i set m t = is_taken set i t (get_or m i false) && none_left k (suc i) (set / 2) m t
