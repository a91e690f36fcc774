-- Lists of gate numbers in which removed gates keep their places: a removed gate has its target and control still, and the power 0, which no gate
-- has. What remains of such a list. Assumes nothing.
use Rattle.std.specs.Prelude.{List, [], ◌∷◌, ◌++◌, ℕ, zero, suc, ◌%◌}

-- a number of this power, or none if the power is 0
unfoldable pub picked : ℕ → ℕ → List ℕ
picked zero x = []
picked (suc p) x = x ∷ []

-- what stands at a place, or none if it is removed
unfoldable pub kept : ℕ → List ℕ
kept x = picked (x % 4) x

-- the gates that are still there, in order
unfoldable pub remaining : List ℕ → List ℕ
remaining [] = []
remaining (x ∷ l) = kept x ++ remaining l
