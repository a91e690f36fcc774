-- The inverse of a circuit as numbers of gates (document 01, "Expansion"): reversed, with v and vp exchanged. Assumes nothing.
use Rattle.std.specs.Prelude.{List, [], ◌∷◌, ◌++◌, ℕ}
use Rattle.gates.specs.Inverse.{inverted}
use Rattle.gates.specs.Code.{code, gate}

-- the numbers in reverse order, each that of the inverted gate
unfoldable pub inverse_codes : List ℕ → List ℕ
inverse_codes [] = []
inverse_codes (k ∷ l) = inverse_codes l ++ (code (inverted (gate k)) ∷ [])
