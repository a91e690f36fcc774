-- The inverse of a circuit: "reversed, with v and vp exchanged" (document 01, "Expansion"). Assumes nothing.
use Rattle.std.specs.Prelude.{List, [], ◌∷◌, ◌++◌, ◌-◌, ◌%◌}
use Rattle.gates.specs.declared.Gate.{Gate}
use Rattle.gates.specs.declared.Gate.TheVariants.{Not, Powered}

-- the power that makes 4 with it: v and vp are exchanged, cn and NOT stay
unfoldable pub inverted : Gate → Gate
inverted (Not t) = Not t
inverted (Powered p c t) = Powered ((4 - p) % 4) c t

-- the gates in reverse order, each inverted
unfoldable pub inverse : List Gate → List Gate
inverse [] = []
inverse (g ∷ c) = inverse c ++ (inverted g ∷ [])
