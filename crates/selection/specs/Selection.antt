-- Selection: of the gates that pass all before them, the first in the order of sites is taken, again and again. Assumes nothing.
use Rattle.std.specs.Prelude.{List, [], ◌∷◌, ◌++◌}
use Rattle.gates.specs.declared.Gate.{Gate}
use Rattle.gates.specs.Sites.{Less, Free, Front}

-- no site in front of c comes before g
abbrev pub First : Gate → List Gate → Type 0
First g c = (s : Gate) → Front s c → Less s g → ⊥

-- r is a selection from c: g, a gate that passes all before it and is the first of those, and a selection from the others
pub data Selects : List Gate → List Gate → Type 0 where
  nothing : Selects [] []
  select : (u : List Gate) (g : Gate) (v : List Gate) {r : List Gate} → Free g u → First g (u ++ g ∷ v) → Selects (u ++ v) r → Selects (u ++ g ∷ v) (g ∷ r)
