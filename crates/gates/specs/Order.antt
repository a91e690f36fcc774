-- The dictionary order of gates and of lists (document 01, "Passing, merging, reduced lists"). Assumes nothing.
use Rattle.std.specs.Prelude.{◌≡◌, List, [], ◌∷◌, ◌<◌}
use Rattle.gates.specs.declared.Gate.{Gate}
use Rattle.gates.specs.Circuit.{target, slot, power}

-- "Gates compare by target, then control (a NOT before control 0), then power"
pub data Earlier (g h : Gate) : Type 0 where
  by_target : target g < target h → Earlier g h
  by_control : target g ≡ target h → slot g < slot h → Earlier g h
  by_power : target g ≡ target h → slot g ≡ slot h → power g < power h → Earlier g h

-- "dictionary order" of lists: the first is equal to the second, or comes before it
infix 40 ◌≼◌
pub data ◌≼◌ : List Gate → List Gate → Type 0 where
  none : {d : List Gate} → [] ≼ d
  less : {g h : Gate} {c d : List Gate} → Earlier g h → (g ∷ c) ≼ (h ∷ d)
  same : {g : Gate} {c d : List Gate} → c ≼ d → (g ∷ c) ≼ (g ∷ d)
