-- Sites of gates and their order, a gate that passes others, and the sites in front of a circuit. Assumes nothing.
use Rattle.std.specs.Prelude.{◌≡◌, List, [], ◌∷◌, ◌<◌}
use Rattle.gates.specs.declared.Gate.{Gate}
use Rattle.gates.specs.Circuit.{target, slot, Passes}

-- the site of a gate is its target and its slot: g and h have one site
pub record Same (g h : Gate) : Type 0 where
  pub targets : target g ≡ target h
  pub controls : slot g ≡ slot h

-- the order of sites: by target, then by slot
pub data Less (g h : Gate) : Type 0 where
  low : target g < target h → Less g h
  tie : target g ≡ target h → slot g < slot h → Less g h

-- g passes each gate of the list
pub data Free (g : Gate) : List Gate → Type 0 where
  free_nil : Free g []
  free_cons : {a : Gate} {v : List Gate} → Passes g a → Free g v → Free g (a ∷ v)

-- s is in front: some gate of its site passes all before it
pub data Front (s : Gate) : List Gate → Type 0 where
  here : {a : Gate} {v : List Gate} → Same a s → Front s (a ∷ v)
  there : {a : Gate} {v : List Gate} → Passes s a → Front s v → Front s (a ∷ v)
