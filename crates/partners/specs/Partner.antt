-- The partner of a new gate: gates that carry their places, chains of passes alone over them, and the gate that such a chain brings beside the
-- new one to be merged (document 02, order 3). Assumes nothing.
use Rattle.std.specs.Prelude.{List, [], ◌∷◌, ◌++◌, ℕ, suc, ◌+◌, ◌%◌, length}
use Rattle.gates.specs.declared.Gate.{Gate}
use Rattle.gates.specs.declared.Gate.TheVariants.{Not, Powered}
use Rattle.gates.specs.Circuit.{Passes, powered}

-- ---- gates with their places

-- a gate, and the place at which it stood at first
pub record Placed : Type 0 where
  pub place : ℕ
  pub gate : Gate

-- the gates of a circuit, each with its place, counted from i
abbrev pub with_places : ℕ → List Gate → List Placed
with_places i [] = []
with_places i (g ∷ c) = record { place = i; gate = g } ∷ with_places (suc i) c

-- "passes alone": a chain of passes, a chain of none included; gates take their places with them
pub data Moves : List Placed → List Placed → Type 0 where
  still : {l : List Placed} → Moves l l
  swap : (u : List Placed) (x y : Placed) (v : List Placed) {m : List Placed} → Passes x.gate y.gate → Moves (u ++ y ∷ x ∷ v) m → Moves (u ++ x ∷ y ∷ v) m

-- ---- the partner

-- two gates that merge as neighbours, and what is left of them: "Merge" of document 01
pub data Merges : Gate → Gate → List Gate → Type 0 where
  -- the same control and target
  sums : (p q c t : ℕ) → Merges (Powered p c t) (Powered q c t) (powered ((p + q) % 4) c t)
  -- two NOTs on one line
  cancels : (t : ℕ) → Merges (Not t) (Not t) []

-- "the gate that passes alone bring beside the new one to be merged": from c with g at its end, to where the gate of place i stands directly
-- before g, and the two merge
pub record Brought (c : List Gate) (g : Gate) (i : ℕ) : Type 0 where
  pub partner : Gate
  pub left : List Placed
  pub right : List Placed
  pub moves : Moves (with_places 0 (c ++ g ∷ [])) (left ++ record { place = i; gate = partner } ∷ record { place = length c; gate = g } ∷ right)
  pub merge : List Gate
  pub merges : Merges partner g merge

-- "there is none"
abbrev pub NoPartner : List Gate → Gate → Type 0
NoPartner c g = (i : ℕ) → Brought c g i → ⊥
