-- What a test answers. Assumes nothing.
use Rattle.std.specs.Prelude.{Bool, true, false}

-- a test answers whether P holds
abbrev pub Whether : Type 0 → Bool → Type 0
Whether P true = P
Whether P false = P → ⊥
