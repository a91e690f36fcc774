-- The expansion of an mct gate with negated controls (document 02, order 4). Assumes nothing.
use Rattle.std.specs.Prelude.{List, [], ◌∷◌, ℕ}
use Rattle.gates.specs.declared.Gate.{Gate}
use Rattle.gates.specs.declared.Gate.TheVariants.{Not}
use Rattle.cascades.specs.Expansion.{◌⨾◌, Expands, expansion}
use Rattle.cascades.specs.Control.{Control, control_lines, negated_lines}

-- a NOT on each line, in order
unfoldable pub nots : List ℕ → List Gate
nots [] = []
nots (i ∷ l) = Not i ∷ nots l

-- "a NOT on each negated line, rising, before the gate's expansion and again after it"
unfoldable pub between_nots : List ℕ → List Gate → List Gate
between_nots l c = nots l ⨾ c ⨾ nots l

-- the circuit is an expansion on n lines of the mct gate with controls cs and target t, whichever spare lines it and its smaller gates chose
pub data Expands± (n : ℕ) (cs : List Control) (t : ℕ) : List Gate → Type 0 where
  signed : {c : List Gate} → Expands n (control_lines cs) t c → Expands± n cs t (between_nots (negated_lines cs) c)

-- the expansion with spare lines in the published order, which no sign changes
unfoldable pub expansion± : ℕ → List ℕ → List Control → ℕ → List Gate
expansion± n kept cs t = between_nots (negated_lines cs) (expansion n kept (control_lines cs) t)
