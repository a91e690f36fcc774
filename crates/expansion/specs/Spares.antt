-- The spare lines of a gate, with room behind them for those of the smaller gates. Assumes nothing.
use Rattle.std.specs.Prelude.{List, ℕ, ◌+◌, ◌<◌, length}
use Rattle.cascades.specs.Spares.{Spared}
use Rattle.spares.specs.declared.spare_lines.Spares.{Spares}
use Rattle.spares.specs.Spares.{listed}

-- they are spares of the gate with controls cs and target t, with room for its controls behind them
pub record SparesOf (cs : List ℕ) (t : ℕ) (s : Spares) : Type 0 where
  pub spared : Spared 32 (listed s) cs t
  pub room : s.end + length cs < 32
