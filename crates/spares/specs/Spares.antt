-- The spare lines of a gate as the code holds them. Assumes nothing.
use Rattle.std.specs.Prelude.{◌≡◌, List, ℕ}
use Rattle.std.proofs.Math.Seq.{slice}
use Rattle.spares.specs.declared.spare_lines.Spares.{Spares}

-- the spares, in order: those of the lines from `first` up to `end`
unfoldable pub listed : Spares → List ℕ
listed s = slice s.first s.end s.lines

-- the spares stand in these places, and are these lines
pub record Lists (s : Spares) (first end : ℕ) (l : List ℕ) : Type 0 where
  pub starts : s.first ≡ first
  pub ends : s.end ≡ end
  pub are : listed s ≡ l
