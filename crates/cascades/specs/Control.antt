-- Controls with a sign, and what an mct gate with such controls does to a pattern (document 02, order 4; document 004 for mixed controls).
-- A name that ends in ± is the one without it, with signs. Assumes nothing.
use Rattle.std.specs.Prelude.{Bool, true, false, not, cond, ◌&&◌, List, [], ◌∷◌, ℕ}
use Rattle.meaning.specs.Pattern.{Pattern, flip}
-- a control is "a line and a sign": it is negated if it is "written with a minus sign directly before it"
pub use Rattle.cascades.specs.declared.Control.{Control}

abbrev pub positive : ℕ → Control
positive c = record { line = c; negated = false }

abbrev pub negative : ℕ → Control
negative c = record { line = c; negated = true }

-- ---- what the gate does

-- a negated control "counts as met when its line is 0", any other when its line is 1
unfoldable pub met : Control → Pattern → Bool
met c x = cond c.negated (not (x c.line)) (x c.line)

-- the controls are all met
unfoldable pub all_met : List Control → Pattern → Bool
all_met [] x = true
all_met (c ∷ cs) x = met c x && all_met cs x

-- the "negated meaning": an mct gate flips t exactly if all its controls are met
unfoldable pub mct± : List Control → ℕ → Pattern → Pattern
mct± cs t x = cond (all_met cs x) (flip t x) x

-- ---- its lines

-- the lines of the controls
unfoldable pub control_lines : List Control → List ℕ
control_lines [] = []
control_lines (c ∷ cs) = c.line ∷ control_lines cs

-- the negated ones, as they stand: rising, where the controls rise
unfoldable pub negated_lines : List Control → List ℕ
negated_lines [] = []
negated_lines (c ∷ cs) = cond c.negated (c.line ∷ negated_lines cs) (negated_lines cs)
