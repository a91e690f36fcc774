-- The closure makes the refusal of a text that of text 3. Assumes nothing.
use mathlib.Core.Path.{◌≡◌}
use Rattle.slips.proofs.fn.check.map_err+3.Given as goal

abbrev pub ensures : goal.ensures
ensures l r = (r.refusal ≡ l.r.refusal) × (r.text ≡ 3) × (r.line ≡ l.r.line)
