-- The closure makes the refusal of a text that of text 2. Assumes nothing.
use mathlib.Core.Path.{◌≡◌}
use Rattle.joins.proofs.fn.load_join.map_err+2.Given as goal

abbrev pub ensures : goal.ensures
ensures l r = (r.refusal ≡ l.r.refusal) × (r.text ≡ 2) × (r.line ≡ l.r.line)
