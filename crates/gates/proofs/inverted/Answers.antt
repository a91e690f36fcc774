-- `inverted` exchanges v and vp, on the numbers of gates. Assumes nothing.
use Rattle.std.proofs.Common.{arith}
use native.Mathlib.Nat.{le_refl}
use Rattle.gates.proofs.Codes.{below}
use Rattle.gates.proofs.InvertedCodes.{inverted_not, inverted_powered}
use Rattle.gates.proofs.inverted.Goals as goal

pub returns-then-k-eq0 : goal.returns-then-k-eq0
returns-then-k-eq0 c = inverted_not c.args.k c.requires c.if-k-eq0.true

pub overflow_add-result : goal.overflow_add-result
overflow_add-result c = omega (arith, below (le_refl 32) c.requires)

pub returns : goal.returns
returns c = inverted_powered c.args.k c.requires c.if-k-eq0.false
