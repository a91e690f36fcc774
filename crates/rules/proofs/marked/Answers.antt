-- `rules::marked` meets its contract. Assumes nothing.
use mathlib.Core.Path.{sym}
use mathlib.Core.Bool.{false}
use native.Mathlib.Omega.{arith}
use lib.ListN.{get_or-eq_default}
use Rattle.rules.proofs.marked.Goals as goal

pub returns-then-t-ge32 : goal.returns-then-t-ge32
returns-then-t-ge32 c = sym (get_or-eq_default c.args.marks false {n = c.args.t} (omega (arith, c.if-t-ge32.true)))
