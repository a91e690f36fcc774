-- `judging::in_range` meets its contract. Assumes nothing.
use native.Mathlib.Omega.{arith}
use Rattle.judging.proofs.Heads.{range_low, range_high}
use Rattle.judging.proofs.in_range.Goals as goal

pub returns-then-n-lt1 : goal.returns-then-n-lt1
returns-then-n-lt1 c = range_low c.args.head.lines c.if-n-lt1.true

pub returns : goal.returns
returns c = range_high c.args.head.lines (omega (arith, c.if-n-lt1.false))
