-- `parts::is_code` meets its contract. Assumes nothing.
use Rattle.parts.proofs.Numbers.{none_above, whether_not, none_unpowered, whether_powered}
use Rattle.parts.proofs.is_code.Goals as goal

pub returns-then-k-ge4224 : goal.returns-then-k-ge4224
returns-then-k-ge4224 c = none_above c.args.k c.if-k-ge4224.true

pub returns-in-0-default : goal.returns-in-0-default
returns-in-0-default c = whether_not c.args.k c.if-k-ge4224.false c.in-0-default.is-0

pub returns-in_default-eq0 : goal.returns-in_default-eq0
returns-in_default-eq0 c = none_unpowered c.args.k c.in_default-eq0.is-0.1 c.in_default-eq0.is-1

pub returns-in_default-2 : goal.returns-in_default-2
returns-in_default-2 c = whether_powered c.args.k c.if-k-ge4224.false c.in_default-2.is-0.1 c.in_default-2.is-1.1
