-- `encode` returns the number of the gate. Assumes nothing.
use Rattle.gates.proofs.Codes.{code_not, code_powered}
use Rattle.gates.proofs.encode.Goals as goal

pub returns-in-Not : goal.returns-in-Not
returns-in-Not c = rw (c.in-Not.is, c.from.ensures) (code_not _)

pub returns-in-Powered : goal.returns-in-Powered
returns-in-Powered c = rw (c.in-Powered.is, c.from-in-Powered.ensures, c.from-in-Powered-2.ensures, c.from-in-Powered-3.ensures) (code_powered _ _ _)
