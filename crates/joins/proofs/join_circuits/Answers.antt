-- `joins::join_circuits` meets its contract, by the cases of the plain join. Assumes nothing.
use native.Mathlib.Omega.{arith}
use lib.Seq.{length-take-le}
use Rattle.joins.proofs.PlainJoin.{different_codes, over_codes, fitting_codes}
use Rattle.joins.proofs.join_circuits.Goals as goal

pub returns-then-first-second : goal.returns-then-first-second
returns-then-first-second c =
    let b = c.args in
    different_codes b.first.head b.first.gates b.codes.now b.second.head b.second.gates b.more.now (λ e. omega (arith, e))

pub returns-then-m-n : goal.returns-then-m-n
returns-then-m-n c =
    let b = c.args in
    over_codes b.first.head b.first.gates b.codes.now b.second.head b.second.gates b.more.now (omega arith) (omega arith) (omega arith) (omega arith)

pub returns : goal.returns
returns c =
    let b = c.args in
    let i = rw (length-take-le b.second.gates b.more.now (omega arith)) at c.append.ensures in
    fitting_codes b.first.head b.first.gates b.codes.now b.second.head b.second.gates b.more.now (omega arith) (omega arith) (omega arith) (omega arith) c.requires.renderable.0 c.requires.renderable.1 i
