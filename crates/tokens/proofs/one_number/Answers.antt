-- `tokens::one_number` meets its contract. Assumes nothing.
use native.Mathlib.Omega.{arith}
use Rattle.tokens.proofs.Places.{num_missing, num_zero, num_one, num_two}
use Rattle.tokens.proofs.one_number.Goals as goal

pub returns-in_err-a : goal.returns-in_err-a
returns-in_err-a c =
    let a = c.args in
    rw (c.from_residual.ensures, num_missing a.s.now a.at c.in_err-a.ensures)

pub returns-then-a-eq0 : goal.returns-then-a-eq0
returns-then-a-eq0 c =
    let a = c.args in
    let d = c.in_ok-a.ensures in
    (num_zero a.s.now a.at c.in_ok-a.a d c.if-a-eq0.true, (omega arith, omega (arith, d.0)))

pub returns-in_default : goal.returns-in_default
returns-in_default c =
    let a = c.args in
    let d = c.in_ok-a.ensures in
    (num_one a.s.now a.at c.in_ok-a.a d (rw c.in_default.is at c.digit-2.ensures), (omega arith, omega (arith, d.0)))

pub returns : goal.returns
returns c =
    let a = c.args in
    let d = c.in_ok-a.ensures in
    let e = c.in-Some.ensures in
    (num_two a.s.now a.at c.in_ok-a.a d c.in-Some.b c.if-a-eq0.false e, (omega arith, omega (arith, e.0)))
