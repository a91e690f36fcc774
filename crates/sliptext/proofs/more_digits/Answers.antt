-- `more_digits` reads digit after digit, up to three of them. Assumes nothing.
use mathlib.Core.Path.{◌≡◌, ◌∙◌}
use Prim.Native.Nat.{suc, ◌+◌, ◌-◌}
use native.Mathlib.Omega.{arith}
use lib.ListN.{drop}
use Rattle.sliptext.proofs.Printed.{ten_next, below_1000, below_10000}
use Rattle.sliptext.proofs.Places.{more_ends, more_turn, more_done}
use Rattle.sliptext.proofs.more_digits.Goals as goal

pub returns-in_default : goal.returns-in_default
returns-in_default c =
    let a = c.args in
    let v = c.loop-end in
    let q = rw c.in_default.is at c.digit.ensures in
    ((v.invariant.0 ∙ more_ends (a.at + 4 - v.end) v.value a.s.now v.end q, (omega arith, omega arith)), below_10000 (v.end - (a.at + 1)) v.value (omega arith) v.invariant.2)

pub overflow_mul-value : goal.overflow_mul-value
overflow_mul-value c =
    let v = c.loop-end in
    omega (arith, below_1000 (v.end - (c.args.at + 1)) v.value (omega arith) v.invariant.2)

pub overflow_add-value : goal.overflow_add-value
overflow_add-value c =
    let v = c.loop-end in
    omega (arith, below_1000 (v.end - (c.args.at + 1)) v.value (omega arith) v.invariant.2)

pub loop-end-preserved : goal.loop-end-preserved
loop-end-preserved c =
    let a = c.args in
    let v = c.loop-end in
    let d = c.in-Some.ensures in
    let e : v.end + 1 - (a.at + 1) ≡ suc (v.end - (a.at + 1)) = omega arith in
    rw (c.from.ensures, e) (
      v.invariant.0 ∙ more_turn (a.at + 4 - v.end) (a.at + 4 - (v.end + 1)) v.value c.in-Some.d a.s.now v.end d (omega arith),
      omega (arith, d.0),
      ten_next (v.end - (a.at + 1)) v.value c.in-Some.d v.invariant.2 d.2,
    )

pub returns : goal.returns
returns c =
    let a = c.args in
    let v = c.loop-end in
    let e : v.end ≡ a.at + 4 = omega arith in
    (((rw e at v.invariant.0) ∙ more_done (a.at + 4 - (a.at + 4)) v.value (drop (a.at + 4) a.s.now) (omega arith), (omega arith, omega arith)), below_10000 (v.end - (a.at + 1)) v.value (omega arith) v.invariant.2)
