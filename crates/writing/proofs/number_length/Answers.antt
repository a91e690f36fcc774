-- `number_length` is the number of digits. Assumes nothing.
use mathlib.Core.Path.{sym, ap}
use Prim.Native.Nat.{◌/◌, ◌<◌}
use native.Mathlib.Omega.{arith}
use lib.ListN.{length}
use Rattle.writing.proofs.Numbers.{one_digit, decimal_length}
use Rattle.writing.proofs.number_length.Goals as goal

pub returns-then-n-gt9 : goal.returns-then-n-gt9
returns-then-n-gt9 c =
    let h : c.args.n / 10 < 10 = omega arith in (omega (arith, decimal_length _ c.if-n-gt9.true, ap length (one_digit _ h)), omega arith)

pub returns : goal.returns
returns c =
    let h : c.args.n < 10 = omega (arith, c.if-n-gt9.false) in (sym (ap length (one_digit _ h)), omega arith)
