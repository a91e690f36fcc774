-- `put_number` writes a number's digits, the last behind those of a tenth of it. Assumes nothing.
use mathlib.Core.Path.{ap}
use Prim.Native.Nat.{◌≤◌, ◌<◌}
use native.Mathlib.Omega.{arith}
use lib.ListN.{length}
use Rattle.writing.proofs.Bytes.{both}
use Rattle.writing.proofs.Numbers.{one_digit, more_digits, decimal_length, tenth_length}
use Rattle.writing.proofs.+put_number.Goals as goal

pub put_digit-requires : goal.put_digit-requires
put_digit-requires t c = let h : c.args.n < 10 = omega arith in (h, omega (arith, ap length (one_digit _ h)))

pub returns-then-n-lt10 : goal.returns-then-n-lt10
returns-then-n-lt10 t c = let h : c.args.n < 10 = omega arith in rw (one_digit _ h) c.put_digit.ensures

pub put_number-next-requires : goal.put_number-next-requires
put_number-next-requires t c = (omega arith, omega (arith, tenth_length c.args.n))

pub put_digit-requires-2 : goal.put_digit-requires-2
put_digit-requires-2 t c = let h : 10 ≤ c.args.n = omega arith in (omega arith, omega (arith, decimal_length _ h))

pub returns : goal.returns
returns t c = let h : 10 ≤ c.args.n = omega arith in both (more_digits _ h) c.requires c.put_number-next.ensures c.put_digit-2.ensures
