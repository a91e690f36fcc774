-- `put_and` writes a number and the bytes behind it. Assumes nothing.
use mathlib.Core.Path.{refl}
use native.Mathlib.Omega.{arith}
use lib.ListN.{length-append}
use Rattle.writing.specs.Decimal.{decimal}
use Rattle.writing.proofs.Bytes.{both}
use Rattle.writing.proofs.put_and.Goals as goal

pub returns : goal.returns
returns c =
    let a = c.args in
    both refl (omega (arith, length-append (decimal a.n) a.behind.now)) c.put_number-next.ensures c.put.ensures
