-- `put_digit` writes one digit. Assumes nothing.
use Prim.Native.Nat.{◌+◌}
use Rattle.writing.proofs.Bytes.{one_byte}
use Rattle.writing.proofs.put_digit.Goals as goal

pub returns : goal.returns
returns c = one_byte c.args.out.now c.args.at (48 + c.args.d) c.requires.1
