-- `store` writes the records of a list's part, and leaves the rest. Assumes nothing.
use Rattle.std.proofs.Common.{arith, length}
use lib.ListN.{take}
use lib.Seq.{length-take-le}
use Rattle.storing.proofs.Stored.{padded_front}
use Rattle.storing.proofs.store.Goals as goal

pub returns : goal.returns
returns c =
    let f = c.args.f in
    rw (c.store.ensures, padded_front f.codes f.gates f.limit (length (take f.limit c.args.list.now)) (omega arith) (length-take-le f.limit c.args.list.now c.requires.within))
