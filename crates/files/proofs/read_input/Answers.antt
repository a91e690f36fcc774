-- `read_input` has behind each read more of the bytes that the file had. Assumes nothing.
use Rattle.std.proofs.Common.{arith}
use Rattle.std.proofs.KnownBytes.{Consumes-trans}
use Rattle.files.proofs.Read.{front_more}
use Rattle.files.proofs.read_input.Goals as goal

pub loop-n-preserved : goal.loop-n-preserved
loop-n-preserved g c =
    let told = c.in_ok-m.ensures in (
      omega arith,
      rw (front_more c.loop-n.n c.in_ok-m.m c.read_more.new.buffer told.within.0, told.kept) (Consumes-trans _ _ _ _ _ c.loop-n.invariant.1 told.bytes),
    )
