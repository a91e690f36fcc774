-- `toffoli` writes five gates, one after the other. Assumes nothing.
use Rattle.expansion.proofs.Writing.{both}
use Rattle.expansion.proofs.toffoli.Goals as goal

pub returns : goal.returns
returns c =
    both c.put-i.ensures (both c.put-j.ensures (both c.put-k.ensures (both c.put-l.ensures c.put.ensures)))
