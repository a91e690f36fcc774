-- `open_all` has opened the first runs of the lines below y when y is next. Assumes nothing.
use lib.ListN.{length}
use Rattle.selection.proofs.Running.{Ranging}
use Rattle.selection.proofs.Front.open_all.Given as goal

abbrev pub invariant-loop-y : goal.invariant-loop-y
invariant-loop-y l = Ranging l.left (length l.left) l.y l.next.target.now l.next.control.now l.self.opened l.self.running l.self.places l.self.sites
