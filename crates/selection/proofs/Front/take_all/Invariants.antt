-- `take_all` has taken i gates when i is next. Assumes nothing.
use lib.ListN.{length}
use Rattle.selection.proofs.Ordering.{Going}
use Rattle.selection.proofs.Front.take_all.Given as goal

abbrev pub invariant-loop-i : goal.invariant-loop-i
invariant-loop-i l = Going l.initial.list (length l.initial.left) l.i l.list l.left l.next.target.now l.next.control.now l.self.opened l.self.running l.self.places l.self.sites
