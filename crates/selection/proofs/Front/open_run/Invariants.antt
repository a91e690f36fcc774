-- `open_run` has opened the uses of the line before place p when p is next. Assumes nothing.
use Prim.Native.Nat.{◌-◌}
use lib.ListN.{length}
use Rattle.selection.proofs.Running.{Opening}
use Rattle.selection.proofs.Front.open_run.Given as goal

abbrev pub invariant-loop-p : goal.invariant-loop-p
invariant-loop-p l = Opening l.left (length l.left) l.y l.kind l.initial.self.opened l.initial.self.running l.p l.self.opened l.self.running l.self.places l.self.sites

abbrev pub decreases-loop-p : goal.decreases-loop-p
decreases-loop-p l = length l.left - l.p
