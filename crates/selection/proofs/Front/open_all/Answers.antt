-- `open_all` has opened the first runs of the lines below y when y is next. Assumes nothing.
use Rattle.selection.proofs.Places.{shortest_single}
use Rattle.selection.proofs.Running.{ranging_start, ranging_more}
use Rattle.selection.proofs.Front.open_all.Goals as goal

pub loop-y-init : goal.loop-y-init
loop-y-init c = ranging_start c.requires.state c.requires.running_value

pub open_next-requires-clause-single : goal.open_next-requires-clause-single
open_next-requires-clause-single c = shortest_single 32 c.args.left.now c.requires.shortest

pub loop-y-preserved : goal.loop-y-preserved
loop-y-preserved c = ranging_more c.loop-y.invariant c.open_next.ensures
