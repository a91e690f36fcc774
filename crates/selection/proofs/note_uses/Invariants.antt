-- `note_uses` has noted the next uses of the gates from place p on when p is next. Assumes nothing.
use lib.ListN.{length}
use Rattle.selection.proofs.Noting.{Noting}
use Rattle.selection.proofs.note_uses.Given as goal

abbrev pub invariant-loop-p : goal.invariant-loop-p
invariant-loop-p l = Noting l.left (length l.left) l.p l.next_target l.next_control l.opened
