-- The number of controls falls at each call of `expand_with`. Assumes nothing.
use lib.ListN.{length}
use Rattle.expansion.proofs.+expand_with.Given as goal

abbrev pub decreases-expand_with : goal.decreases-expand_with
decreases-expand_with l = length l.controls.now
