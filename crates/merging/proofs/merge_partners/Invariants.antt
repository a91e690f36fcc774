-- `merge_partners` has given the first i gates their turns when i is next, with n places on the stacks; then it closes the gaps. Assumes nothing.
use Rattle.stacks.specs.Holding.{Holds}
use Rattle.merging.proofs.Turning.{Merging}
use Rattle.merging.proofs.merge_partners.Given as goal

abbrev pub invariant-loop-i : goal.invariant-loop-i
invariant-loop-i l = record {
  merging : Merging l.initial.list l.i l.n l.list;
  stacked : Holds l.stacks l.list l.n;
}
