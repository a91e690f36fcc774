-- `merge_partners` has given the first i gates their turns when i is next, with n places on the stacks; then it closes the gaps. Assumes nothing.
use mathlib.Core.Path.{◌≡◌}
use native.Mathlib.Omega.{arith}
use lib.ListN.{length}
use Rattle.merging.proofs.Turning.{merging_start, merging_code, merging_more, merging_end}
use Rattle.merging.proofs.merge_partners.Goals as goal

pub loop-i-init : goal.loop-i-init
loop-i-init c = record { merging = merging_start _; stacked = c.new-stacks.ensures _ }

pub step-n-requires-clause-code : goal.step-n-requires-clause-code
step-n-requires-clause-code c =
    merging_code _ _ _ _ (omega arith) c.loop-i.invariant.merging c.requires.all_codes

pub loop-i-preserved : goal.loop-i-preserved
loop-i-preserved c = record {
  merging = merging_more _ _ _ _ (omega arith) c.loop-i.invariant.merging _ _ c.step-n.ensures.stepped;
  stacked = c.step-n.ensures.stacked_2;
}

pub returns : goal.returns
returns c =
    let e : c.loop-i.i ≡ length c.args.list.now = omega arith in
    rw (← e) (merging_end _ _ _ _ (omega arith) c.loop-i.invariant.merging _ _ c.close_gaps.ensures)
