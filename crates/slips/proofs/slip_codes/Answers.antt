-- `slip_codes` hands over what was checked. Assumes nothing.
use Rattle.slips.proofs.Handed.{refused_hands, accepted_hands}
use Rattle.slips.proofs.slip_codes.Goals as goal

pub returns-in-Ok : goal.returns-in-Ok
returns-in-Ok c =
    let x = c.check in
    let a = c.args in
    rw c.succeed_two.ensures (accepted_hands a.first.now a.slip.now a.second.now _ _ a.room a.room2 _ _ x.auto.codes x.auto.codes2 c.in-Ok.ensures)

pub returns-in-Err : goal.returns-in-Err
returns-in-Err c =
    let a = c.args in
    rw c.refuse_two.ensures (refused_hands a.first.now a.slip.now a.second.now _ _ a.room a.room2 _ _ _ c.in-Err.ensures)
