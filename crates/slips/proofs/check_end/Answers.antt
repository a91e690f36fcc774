-- `check_end` compares the codes, which tell the gates. Assumes nothing.
use Rattle.slips.proofs.Checking.{equal_codes}
use Rattle.slips.proofs.check_end.Goals as goal

pub returns : goal.returns
returns c =
    let a = c.args in
    let p = c.requires in
    equal_codes a.codes.now a.codes2.now a.e a.second.gates p.0.fits p.1 p.0.codes p.2.codes a.second.head c.if-ne.ensures p.2
