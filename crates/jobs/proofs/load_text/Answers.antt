-- `jobs::load_text` meets its contract. Assumes nothing.
use Rattle.text.specs.Judging.{or_else}
use Rattle.jobs.proofs.Handed.{sized}
use Rattle.jobs.proofs.load_text.Goals as goal

pub returns-in-Err : goal.returns-in-Err
unfolding or_else
returns-in-Err c =
    let b = c.args in
    sized b.kind b.text.now b.room c.in-Err.is c.size_rules.ensures

pub returns : goal.returns
unfolding or_else
returns c =
    let b = c.args in
    rw (sized b.kind b.text.now b.room c.in_default.is c.size_rules.ensures) c.load.ensures
