-- `comparison::compare_codes` meets its contract, by what is handed over. Assumes nothing.
use Rattle.jobs.proofs.Handed.{answerable}
use Rattle.comparison.proofs.Handed.{first_refused, first_accepted}
use Rattle.comparison.proofs.compare_codes.Goals as goal

pub answer_second-requires : goal.answer_second-requires
answer_second-requires c =
    let y = c.load-loaded in
    let w = rw c.in-Ok.is at c.load.ensures in
    (w.renderable, answerable _ y.new.codes y.result y.ensures)

pub returns-in-Ok : goal.returns-in-Ok
returns-in-Ok c =
    let b = c.args in
    let x = c.load in
    let y = c.load-loaded in
    let w = rw c.in-Ok.is at x.ensures in
    rw c.answer_second.ensures
    (first_accepted b.first.now b.second.now x.new.codes y.new.codes b.room b.room2 _ _ y.result x.auto.codes y.auto.codes w y.ensures)

pub returns-in-Err : goal.returns-in-Err
returns-in-Err c =
    let b = c.args in
    let x = c.load in
    let i = c.in_text.ensures in
    rw (c.refuse_two.ensures, i.0, i.1, i.2)
    (first_refused b.first.now b.second.now _ _ b.room b.room2 _ _ (rw c.in-Err.is at x.ensures))
