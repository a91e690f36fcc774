-- `comparison::answer_second` meets its contract, by the cases of what was loaded. Assumes nothing.
use Rattle.comparison.specs.Compare.{compared_done}
use Rattle.comparison.proofs.answer_second.Goals as goal

pub compare_lists-requires : goal.compare_lists-requires
compare_lists-requires c =
    (c.requires.0, rw c.in-Ok.is at c.requires.1)

pub returns-in-Ok : goal.returns-in-Ok
unfolding compared_done
returns-in-Ok c =
    rw (c.in-Ok.is, c.succeed_two.ensures, c.count-c.ensures, c.compare_lists.ensures)

pub returns-in-Err : goal.returns-in-Err
unfolding compared_done
returns-in-Err c =
    let i = c.in_text.ensures in
    rw (c.in-Err.is, c.refuse_two.ensures, i.0, i.1, i.2)
