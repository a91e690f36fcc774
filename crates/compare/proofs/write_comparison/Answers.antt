-- `compare::write_comparison` meets its contract: no two comparisons have the same count. Assumes nothing.
use Rattle.std.proofs.Common.{rules}
use Rattle.compare.proofs.Answers.{words}
use Rattle.compare.proofs.write_comparison.Goals as goal

pub returns-in-0 : goal.returns-in-0
returns-in-0 c = λ k e.
    rw ((words k e).0 c.in-0.is) (record { number = c.write_word.ensures.value; bytes = c.write_word.ensures.out_after })

pub returns-in-1 : goal.returns-in-1
returns-in-1 c = λ k e.
    rw ((words k e).1 c.in-1.is) (record { number = c.write_word-in-1.ensures.value; bytes = c.write_word-in-1.ensures.out_after })

pub returns-in_default : goal.returns-in_default
returns-in_default c = λ k e.
    rw ((words k e).2 (search rules) (search rules)) (record { number = c.write_word-in_default.ensures.value; bytes = c.write_word-in_default.ensures.out_after })
