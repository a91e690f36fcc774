-- `jobs::answer_text` meets its contract. Assumes nothing.
use mathlib.Core.Path.{◌∙◌}
use native.Mathlib.Omega.{arith}
use Rattle.jobs.proofs.Handed.{too_short, long_enough}
use Rattle.jobs.proofs.answer_text.Goals as goal

pub returns-then-answer-size : goal.returns-then-answer-size
returns-then-answer-size c =
    let b = c.args in
    let w = too_short b.reduced.head b.reduced.gates b.room c.measure-size.result b.codes b.answer.now c.measure-size.ensures (omega arith) in
    (c.refuse.ensures ∙ w.0, w.1)

pub returns : goal.returns
returns c =
    let b = c.args in
    let x = c.write_circuit-bytes in
    let y = c.measure-size in
    let w = long_enough b.reduced.head b.reduced.gates b.room y.result x.result b.codes b.answer.now x.new.answer y.ensures (omega arith) x.ensures.value x.ensures.answer_after in
    (c.succeed.ensures ∙ w.0, w.1)
