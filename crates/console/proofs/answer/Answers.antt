-- `console::answer` meets its contract, by what the job left of the area. Assumes nothing.
use native.Mathlib.Omega.{arith}
use Rattle.console.proofs.Answers.{does_left, refusal_answers, success_answers}
use Rattle.console.specs.Output.{Prints}
use Rattle.console.proofs.answer.Goals as goal

pub returns-then-outcome-ne0 : goal.returns-then-outcome-ne0
unfolding Prints
returns-then-outcome-ne0 c =
    let a = c.args in
    let w = c.write_turned_away in
    let z = does_left a.program a.text.now a.out.now c.outcome_of-outcome.result _ (omega arith) c.outcome_of-outcome.ensures in
    refusal_answers _ _ a.out.now c.outcome_of-outcome.result _ _ _ z c.if-outcome-ne0.true (record { number = w.ensures.value; bytes = w.ensures.out_after })

pub returns : goal.returns
unfolding Prints
returns c =
    let a = c.args in
    let z = does_left a.program a.text.now a.out.now c.outcome_of-outcome.result _ (omega arith) c.outcome_of-outcome.ensures in
    success_answers _ _ a.out.now c.outcome_of-outcome.result _ _ _ z c.if-outcome-ne0.false c.write_success.ensures
