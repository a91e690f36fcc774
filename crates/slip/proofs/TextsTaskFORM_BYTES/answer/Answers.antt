-- The answer of slip meets its contract, by what the job told. Assumes nothing.
use Rattle.slip.proofs.Answers.{refusal_answers, success_answers}
use Rattle.slip.proofs.TextsTaskFORM_BYTES.answer.Goals as goal

pub returns-then-outcome-ne0-clause-bytes : goal.returns-then-outcome-ne0-clause-bytes
returns-then-outcome-ne0-clause-bytes c =
    let a = c.args in
    let w = c.write_turned_away in
    refusal_answers a.self.now.first.now a.self.now.slip.now a.self.now.second.now c.slip_codes.result c.slip_codes.ensures c.if-outcome-ne0.true (record { number = w.ensures.value; bytes = w.ensures.out_after })

pub returns-clause-bytes : goal.returns-clause-bytes
returns-clause-bytes c =
    let a = c.args in
    let w = c.write_word in
    success_answers a.self.now.first.now a.self.now.slip.now a.self.now.second.now c.slip_codes.result c.slip_codes.ensures c.if-outcome-ne0.false (record { number = w.ensures.value; bytes = w.ensures.out_after })
