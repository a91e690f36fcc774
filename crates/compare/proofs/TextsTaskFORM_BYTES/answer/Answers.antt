-- The answer of compare meets its contract, by what the job told. Assumes nothing.
use Rattle.compare.proofs.Answers.{refusal_answers, success_answers}
use Rattle.compare.proofs.TextsTaskFORM_BYTES.answer.Goals as goal

pub returns-then-outcome-ne0-clause-bytes : goal.returns-then-outcome-ne0-clause-bytes
returns-then-outcome-ne0-clause-bytes c =
    let a = c.args in
    let w = c.write_turned_away in
    refusal_answers a.self.now.first.now a.self.now.second.now c.compare_codes.result c.compare_codes.ensures c.if-outcome-ne0.true (record { number = w.ensures.value; bytes = w.ensures.out_after })

pub returns-clause-bytes : goal.returns-clause-bytes
returns-clause-bytes c =
    let a = c.args in
    success_answers a.self.now.first.now a.self.now.second.now c.compare_codes.result c.compare_codes.ensures c.if-outcome-ne0.false c.write_comparison.ensures
