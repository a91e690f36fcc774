-- The answer of join meets its contract, by what the job left of the area. Assumes nothing.
use native.Mathlib.Omega.{arith}
use Rattle.join.proofs.Answers.{refusal_answers, success_answers}
use Rattle.join.proofs.TextsTaskANSWER_BYTES.answer.Goals as goal

pub returns-then-outcome-ne0-clause-bytes : goal.returns-then-outcome-ne0-clause-bytes
returns-then-outcome-ne0-clause-bytes c =
    let a = c.args in
    let w = c.write_turned_away in
    refusal_answers a.self.now.first.now a.self.now.second.now a.out.now c.join_codes.result _ (omega arith) c.join_codes.ensures c.if-outcome-ne0.true (record { number = w.ensures.value; bytes = w.ensures.out_after })

pub returns-clause-bytes : goal.returns-clause-bytes
returns-clause-bytes c =
    let a = c.args in
    success_answers a.self.now.first.now a.self.now.second.now a.out.now c.join_codes.result _ (omega arith) c.join_codes.ensures c.if-outcome-ne0.false
