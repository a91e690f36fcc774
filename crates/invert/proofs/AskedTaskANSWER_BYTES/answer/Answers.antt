-- The answer of invert meets its contract, by what the job left of the area. Assumes nothing.
use mathlib.Core.Path.{refl}
use native.Mathlib.Omega.{arith}
use Rattle.jobs.specs.Jobs.{as_text}
use Rattle.console.proofs.Answers.{refusal_answers, success_answers}
use Rattle.invert.specs.Output.{Prints}
use Rattle.invert.proofs.Answers.{hands_left}
use Rattle.invert.proofs.AskedTaskANSWER_BYTES.answer.Goals as goal

pub returns-then-outcome-ne0-clause-bytes : goal.returns-then-outcome-ne0-clause-bytes
unfolding Prints
returns-then-outcome-ne0-clause-bytes c =
    let a = c.args in
    let w = c.write_turned_away in
    let z = hands_left a.self.now.text.now a.out.now c.invert_codes.result _ (omega arith) c.invert_codes.ensures in
    refusal_answers _ as_text a.out.now c.invert_codes.result.outcome _ _ _ z c.if-outcome-ne0.true (record { number = w.ensures.value; bytes = w.ensures.out_after })

pub returns-clause-bytes : goal.returns-clause-bytes
unfolding Prints
returns-clause-bytes c =
    let a = c.args in
    let z = hands_left a.self.now.text.now a.out.now c.invert_codes.result _ (omega arith) c.invert_codes.ensures in
    success_answers _ as_text a.out.now c.invert_codes.result.outcome _ _ _ z c.if-outcome-ne0.false (refl, refl)
