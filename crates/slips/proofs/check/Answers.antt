-- `check` loads the texts in their order, and then checks the steps. Assumes nothing.
use native.Mathlib.Omega.{arith}
use lib.Seq.{length-take-le}
use Rattle.std.proofs.lemmas.Result.{err_from_is_err_and}
use Rattle.jobs.proofs.InText.{refused_from, accepted_from}
use Rattle.slips.proofs.Handed.{first_refused, slip_refused, second_refused, all_accepted}
use Rattle.slips.proofs.check.Goals as goal

pub returns-in_err-first : goal.returns-in_err-first
returns-in_err-first c =
    let a = c.args in
    let p = err_from_is_err_and c.from_residual.result c.from_residual.ensures.1 in
    rw (p.1, p.2)
    (refused_from 1 c.load_text.result c.in_err-first.field-0.0 _ c.in_err-first.ensures.cases (λ d q. first_refused a.first.now a.room a.slip.now a.second.now a.room2 (rw q at c.load_text.ensures)))

pub returns-in_err-k : goal.returns-in_err-k
returns-in_err-k c =
    let a = c.args in
    let p = err_from_is_err_and c.from_residual-in_err-k.result c.from_residual-in_err-k.ensures.1 in
    let f = accepted_from 1 c.load_text.result c.in_ok-first.first c.in_ok-first.ensures.cases in
    let w = rw f at c.load_text.ensures in
    rw (p.1, p.2)
    (refused_from 2 c.load.result c.in_err-k.field-0.0 _ c.in_err-k.ensures.cases (λ d q. slip_refused a.first.now a.room a.slip.now a.second.now a.room2 c.in_ok-first.first c.load_text.new.codes w (rw q at (c.load.ensures 2))))

pub returns-in_err-second : goal.returns-in_err-second
returns-in_err-second c =
    let a = c.args in
    let p = err_from_is_err_and c.from_residual-in_err-second.result c.from_residual-in_err-second.ensures.1 in
    let f = accepted_from 1 c.load_text.result c.in_ok-first.first c.in_ok-first.ensures.cases in
    let w = rw f at c.load_text.ensures in
    let g = accepted_from 2 c.load.result c.in_ok-k.k c.in_ok-k.ensures.cases in
    let v = rw g at (c.load.ensures 2) in
    rw (p.1, p.2)
    (refused_from 3 c.load_text-2.result c.in_err-second.field-0.0 _ c.in_err-second.ensures.cases (λ d q. second_refused a.first.now a.room a.slip.now a.second.now a.room2 c.in_ok-first.first c.load_text.new.codes w c.load.new.steps c.in_ok-k.k v (rw q at c.load_text-2.ensures)))

pub slice_bounds-steps-end : goal.slice_bounds-steps-end
slice_bounds-steps-end c =
    let g = accepted_from 2 c.load.result c.in_ok-k.k c.in_ok-k.ensures.cases in
    let v = rw g at (c.load.ensures 2) in
    omega (arith, v.few, c.load.auto.steps)

pub slice_bounds-check_steps-end : goal.slice_bounds-check_steps-end
slice_bounds-check_steps-end c =
    let g = accepted_from 2 c.load.result c.in_ok-k.k c.in_ok-k.ensures.cases in
    let v = rw g at (c.load.ensures 2) in
    omega (arith, length-take-le c.in_ok-k.k c.load.new.steps (omega (arith, v.few, c.load.auto.steps)))

pub returns : goal.returns
returns c =
    let a = c.args in
    let f = accepted_from 1 c.load_text.result c.in_ok-first.first c.in_ok-first.ensures.cases in
    let w = rw f at c.load_text.ensures in
    let g = accepted_from 2 c.load.result c.in_ok-k.k c.in_ok-k.ensures.cases in
    let v = rw g at (c.load.ensures 2) in
    let h = accepted_from 3 c.load_text-2.result c.in_ok-second.second c.in_ok-second.ensures.cases in
    let z = rw h at c.load_text-2.ensures in
    rw (all_accepted a.first.now a.room a.slip.now a.second.now a.room2 c.in_ok-first.first c.load_text.new.codes w c.load.new.steps c.in_ok-k.k v c.in_ok-second.second c.load_text-2.new.codes z) c.check_steps.ensures
