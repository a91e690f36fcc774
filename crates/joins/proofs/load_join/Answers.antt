-- `joins::load_join` loads the texts in their order, and then joins their circuits. Assumes nothing.
use mathlib.Core.Path.{◌∙◌}
use native.Mathlib.Omega.{arith}
use Rattle.std.proofs.lemmas.Result.{err_from_is_err_and}
use Rattle.jobs.proofs.InText.{refused_from, accepted_from}
use Rattle.joins.proofs.PlainJoin.{first_refused, first_accepted, second_refused, second_accepted}
use Rattle.joins.proofs.load_join.Goals as goal

pub returns-in_err-first : goal.returns-in_err-first
returns-in_err-first c =
    let a = c.args in
    let p = err_from_is_err_and c.from_residual.result c.from_residual.ensures.1 in
    rw (p.1, p.2)
    (refused_from 1 c.load_text.result c.in_err-first.field-0.0 _ c.in_err-first.ensures.cases (λ d q. first_refused a.first.now a.room a.second.now (rw q at c.load_text.ensures)))

pub returns-in_err-second : goal.returns-in_err-second
returns-in_err-second c =
    let a = c.args in
    let p = err_from_is_err_and c.from_residual-in_err-second.result c.from_residual-in_err-second.ensures.1 in
    let f = accepted_from 1 c.load_text.result c.in_ok-first.first c.in_ok-first.ensures.cases in
    let w = rw f at c.load_text.ensures in
    let x = c.in_ok-first.first in
    rw (p.1, p.2)
    (refused_from 2 c.load_text-loaded.result c.in_err-second.field-0.0 _ c.in_err-second.ensures.cases
    (λ d q. first_accepted a.first.now a.room a.second.now w ∙ second_refused x.head x.gates c.load_text.new.codes a.second.now (rw q at c.load_text-loaded.ensures)))

pub join_circuits-requires : goal.join_circuits-requires
join_circuits-requires c =
    let f = accepted_from 1 c.load_text.result c.in_ok-first.first c.in_ok-first.ensures.cases in
    let w = rw f at c.load_text.ensures in
    let h = accepted_from 2 c.load_text-loaded.result c.in_ok-second.second c.in_ok-second.ensures.cases in
    let z = rw h at c.load_text-loaded.ensures in
    record { in_bounds = (omega (arith, c.load_text.auto.codes, c.requires), omega (arith, c.load_text-loaded.auto.codes)); renderable = (w.renderable, z.renderable) }

pub returns : goal.returns
returns c =
    let a = c.args in
    let f = accepted_from 1 c.load_text.result c.in_ok-first.first c.in_ok-first.ensures.cases in
    let w = rw f at c.load_text.ensures in
    let h = accepted_from 2 c.load_text-loaded.result c.in_ok-second.second c.in_ok-second.ensures.cases in
    let z = rw h at c.load_text-loaded.ensures in
    let x = c.in_ok-first.first in
    rw (first_accepted a.first.now a.room a.second.now w ∙ second_accepted x.head x.gates c.load_text.new.codes a.second.now z) c.join_circuits.ensures
