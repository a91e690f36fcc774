-- `joins::join_codes` meets its contract, by what is handed over. Assumes nothing.
use mathlib.Core.Path.{◌∙◌}
use native.Mathlib.Omega.{arith}
use Rattle.joins.proofs.Handed.{reduced_renderable, refused_hands, joined_hands}
use Rattle.joins.proofs.join_codes.Goals as goal

pub reduce_loaded-reduced-requires : goal.reduce_loaded-reduced-requires
reduce_loaded-reduced-requires c =
    let x = c.load_join in
    let w = rw c.in-Ok.is at x.ensures in
    record { loaded_in_bounds = omega (arith, w.renderable.few, x.auto.codes); renderable = w.renderable }

pub answer_text-d-requires : goal.answer_text-d-requires
answer_text-d-requires c =
    let x = c.load_join in
    let w = rw c.in-Ok.is at x.ensures in
    let y = c.reduce_loaded-reduced.ensures in
    rw y.head (reduced_renderable w.renderable y.reduced)

pub returns-in-Ok : goal.returns-in-Ok
returns-in-Ok c =
    let x = c.load_join in
    let b = c.args in
    let w = rw c.in-Ok.is at x.ensures in
    let y = c.reduce_loaded-reduced in
    let z = c.answer_text-d.ensures in
    rw (c.with_text.ensures, z.0, z.1, y.ensures.head) (joined_hands b.first.now b.room b.second.now b.answer.now (y.auto.codes ∙ x.auto.codes) w y.ensures.reduced)

pub returns-in-Err : goal.returns-in-Err
returns-in-Err c =
    let x = c.load_join in
    let b = c.args in
    rw (c.with_text-in-Err.ensures, c.refuse.ensures) (refused_hands b.first.now b.room b.second.now b.answer.now _ _ _ _ (rw c.in-Err.is at x.ensures))
