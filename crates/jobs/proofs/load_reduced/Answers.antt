-- `jobs::load_reduced` meets its contract. Assumes nothing.
use native.Mathlib.Omega.{arith}
use Rattle.std.proofs.lemmas.Result.{err_from_is_err_and}
use Rattle.jobs.proofs.Handed.{reduces}
use Rattle.jobs.proofs.load_reduced.Goals as goal

pub returns-in_err-loaded : goal.returns-in_err-loaded
returns-in_err-loaded c =
    let p = err_from_is_err_and c.from_residual.result c.from_residual.ensures.1 in
    rw (p.1, p.2) c.in_err-loaded.ensures

pub reduce_loaded-requires : goal.reduce_loaded-requires
reduce_loaded-requires c =
    let w = c.in_ok-loaded.ensures.renderable in
    record { loaded_in_bounds = omega (arith, w.few, c.load_text.auto.codes, c.requires); renderable = w }

pub returns : goal.returns
returns c =
    let b = c.args in
    let y = c.reduce_loaded.ensures in
    rw y.head (reduces b.kind b.text.now b.room c.in_ok-loaded.ensures y.reduced)
