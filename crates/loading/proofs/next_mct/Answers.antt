-- `loading::next_mct` meets its contract. Assumes nothing.
use mathlib.Core.Path.{refl}
use native.Mathlib.Omega.{arith}
use Rattle.std.proofs.lemmas.Result.{err_from_is_err_and}
use Rattle.loading.proofs.Loading.{circuit_count, refused, counts_there, expansion_fits_at, mct_taken}
use Rattle.loading.proofs.next_mct.Goals as goal

pub mct_line-requires : goal.mct_line-requires
mct_line-requires c = let w = c.requires in record { at_in_bounds = omega (arith, w.more); le_lines = (w.sound.some, w.sound.narrow); before_bound = (w.sound.counted.0, w.sound.few) }

pub returns-in_err-mct : goal.returns-in_err-mct
returns-in_err-mct c =
    let w = c.requires in
    let e = c.in_err-mct.ensures in
    let p = err_from_is_err_and c.from_residual.result c.from_residual.ensures.1 in
    rw (p.1, p.2) (refused w (e.mct_line_of _ (circuit_count w)) e.mct_line_ahead)

pub expand_mct-gates-requires : goal.expand_mct-gates-requires
expand_mct-gates-requires c =
    let w = c.requires in
    let x = c.in_ok-mct.ensures.mct_line_of in
    let e = x.2 _ (circuit_count w) in
    record { count_in_bounds = counts_there {cs = x.0} w x.1 e; expansion_fits = expansion_fits_at {cs = x.0} w x.1 e }

pub returns : goal.returns
returns c =
    let w = c.requires in
    let x = c.in_ok-mct.ensures.mct_line_of in
    mct_taken {cs = x.0} w x.1 (x.2 _ (circuit_count w)) refl c.in_ok-mct.ensures.mct_line_ahead c.expand_mct-gates.ensures
