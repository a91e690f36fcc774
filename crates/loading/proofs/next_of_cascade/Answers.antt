-- `loading::next_of_cascade` meets its contract. Assumes nothing.
use native.Mathlib.Omega.{arith}
use Rattle.std.proofs.lemmas.Result.{err_from_is_err_and}
use Rattle.loading.proofs.Loading.{mct_only, keep_before, keep_taken, keep_refused, keep_missing}
use Rattle.loading.proofs.next_of_cascade.Goals as goal

pub returns-then-p-ne0 : goal.returns-then-p-ne0
returns-then-p-ne0 c =
    mct_only c.requires c.if-p-ne0.true c.next_mct.result c.next_mct.new.list c.next_mct.ensures

pub returns-then-head-ne0 : goal.returns-then-head-ne0
returns-then-head-ne0 c =
    let m = c.next_mct-then-head-ne0 in
    keep_before c.requires c.if-head-ne0.true m.result m.new.list m.ensures

pub keep_line-requires : goal.keep_line-requires
keep_line-requires c = let w = c.requires in record { at_in_bounds = omega (arith, w.more); le_lines = (w.sound.some, w.sound.narrow) }

pub returns-in_err-keep : goal.returns-in_err-keep
returns-in_err-keep c =
    let p = err_from_is_err_and c.from_residual.result c.from_residual.ensures.1 in
    rw (p.1, p.2) (keep_refused c.requires c.if-p-ne0.false c.if-head-ne0.false c.in_err-keep.ensures)

pub returns-in_default : goal.returns-in_default
returns-in_default c =
    let m = c.next_mct-in_default in
    keep_missing c.requires c.if-p-ne0.false c.if-head-ne0.false (rw c.in_default.is at c.in_ok-keep.ensures) m.result m.new.list m.ensures

pub returns : goal.returns
returns c =
    keep_taken c.requires c.if-p-ne0.false c.if-head-ne0.false (rw c.in-Some.is at c.in_ok-keep.ensures)
