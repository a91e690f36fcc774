-- `merge_at` takes out the second of two neighbours of one site, and merges the first with it or takes it out too. Assumes nothing.
use native.Mathlib.Omega.{arith}
use Rattle.stepping.proofs.OnCodes.{merged_into, vanished}
use Rattle.stepping.proofs.merge_at.Goals as goal

pub returns-then-power-eq0 : goal.returns-then-power-eq0
returns-then-power-eq0 c =
    let a = c.args in
    vanished a.codes.now a.m a.i a.line c.requires.circuit c.requires.le_i.0 c.requires.le_i.1 c.if-not-one_site.ensures c.remove.new.codes (omega arith) c.remove.ensures
    (omega (arith, c.if-power-eq0.true)) c.remove-then-power-eq0.new.codes (omega arith) c.remove-then-power-eq0.ensures

pub returns : goal.returns
returns c =
    let a = c.args in
    merged_into a.codes.now a.m a.i a.line c.requires.circuit c.requires.le_i.0 c.requires.le_i.1 c.if-not-one_site.ensures c.remove.new.codes (omega arith) c.remove.ensures c.if-power-eq0.false
