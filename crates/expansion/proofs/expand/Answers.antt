-- `expand` hands all unnamed, unkept lines to `expand_with`, where there are three or more controls. Assumes nothing.
use mathlib.Core.Path.{ap}
use native.Mathlib.Omega.{arith}
use lib.ListN.{length}
use Rattle.cascades.specs.Expansion.{mct_spares, expansion}
use Rattle.cascades.specs.LineSets.{unpacked}
use Rattle.expansion.proofs.Halves.{mct_spares_of}
use Rattle.expansion.proofs.Few.{any_spares}
use Rattle.expansion.proofs.expand.Goals as goal

pub expand_few-requires-clause-target_in_bounds : goal.expand_few-requires-clause-target_in_bounds
unfolding expansion
expand_few-requires-clause-target_in_bounds c =
    let a = c.args in
    omega (arith, c.requires.target_in_bounds, ap length (any_spares (mct_spares a.lines (unpacked 32 0 a.kept) a.controls.now a.target) a.controls.now a.target (omega (arith, c.if-controls-lt3.true))))

pub returns-then-controls-lt3 : goal.returns-then-controls-lt3
unfolding expansion
returns-then-controls-lt3 c =
    let a = c.args in
    rw (any_spares (mct_spares a.lines (unpacked 32 0 a.kept) a.controls.now a.target) a.controls.now a.target (omega (arith, c.if-controls-lt3.true))) c.expand_few.ensures

pub expand_with-requires-clause-spares_of : goal.expand_with-requires-clause-spares_of
expand_with-requires-clause-spares_of c =
    let a = c.args in
    mct_spares_of a.lines (unpacked 32 0 a.kept) a.controls.now a.target c.unnamed.result c.requires.lines_bound c.requires.expandable c.requires.below c.unnamed.ensures

pub expand_with-requires-clause-target_in_bounds : goal.expand_with-requires-clause-target_in_bounds
unfolding expansion
expand_with-requires-clause-target_in_bounds c = rw c.unnamed.ensures.are c.requires.target_in_bounds

pub returns : goal.returns
unfolding expansion
returns c =
    rw c.unnamed.ensures.are at c.expand_with.ensures
