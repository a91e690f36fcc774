-- `expand_signed` writes NOTs, the expansion, and the NOTs again. Assumes nothing.
use native.Mathlib.Omega.{arith}
use Rattle.cascades.specs.Expansion.{expansion}
use Rattle.cascades.specs.LineSets.{unpacked}
use Rattle.cascades.specs.Signs.{between_nots}
use Rattle.cascades.proofs.Signs.{length_nots, length_between}
use Rattle.expansion.proofs.Writing.{both}
use Rattle.expansion.proofs.expand_signed.Goals as goal

pub nots-first-requires : goal.nots-first-requires
nots-first-requires c =
    let a = c.args in
    omega (arith, c.requires.target_in_bounds, length_between a.negated.now (expansion a.lines (unpacked 32 0 a.kept) a.controls.now a.target))

pub expand-end-requires-clause-target_in_bounds : goal.expand-end-requires-clause-target_in_bounds
expand-end-requires-clause-target_in_bounds c =
    let a = c.args in
    omega (arith, c.requires.target_in_bounds, c.nots-first.ensures.count, length_nots a.negated.now, length_between a.negated.now (expansion a.lines (unpacked 32 0 a.kept) a.controls.now a.target))

pub nots-requires : goal.nots-requires
nots-requires c =
    let a = c.args in
    omega (arith, c.requires.target_in_bounds, c.nots-first.ensures.count, c.expand-end.ensures.count, length_nots a.negated.now, length_between a.negated.now (expansion a.lines (unpacked 32 0 a.kept) a.controls.now a.target))

pub returns : goal.returns
unfolding between_nots
returns c =
    both c.nots-first.ensures (both c.expand-end.ensures c.nots.ensures)
