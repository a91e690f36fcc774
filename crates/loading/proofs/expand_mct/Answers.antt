-- `loading::expand_mct` meets its contract. Assumes nothing.
use native.Mathlib.Omega.{arith}
use mathlib.Core.Path.{sym}
use lib.Seq.{length-take-le}
use Rattle.text.specs.Heads.{kept_lines}
use Rattle.gathering.specs.Gathering.{listed}
use Rattle.loading.proofs.expand_mct.Goals as goal

pub slice_bounds-controls-end : goal.slice_bounds-controls-end
slice_bounds-controls-end c = c.requires.count_in_bounds.0

pub slice_bounds-expand_signed-end : goal.slice_bounds-expand_signed-end
slice_bounds-expand_signed-end c =
    let l = c.args.a.lines in
    sym (length-take-le l.count l.first c.requires.count_in_bounds.0)

pub slice_bounds-signed-end : goal.slice_bounds-signed-end
slice_bounds-signed-end c = c.requires.count_in_bounds.1

pub slice_bounds-expand_signed-end-2 : goal.slice_bounds-expand_signed-end-2
slice_bounds-expand_signed-end-2 c =
    let l = c.args.a.negated in
    sym (length-take-le l.count l.first c.requires.count_in_bounds.1)

pub expand_signed-requires : goal.expand_signed-requires
unfolding listed kept_lines
expand_signed-requires c =
    let w = c.requires.expansion_fits in
    record { lines_bound = w.narrow; expandable = w.expandable; below = w.below; target_in_bounds = omega (arith, w.fits) }

pub returns : goal.returns
unfolding listed kept_lines
returns c = c.expand_signed.ensures
