-- `m0_spares` puts t in the place of s, and C1 behind the other spares. Assumes nothing.
use mathlib.Core.Path.{◌≡◌, ap, ◌∙◌}
use mathlib.Core.List.{◌++◌}
use native.Mathlib.Omega.{arith}
use lib.ListN.{length}
use borrow.Author.Rules.{rules}
use Rattle.spares.specs.Spares.{listed}
use Rattle.expansion.proofs.SpareLists.{slice_changed}
use Rattle.expansion.proofs.m0_spares.Goals as goal

pub returns : goal.returns
unfolding listed
returns c =
    let a = c.args in
    let s = c.args.spares in
    let known : length s.lines ≡ 32 = search rules in
    let w = c.followed.ensures in
    record { starts = w.starts; ends = w.ends; are = w.are ∙ ap (λ l. l ++ a.c1.now) (slice_changed s.first s.end a.target s.lines (omega arith) (omega arith)) }
