-- `m1_spares` leaves s out, and puts C0 behind the other spares. Assumes nothing.
use mathlib.Core.Path.{◌≡◌, ap, ◌∙◌}
use mathlib.Core.List.{◌++◌}
use native.Mathlib.Omega.{arith}
use lib.ListN.{length}
use borrow.Author.Rules.{rules}
use Rattle.spares.specs.Spares.{listed}
use Rattle.expansion.proofs.SpareLists.{slice_rest}
use Rattle.expansion.proofs.m1_spares.Goals as goal

pub returns : goal.returns
unfolding listed
returns c =
    let a = c.args in
    let s = c.args.spares in
    let known : length s.lines ≡ 32 = search rules in
    let w = c.followed.ensures in
    record { starts = w.starts; ends = w.ends; are = w.are ∙ ap (λ l. l ++ a.c0.now) (slice_rest s.first s.end s.lines (omega arith) (omega arith)) }
