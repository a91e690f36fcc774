-- `invert` has exchanged v and vp in the gates before the loop's place. Assumes nothing.
use mathlib.Core.Path.{ap, ◌∙◌}
use mathlib.Core.List.{map, reverse, append-nil}
use Prim.Native.Nat.{◌≤◌}
use native.Mathlib.Omega.{arith}
use lib.ListN.{length, drop_of_length-le}
use lib.Seq.{take_all}
use Rattle.std.proofs.lemmas.List.{get_or_default}
use Rattle.std.proofs.lemmas.List.Edits.{map_over_more}
use Rattle.composition.proofs.Composed.{inverse_code, inverse_codes_reversed}
use Rattle.composition.proofs.invert.Goals as goal

pub loop-code-preserved : goal.loop-code-preserved
loop-code-preserved c =
    let l = c.loop-code in
    rw c.inverted.ensures (map_over_more inverse_code _ _ _ _ (omega arith) l.invariant (get_or_default l.list l.code-index 0 _ (omega arith)))

pub returns : goal.returns
returns c =
    let l = c.loop-code in
    let k = c.args.list.now in
    let h : length k ≤ l.code-index = omega arith in
    let e = rw (take_all l.code-index k h, drop_of_length-le k h, append-nil (map inverse_code k)) at l.invariant in
    c.reverse.ensures.after ∙ ap reverse e ∙ inverse_codes_reversed k
