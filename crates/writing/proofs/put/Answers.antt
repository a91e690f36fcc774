-- `put` copies the bytes to their place. Assumes nothing.
use mathlib.Core.Path.{refl, ◌∙◌}
use native.Mathlib.Omega.{arith}
use lib.ListN.{length}
use Rattle.std.proofs.lemmas.Slice.{put_mid-paste}
use Rattle.std.proofs.lemmas.List.Edits.{paste_all}
use Rattle.writing.specs.Written.{written}
use Rattle.writing.proofs.put.Goals as goal

pub returns : goal.returns
unfolding written
returns c =
    let a = c.args in
    let w = a.bytes.now in
    record {
      place = refl;
      bytes = put_mid-paste a.at _ a.out.now _ w (length w) c.copy_from_slice.ensures.after (omega arith) refl ∙ paste_all a.out.now a.at w (length w) refl;
    }
