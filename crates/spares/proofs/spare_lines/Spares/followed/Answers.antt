-- `followed` writes the other lines behind the spares. Assumes nothing.
use mathlib.Core.Path.{refl}
use native.Mathlib.Omega.{arith}
use Rattle.std.proofs.lemmas.List.{drop-append-le, length-take-le}
use Rattle.std.proofs.lemmas.Slice.{take-put_mid}
use Rattle.std.proofs.lemmas.Grind.{common_steps}
use Rattle.spares.specs.Spares.{listed}
use Rattle.spares.proofs.spare_lines.Spares.followed.Goals as goal

pub returns : goal.returns
unfolding listed
returns c = record { starts = refl; ends = refl; are = grind (arith, common_steps, take-put_mid, drop-append-le, length-take-le) }
