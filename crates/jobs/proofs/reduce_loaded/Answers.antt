-- `jobs::reduce_loaded` meets its contract. Assumes nothing.
use mathlib.Core.Path.{refl}
use Rattle.reduction.proofs.Steps.{reduced_part}
use Rattle.jobs.proofs.reduce_loaded.Goals as goal

pub returns : goal.returns
returns c =
    let y = c.reduce-fewer in
    record { head = refl; reduced = reduced_part _ _ _ c.requires.loaded_in_bounds y.auto.list y.ensures }
