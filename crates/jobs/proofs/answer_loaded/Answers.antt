-- `jobs::answer_loaded` meets its contract. Assumes nothing.
use mathlib.Core.Path.{refl}
use native.Mathlib.Omega.{arith}
use Rattle.jobs.proofs.Handed.{fewer}
use Rattle.jobs.proofs.answer_loaded.Goals as goal

pub put_out-requires : goal.put_out-requires
put_out-requires c = fewer (omega arith) (rw c.in-Ok.is at c.requires)

pub returns-in-Ok : goal.returns-in-Ok
returns-in-Ok c = rw c.in-Ok.is c.put_out.ensures

pub returns-in-Err : goal.returns-in-Err
returns-in-Err c = rw c.in-Err.is (c.refuse.ensures, refl)
