-- `jobs::quote_only` meets its contract. Assumes nothing.
use mathlib.Core.Path.{refl}
use Rattle.jobs.proofs.Handed.{quotes_mapping}
use Rattle.jobs.proofs.quote_only.Goals as goal

pub returns-in-Cascade : goal.returns-in-Cascade
returns-in-Cascade c = rw c.in-Cascade.is (quotes_mapping c.args.size)

pub returns-in-Circuit : goal.returns-in-Circuit
returns-in-Circuit c = rw c.in-Circuit.is refl
