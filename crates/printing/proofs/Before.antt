-- What the programs wrote when quote was a job, and that they write it still. Assumes nothing.
use mathlib.Core.Path.{◌≡◌, refl}
use mathlib.Core.List.{List}
use Prim.Native.Nat.{ℕ}
use Rattle.jobs.specs.Jobs as jobs
use Rattle.jobs.specs.Jobs.{judged_text}
use Rattle.demands.proofs.Before.{Job, mapping, reducing, quoting, takes, output}
use Rattle.console.specs.declared.Program.{Program}
use Rattle.console.specs.declared.Program.TheVariants.{Map, Reduce, Quote}
use Rattle.console.specs.Output as now
use Rattle.console.specs.Output.{PrintsBy}

-- what the program of a job wrote: the definition of then
unfoldable pub Prints : Job → List ℕ → List ℕ → Type 0
Prints j s w = PrintsBy (output j) (judged_text (takes j) s 4096) w

-- the job of a program
abbrev pub job_then : Program → Job
job_then Map = mapping
job_then Reduce = reducing
job_then Quote = quoting

pub prints_before : (p : Program) (s w : List ℕ) → now.Prints p s w ≡ Prints (job_then p) s w
unfolding now.Prints Prints jobs.takes takes
prints_before Map s w = refl
prints_before Reduce s w = refl
prints_before Quote s w = refl
