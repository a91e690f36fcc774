-- `run` has tried the first i steps when i is next; n gates are left. Assumes nothing.
use mathlib.Core.Path.{◌≡◌}
use lib.ListN.{length, take}
use Rattle.gates.specs.Code.{gates}
use Rattle.stepping.specs.Stepped.{slip_steps}
use Rattle.stepping.proofs.Running.{SoFar}
use Rattle.stepping.proofs.run.Given as goal

abbrev pub invariant-loop-i : goal.invariant-loop-i
invariant-loop-i l = (length l.codes ≡ length l.initial.codes) × SoFar (slip_steps l.steps) (gates (take l.m l.initial.codes)) l.i l.n l.codes
