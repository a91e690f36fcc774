-- `step` looks at the place, then passes or merges. Assumes nothing.
use mathlib.Core.Path.{◌≡◌, refl}
use native.Mathlib.Omega.{arith}
use lib.ListN.{take}
use lib.Seq.{length-take-le}
use Rattle.gates.specs.Code.{gates}
use Rattle.gates.proofs.CodeLists.{length_gates}
use Rattle.stepping.specs.Slip.{not_allowed, effect}
use Rattle.stepping.specs.Stepped.{slip_step}
use Rattle.stepping.proofs.Running.{effect_at_0, effect_at_end}
use Rattle.stepping.proofs.step.Goals.{then-i-eq0-via-then-i-eq0, then-i-eq0-via-else-i-eq0+then-m-i}
use Rattle.stepping.proofs.step.Goals as goal

pub returns-then-i-eq0 : goal.returns-then-i-eq0
returns-then-i-eq0 c =
    let x = c.args.step in
    let l = take c.args.m c.args.codes.now in
    let e : effect (slip_step x) (gates l) ≡ not_allowed = elim c.then-i-eq0.branch [
      | then-i-eq0-via-then-i-eq0 w ↦ effect_at_0 x (gates l) (omega (arith, w.if-i-eq0.true))
      | then-i-eq0-via-else-i-eq0+then-m-i w ↦ effect_at_end x (gates l) (omega (arith, w.if-m-i.true, length_gates l, length-take-le c.args.m c.args.codes.now c.requires.fits))
    ] in
    (e, refl, refl)
