-- `run` has tried the first i steps when i is next; n gates are left. Assumes nothing.
use mathlib.Core.Path.{refl, ◌∙◌}
use native.Mathlib.Omega.{arith}
use lib.ListN.{take}
use Rattle.gates.specs.Code.{gates}
use Rattle.stepping.specs.Stepped.{slip_steps}
use Rattle.stepping.proofs.Running.{so_far_start, so_far_more, so_far_refused, so_far_end}
use Rattle.stepping.proofs.run.Goals as goal

pub loop-i-init : goal.loop-i-init
loop-i-init c = (refl, so_far_start (slip_steps c.args.steps.now) c.requires)

pub returns-in_default : goal.returns-in_default
returns-in_default c =
    let a = c.args in
    let v = c.loop-i in
    let e = c.in_default.ensures in
    rw c.in_default.is (so_far_refused a.steps.now v.i (gates (take a.m a.codes.now)) v.n v.codes v.invariant.1 (omega arith) c.in_default.field-0.line e.0 e.1, e.2 ∙ v.invariant.0)

pub loop-i-preserved : goal.loop-i-preserved
loop-i-preserved c =
    let a = c.args in
    let v = c.loop-i in
    let e = c.in-Ok.ensures in
    (e.2 ∙ v.invariant.0, so_far_more a.steps.now v.i (gates (take a.m a.codes.now)) v.n v.codes v.invariant.1 (omega arith) c.in-Ok.left c.step-answer.new.codes e.0 e.1)

pub returns : goal.returns
returns c =
    let a = c.args in
    let v = c.loop-i in
    (so_far_end a.steps.now v.i (gates (take a.m a.codes.now)) v.n v.codes v.invariant.1 (omega arith), v.invariant.1.left, v.invariant.0)
