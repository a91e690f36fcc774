-- `packed` goes down the lines, one digit more for each. Assumes nothing.
use mathlib.Core.Path.{◌≡◌, refl, ◌∙◌}
use Prim.Native.Nat.{◌+◌, ◌-◌}
use native.Mathlib.Omega.{arith}
use Rattle.std.proofs.lemmas.Grind.{common_steps}
use Rattle.meaning.specs.Pattern.{number}
use Rattle.spares.proofs.Sets.{digits_all, digit_more, digits_small}
use Rattle.spares.proofs.packed.Goals as goal

pub loop-i-init : goal.loop-i-init
unfolding number
loop-i-init c = refl

pub overflow_mul-set : goal.overflow_mul-set
overflow_mul-set c = record { fits = omega (arith, c.loop-i.invariant, digits_small c.args.marks c.loop-i.i (omega arith)) }

pub overflow_add-set : goal.overflow_add-set
overflow_add-set c = grind (arith, common_steps, digits_small c.args.marks c.loop-i.i (omega arith))

pub loop-i-preserved : goal.loop-i-preserved
loop-i-preserved c =
    let m = c.args.marks in
    let i = c.loop-i.i - 1 in
    let e : i + 1 ≡ c.loop-i.i = omega arith in
    let d = rw e at (digit_more m i (omega arith)) in
    omega (arith, c.from.ensures, d)

pub returns : goal.returns
returns c = let e : c.loop-i.i ≡ 0 = omega arith in rw e at c.loop-i.invariant ∙ digits_all c.args.marks
