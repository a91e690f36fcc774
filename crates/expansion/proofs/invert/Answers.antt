-- `invert` goes down the gates, and writes the inverse of each behind those of the gates above it. Assumes nothing.
use mathlib.Core.Path.{◌≡◌, refl, ap, ◌∙◌}
use Prim.Native.Nat.{ℕ, suc, ◌-◌}
use native.Mathlib.Omega.{arith}
use lib.ListN.{get_or, length-set}
use Rattle.gates.specs.Inverse.{inverted as inverted_gate}
use Rattle.gates.specs.Code.{code, gate}
use Rattle.expansion.proofs.Inverting.{code_in, invert_start, invert_step}
use Rattle.expansion.proofs.Writing.{before_at}
use Rattle.expansion.proofs.invert.Goals as goal

pub loop-i-init : goal.loop-i-init
loop-i-init c = let a = c.args in (omega arith, omega arith, refl, invert_start a.list.now a.to a.at)

pub inverted-requires : goal.inverted-requires
inverted-requires c =
    let l = c.loop-i in
    let a = c.args in
    let e = before_at l.invariant.3 (omega arith) (l.i - 1) (omega arith) in
    rw e (code_in 32 a.from a.to a.list.now (l.i - 1) (omega arith) (omega arith) (omega arith) c.requires.all_codes)

pub loop-i-preserved : goal.loop-i-preserved
loop-i-preserved c =
    let l = c.loop-i in
    let a = c.args in
    let L = c.args.list.now in
    let k = l.i - 1 in
    let x = code (inverted_gate (gate (get_or L k 0))) in
    let q : suc k ≡ l.i = omega arith in
    let e : c.inverted.result ≡ x = c.inverted.ensures ∙ ap (λ (j : ℕ). code (inverted_gate (gate j))) (before_at l.invariant.3 (omega arith) k (omega arith)) in (
      omega arith,
      omega arith,
      length-set l.list l.next c.inverted.result ∙ l.invariant.2,
      rw e (invert_step L l.list k a.to a.at l.next (omega arith) (omega arith) (omega arith) (rw q l.invariant.3)),
    )

pub returns : goal.returns
returns c =
    let l = c.loop-i in
    let q : l.i ≡ c.args.from = omega arith in
    rw q at l.invariant.3
