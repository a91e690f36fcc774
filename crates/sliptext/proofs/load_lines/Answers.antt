-- `load_lines` has read the lines before `at`, and kept the numbers of their k steps. Assumes nothing.
use native.Mathlib.Omega.{arith}
use Rattle.sliptext.proofs.Kept.{kept_next, kept_bad, kept_many}
use Rattle.sliptext.proofs.load_lines.Goals as goal

pub returns-in_default : goal.returns-in_default
returns-in_default c =
    let a = c.args in
    let v = c.loop-at in
    kept_bad a.s.now v.steps v.at v.k v.invariant.0 (omega arith) (rw c.in_default.is at c.read_step.ensures)

pub returns-then-k-eq4096 : goal.returns-then-k-eq4096
returns-then-k-eq4096 c =
    let a = c.args in
    let v = c.loop-at in
    kept_many a.s.now v.steps v.at v.k _ _ v.invariant.0 c.in-Some.ensures.0 (omega arith)

pub loop-at-preserved : goal.loop-at-preserved
loop-at-preserved c =
    let a = c.args in
    let v = c.loop-at in
    let i = c.in-Some.ensures in
    (kept_next a.s.now v.steps v.at v.k c.in-Some.step.value c.in-Some.step.end v.invariant.0 i.0 (omega arith) (omega arith), i.1.1, omega arith)
