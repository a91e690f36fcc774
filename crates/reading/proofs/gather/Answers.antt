-- `reading::gather` meets its contract. Assumes nothing.
use mathlib.Core.Path.{◌≡◌, ap, ◌∙◌}
use Prim.Native.Nat.{◌+◌, ◌≤◌}
use native.Mathlib.Omega.{arith}
use lib.ListN.{length, drop, length-drop}
use Rattle.gathering.specs.declared.Controls.{Controls}
use Rattle.gathering.specs.Gathering.{no_lines, no_controls, added, noted, gathered}
use Rattle.reading.specs.Seen.{all_gathered}
use Rattle.gathering.proofs.Noting.{noted_few}
use Rattle.reading.proofs.Gathering.{rest_none, rest_last, rest_more}
use Rattle.reading.proofs.gather.Goals as goal

pub loop-c-init : goal.loop-c-init
unfolding no_controls no_lines gathered all_gathered
loop-c-init c =
    let a = c.args in
    let s = c.args.s.now in
    let e = c.no_controls-sum.ensures in
    let z : c.no_controls-sum.result.lines.count ≡ 0 = ap (λ (x : Controls). x.lines.count) e in
    let y : c.no_controls-sum.result.negated.count ≡ 0 = ap (λ (x : Controls). x.negated.count) e in
    (omega arith, omega arith, omega arith, omega arith, (length (drop a.at s), rw (length-drop a.at s) (omega arith), rw e))

pub returns-in_err-c : goal.returns-in_err-c
returns-in_err-c c =
    let v = c.loop-c.invariant.4 in
    rw c.from_residual.ensures (v.2 ∙ rest_none c.args.s.now c.loop-c.sum v.0 c.loop-c.p c.in_err-c.ensures)

pub returns-then-not-more : goal.returns-then-not-more
returns-then-not-more c =
    let h = c.in_ok-c.ensures in
    let v = c.loop-c.invariant.4 in
    let w = rest_last c.args.s.now c.loop-c.sum c.in_ok-c.c.value v.0 c.loop-c.p c.in_ok-c.c.end h.0 c.if-not-more.true (omega (arith, h.1)) v.1 in
    (rw c.note-sum.ensures (v.2 ∙ w), (omega (arith, h.1), omega (arith, h.1)))

pub loop-c-preserved : goal.loop-c-preserved
loop-c-preserved c =
    let h = c.in_ok-c.ensures in
    let x = c.in_ok-c.c.value in
    let v = c.loop-c.invariant.4 in
    let w = rest_more c.args.s.now c.loop-c.sum x v.0 c.loop-c.p c.in_ok-c.c.end h.0 c.if-not-more.false (omega (arith, h.1)) v.1 in
    let n = c.note-sum.ensures in
    let z : c.note-sum.result.lines.count ≡ c.loop-c.sum.lines.count + 1 = unfold noted added in ap (λ (x : Controls). x.lines.count) n in
    let y : c.note-sum.result.negated.count ≤ c.loop-c.sum.negated.count + 1 = rw n (noted_few c.loop-c.sum x.0) in
    (omega (arith, h.1), omega (arith, h.1), omega (arith, h.1), omega (arith, h.1), (w.0, omega (arith, w.1, h.1), rw n (v.2 ∙ w.2)))
