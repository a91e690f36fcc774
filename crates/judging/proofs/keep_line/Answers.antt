-- `judging::keep_line` meets its contract. Assumes nothing.
use borrow.Author.Tests.{not-true, not-false}
use native.Mathlib.Omega.{arith}
use lib.ListN.{drop}
use Rattle.judging.specs.Seen.{judge_at}
use Rattle.judging.proofs.Heads.{no_keep, gathered_none, keep_outside, keep_unsorted, has_keep}
use Rattle.judging.proofs.keep_line.Goals as goal

pub returns-in_default : goal.returns-in_default
unfolding judge_at
returns-in_default c =
    let a = c.args in
    no_keep a.head.lines (drop a.at a.s.now) (gathered_none _ (rw c.in_default.is at c.read_keep.ensures))

pub returns-then-lines-numbers : goal.returns-then-lines-numbers
unfolding judge_at
returns-then-lines-numbers c =
    let a = c.args in
    keep_outside a.head.lines (drop a.at a.s.now) c.in-Some.ensures.0 c.requires.le_lines.0 (omega (arith, c.if-lines-numbers.true))

pub returns-then-not-numbers : goal.returns-then-not-numbers
unfolding judge_at
returns-then-not-numbers c =
    let a = c.args in
    keep_unsorted a.head.lines (drop a.at a.s.now) c.in-Some.ensures.0 c.requires.le_lines.0 (omega (arith, c.if-lines-numbers.false)) (not-true _ c.if-not-numbers.true)

pub returns : goal.returns
returns c =
    let a = c.args in
    let e = c.in-Some.ensures in
    rw c.packed-kept.ensures (has_keep a.head.lines a.s.now a.at e.0 c.requires.le_lines.0 c.requires.le_lines.1 (omega (arith, c.if-lines-numbers.false)) (not-false _ c.if-not-numbers.false) e.1.1)
