-- `judging::head_line` meets its contract. Assumes nothing.
use mathlib.Core.Path.{sym, ◌∙◌}
use lib.ListN.{drop}
use Rattle.judging.proofs.Heads.{no_head, head_outside, has_head}
use Rattle.judging.proofs.head_line.Goals as goal

pub returns-in_default : goal.returns-in_default
returns-in_default c =
    let a = c.args in
    λ k. no_head k (drop a.at a.s.now) (rw c.in_default.is at c.read_head.ensures)

pub returns-then-not-in_range : goal.returns-then-not-in_range
returns-then-not-in_range c =
    let a = c.args in
    λ k. head_outside k (drop a.at a.s.now) c.in-Some.ensures.0 (sym c.in_range.ensures ∙ c.if-not-in_range.true)

pub returns : goal.returns
returns c =
    let a = c.args in
    let h = c.in-Some.ensures in
    has_head a.s.now a.at h.0 (sym c.in_range.ensures ∙ c.if-not-in_range.false) h.1
