-- `unpacked_marks` goes up the lines, and marks those whose digit is 1. Assumes nothing.
use mathlib.Core.Path.{refl, sym, ◌∙◌}
use mathlib.Core.Bool.{false}
use native.Mathlib.Omega.{arith}
use borrow.Author.Rules.{rules}
use lib.ListN.{get_or-replicate}
use lib.Seq.{get_or-set_other}
use Rattle.spares.specs.Marks.{marks as marks_of}
use Rattle.spares.proofs.Sets.{marks_next, marks_done}
use Rattle.spares.proofs.unpacked_marks.Goals as goal

pub loop-mark-init : goal.loop-mark-init
loop-mark-init c = (refl, unfold marks_of in refl, λ k a b. get_or-replicate 32 k false false b)

pub loop-mark-preserved : goal.loop-mark-preserved
loop-mark-preserved c = let l = c.loop-mark in (search rules, marks_next l.mark-items l.mark-index l.rest (omega arith) (l.invariant.2 l.mark-index (omega arith) (omega arith)) ∙ l.invariant.1, λ k a b. get_or-set_other l.mark-items l.mark-index k _ false (omega arith) ∙ l.invariant.2 k (omega arith) b)

pub returns : goal.returns
returns c = let l = c.loop-mark in sym (marks_done l.mark-items l.mark-index l.rest (omega arith)) ∙ l.invariant.1
