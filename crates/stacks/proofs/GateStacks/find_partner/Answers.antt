-- `find_partner` answers by the tops of three stacks. Assumes nothing.
use mathlib.Core.Path.{refl}
use native.Mathlib.Omega.{arith}
use Rattle.stacks.proofs.Finding.{answer_site, answer_target, answer_control, answer_found}
use Rattle.stacks.proofs.GateStacks.find_partner.Goals as goal

pub returns-then-s-eq0 : goal.returns-then-s-eq0
returns-then-s-eq0 c =
    let s = c.pull_removed-s.ensures in
    let x = answer_site _ _ _ (omega arith) (omega arith) (omega arith) _ _ _ _ _ _ c.requires.stacked _ _ _ s.pulled s.below (omega arith) in
    record { found = x.0; stacked_2 = x.1; below = record { sites = s.below; targets = refl; controls = refl } }

pub returns-then-s-t : goal.returns-then-s-t
returns-then-s-t c =
    let s = c.pull_removed-s.ensures in
    let t = c.pull_removed-t.ensures in
    let x = answer_target _ _ _ (omega arith) (omega arith) (omega arith) _ _ _ _ _ _ c.requires.stacked _ _ _ s.pulled s.below _ _ _ t.pulled t.below (omega arith) in
    record { found = x.0; stacked_2 = x.1; below = record { sites = s.below; targets = t.below; controls = refl } }

pub returns-then-s-c : goal.returns-then-s-c
returns-then-s-c c =
    let s = c.pull_removed-s.ensures in
    let t = c.pull_removed-t.ensures in
    let k = c.pull_removed-c.ensures in
    let x = answer_control _ _ _ (omega arith) (omega arith) (omega arith) _ _ _ _ _ _ c.requires.stacked _ _ _ s.pulled s.below _ _ _ t.pulled t.below _ _ _ k.pulled k.below (omega arith) in
    record { found = x.0; stacked_2 = x.1; below = record { sites = s.below; targets = t.below; controls = k.below } }

pub returns : goal.returns
returns c =
    let s = c.pull_removed-s.ensures in
    let t = c.pull_removed-t.ensures in
    let k = c.pull_removed-c.ensures in
    let x = answer_found _ _ _ (omega arith) (omega arith) (omega arith) _ _ _ _ _ _ c.requires.stacked _ _ _ s.pulled s.below _ _ _ t.pulled t.below _ _ _ k.pulled k.below c.if-s-eq0.false c.if-s-t.false c.if-s-c.false in
    record { found = x.0; stacked_2 = x.1; below = record { sites = s.below; targets = t.below; controls = k.below } }
