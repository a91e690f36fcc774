-- `find_partner` answers by the tops of three stacks. Assumes nothing.
use mathlib.Core.Path.{refl}
use native.Mathlib.Omega.{arith}
use Rattle.stacks.proofs.Finding.{answer_site, answer_target, answer_control, answer_found}
use Rattle.stacks.proofs.find_partner.Goals as goal

pub returns-then-alike-eq0 : goal.returns-then-alike-eq0
returns-then-alike-eq0 c =
    let x = answer_site _ _ _ (omega arith) (omega arith) (omega arith) _ _ _ _ _ _ c.requires.stacked _ _ _ c.pull_removed-alike.ensures refl (omega arith) in
    record { found = x.0; stacked_2 = x.1 }

pub returns-then-alike-changes : goal.returns-then-alike-changes
returns-then-alike-changes c =
    let x = answer_target _ _ _ (omega arith) (omega arith) (omega arith) _ _ _ _ _ _ c.requires.stacked _ _ _ c.pull_removed-alike.ensures refl _ _ _ c.pull_removed-changes.ensures refl (omega arith) in
    record { found = x.0; stacked_2 = x.1 }

pub returns-then-alike-reads : goal.returns-then-alike-reads
returns-then-alike-reads c =
    let x = answer_control _ _ _ (omega arith) (omega arith) (omega arith) _ _ _ _ _ _ c.requires.stacked _ _ _ c.pull_removed-alike.ensures refl _ _ _ c.pull_removed-changes.ensures refl _ _ _ c.pull_removed-reads.ensures refl (omega arith) in
    record { found = x.0; stacked_2 = x.1 }

pub returns : goal.returns
returns c =
    let x = answer_found _ _ _ (omega arith) (omega arith) (omega arith) _ _ _ _ _ _ c.requires.stacked _ _ _ c.pull_removed-alike.ensures refl _ _ _ c.pull_removed-changes.ensures refl _ _ _ c.pull_removed-reads.ensures refl c.if-alike-eq0.false c.if-alike-changes.false c.if-alike-reads.false in
    record { found = x.0; stacked_2 = x.1 }
