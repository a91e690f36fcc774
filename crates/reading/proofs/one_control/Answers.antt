-- `reading::one_control` meets its contract. Assumes nothing.
use mathlib.Core.Path.{◌∙◌}
use native.Mathlib.Nat.{le_refl}
use lib.ListN.{drop}
use Rattle.reading.proofs.Lines.{further, control_signed}
use Rattle.reading.proofs.one_control.Goals as goal

pub returns-in-Some : goal.returns-in-Some
returns-in-Some c =
    let a = c.args in
    let i = c.in-Some.ensures in
    further a.s.now a.at _ _ _ c.control_number.result i.1 (control_signed (drop a.at a.s.now) ∙ rw i.0) c.control_number.ensures

pub returns : goal.returns
returns c =
    let a = c.args in
    let i = rw c.in_default.is at c.word.ensures in
    further a.s.now a.at _ _ _ c.control_number-2.result (le_refl a.at) (control_signed (drop a.at a.s.now) ∙ rw i) c.control_number-2.ensures
