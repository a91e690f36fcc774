-- `take_lowest` takes the gate and mends the runs of its two lines. Assumes nothing.
use native.Mathlib.Omega.{arith}
use mathlib.Core.Path.{refl}
use Prim.Native.Nat.{◌+◌, ◌-◌, ◌*◌}
use lib.ListN.{get_or, length-set}
use lib.Seq.{get_or-set_other}
use Rattle.selection.proofs.Turn.{some_mark, turn_counts, slot_differs, turn_numbers, turn_single, turn_state, turn_differs, turn_taken}
use Rattle.selection.proofs.Front.take_lowest.Goals as goal

pub lowest-site-requires : goal.lowest-site-requires
lowest-site-requires c = some_mark c.requires.prepared c.requires.nonzero

pub overflow_sub-self : goal.overflow_sub-self
overflow_sub-self c = let x = c.lowest-site.result in omega (arith, (turn_counts c.requires.prepared (get_or c.args.self.now.places (x.target * 33 + x.slot) 0) c.lowest-site.ensures refl).0)

pub overflow_sub-self-2 : goal.overflow_sub-self-2
overflow_sub-self-2 c =
    let w = c.requires.prepared in
    let x = c.lowest-site.result in
    let b = c.lowest-site.ensures in
    let v = c.args.self.now.running in
    let p = get_or c.args.self.now.places (x.target * 33 + x.slot) 0 in
    omega (arith, (turn_counts w p b refl).1, get_or-set_other v (x.target + 1) x.slot (get_or v (x.target + 1) 0 - 1) 0 (slot_differs w p b refl))

pub refresh-requires-clause-numbers : goal.refresh-requires-clause-numbers
refresh-requires-clause-numbers c =
    let x = c.lowest-site.result in
    rw length-set (turn_numbers c.requires.prepared (get_or c.args.self.now.places (x.target * 33 + x.slot) 0) c.lowest-site.ensures refl)

pub refresh-requires-clause-single : goal.refresh-requires-clause-single
refresh-requires-clause-single c =
    let x = c.lowest-site.result in
    turn_single c.requires.prepared (get_or c.args.self.now.places (x.target * 33 + x.slot) 0) c.lowest-site.ensures refl

pub refresh-requires-clause-state : goal.refresh-requires-clause-state
refresh-requires-clause-state c =
    let x = c.lowest-site.result in
    rw length-set (turn_state c.requires.prepared (get_or c.args.self.now.places (x.target * 33 + x.slot) 0) c.lowest-site.ensures refl _ refl _ c.remove.ensures)

pub refresh-requires-2-clause-numbers : goal.refresh-requires-2-clause-numbers
refresh-requires-2-clause-numbers c =
    let x = c.lowest-site.result in
    rw length-set (turn_numbers c.requires.prepared (get_or c.args.self.now.places (x.target * 33 + x.slot) 0) c.lowest-site.ensures refl)

pub refresh-requires-2-clause-single : goal.refresh-requires-2-clause-single
refresh-requires-2-clause-single c =
    let x = c.lowest-site.result in
    turn_single c.requires.prepared (get_or c.args.self.now.places (x.target * 33 + x.slot) 0) c.lowest-site.ensures refl

pub refresh-requires-2-clause-differs : goal.refresh-requires-2-clause-differs
refresh-requires-2-clause-differs c =
    let w = c.requires.prepared in
    let x = c.lowest-site.result in
    let b = c.lowest-site.ensures in
    let p = get_or c.args.self.now.places (x.target * 33 + x.slot) 0 in
    rw ((c.refresh.ensures.others x.slot (slot_differs w p b refl)).0, length-set) (turn_differs w p b refl x.slot b.slot)

pub returns : goal.returns
returns c =
    let x = c.lowest-site.result in
    let p = get_or c.args.self.now.places (x.target * 33 + x.slot) 0 in
    turn_taken c.requires.prepared p c.lowest-site.ensures refl _ refl _ _ _ _ _ _ _ _ (rw length-set at c.refresh.ensures) (rw length-set at c.refresh-2.ensures)
