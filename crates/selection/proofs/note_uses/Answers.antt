-- `note_uses` has noted the next uses of the gates from place p on when p is next. Assumes nothing.
use native.Mathlib.Omega.{arith}
use mathlib.Core.Path.{◌≡◌, refl}
use Prim.Native.Nat.{◌+◌, ◌-◌, ◌<◌}
use lib.ListN.{length, replicate}
use Rattle.selection.proofs.Opening.{left_within, left_below}
use Rattle.selection.proofs.Noting.{noting_start, noting_more, noting_end}
use Rattle.selection.proofs.note_uses.Goals as goal

pub loop-p-init : goal.loop-p-init
loop-p-init c =
    let a = c.args in
    noting_start a.left.now (length a.left.now) a.next_target.now a.next_control.now (replicate 33 (length a.left.now)) c.requires.left_in_bounds.0 c.requires.left_in_bounds.1 refl

pub note_place-requires : goal.note_place-requires
note_place-requires c =
    let w = c.loop-p.invariant in
    let n = c.requires.numbers in
    let d = c.requires.by_index (c.loop-p.p - 1) (omega arith) in
    (omega (arith, w.room_target), omega (arith, w.room_control), omega (arith, n.few), left_below n (c.loop-p.p - 1) d)

pub loop-p-preserved : goal.loop-p-preserved
loop-p-preserved c =
    let l = c.loop-p in
    let k = c.note_place in
    let p = l.p - 1 in
    let h : p < length c.args.left.now = omega arith in
    let e : l.p ≡ p + 1 = omega arith in
    noting_more c.args.left.now (length c.args.left.now) c.requires.numbers p h (c.requires.by_index p h) l.next_target l.next_control l.opened (rw e at l.invariant) _ _ _ k.ensures.next_target_after k.ensures.next_control_after k.ensures.opened_after

pub returns : goal.returns
returns c =
    let l = c.loop-p in
    let e : l.p ≡ 0 = omega arith in
    noting_end c.args.left.now (length c.args.left.now) l.next_target l.next_control l.opened c.requires.numbers (left_within c.requires.numbers) (rw e at l.invariant)
