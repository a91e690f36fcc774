-- `open_run` has opened the uses of the line before place p when p is next. Assumes nothing.
use native.Mathlib.Omega.{arith}
use mathlib.Core.Path.{◌≡◌, refl, sym, ◌∙◌}
use mathlib.Core.Logic.{◌≢◌}
use lib.ListN.{length, get_or}
use Rattle.selection.specs.Places.{opposite}
use Rattle.selection.specs.Places.{line}
use Rattle.selection.proofs.Opening.{left_line, left_below, count_fits}
use Rattle.selection.proofs.Running.{opening_start, opening_left, opening_next, opening_more, opening_stop}
use Rattle.selection.proofs.Front.open_run.Goals as goal

pub loop-p-init : goal.loop-p-init
loop-p-init c =
    let a = c.args in
    opening_start a.left.now (length a.left.now) a.y a.kind a.self.now.opened a.self.now.running a.self.now.places a.self.now.sites c.requires.y_bound.0 c.requires.lines c.requires.marks c.requires.y_bound.2

pub returns-then-line_of-y : goal.returns-then-line_of-y
returns-then-line_of-y c =
    let a = c.args in
    let w = c.loop-p.invariant in
    let h = c.loop-p-test.true in
    let d : line a.kind (get_or a.left.now c.loop-p.p 0) ≢ a.y = λ e. c.if-line_of-y.true (c.line_of.ensures ∙ e) in
    let left = ((c.requires.lines.each a.y c.requires.y_bound.0).found (omega (arith, h, w.place, w.rises a.y))).left in
    opening_stop c.requires.y_bound.0 c.requires.numbers w left c.requires.y_value h d

pub overflow_add-self : goal.overflow_add-self
overflow_add-self c =
    let a = c.args in
    let p = c.loop-p.p in
    let w = c.loop-p.invariant in
    let y = c.requires.y_bound.0 in
    let n = c.requires.numbers in
    let h = c.loop-p-test.true in
    let own : line a.kind (get_or a.left.now p 0) ≡ a.y = sym c.line_of.ensures ∙ c.if-line_of-y.false in
    omega (arith, count_fits a.left.now (length a.left.now) n a.y a.kind p (get_or a.next.now p 0) y (opening_left y n w h) own (opening_next y n w a.next.now c.requires.next_uses h own) c.loop-p.self.opened c.loop-p.self.running w.place w.lines)

pub mark-requires : goal.mark-requires
mark-requires c =
    let a = c.args in
    let p = c.loop-p.p in
    let w = c.loop-p.invariant in
    let n = c.requires.numbers in
    let h = c.loop-p-test.true in
    let d = opening_left c.requires.y_bound.0 n w h in
    (omega (arith, rw c.opposite.ensures at c.line_of-in-loop-p.ensures, left_line n (opposite a.kind) p d), omega (arith, h, n.few), left_below n p d)

pub loop-p-preserved : goal.loop-p-preserved
loop-p-preserved c =
    let a = c.args in
    let h = c.loop-p-test.true in
    let own : line a.kind (get_or a.left.now c.loop-p.p 0) ≡ a.y = sym c.line_of.ensures ∙ c.if-line_of-y.false in
    let e = rw c.opposite.ensures at c.line_of-in-loop-p.ensures in
    let k = c.mark in
    rw (k.ensures.kept.0, k.ensures.kept.1) (opening_more c.requires.y_bound.0 c.requires.numbers c.loop-p.invariant a.next.now c.requires.next_uses h own _ k.new.self.places k.new.self.sites c.requires.single refl (rw e at k.ensures.marked))
