-- `tokens::word` meets its contract. Assumes nothing.
use mathlib.Core.Path.{refl, sym, ◌∙◌}
use native.Mathlib.Omega.{arith}
use Prim.Native.Nat.{◌-◌}
use lib.ListN.{length, drop, length-take, length-drop}
use Rattle.tokens.proofs.Places.{strip_at}
use Rattle.tokens.proofs.word.Goals as goal

pub returns-then-starts_with : goal.returns-then-starts_with
returns-then-starts_with c =
    let a = c.args in
    let t = sym c.starts_with.ensures.value ∙ c.if-starts_with.true in
    let b = c.if-starts_with.ensures.bound refl in
    let n = length-take (length a.s.now - a.at) (drop a.at a.s.now) in
    (strip_at a.s.now a.w.now a.at ∙ rw t, omega arith, omega (arith, b, n, length-drop a.at a.s.now))

pub returns : goal.returns
returns c =
    let a = c.args in
    strip_at a.s.now a.w.now a.at ∙ rw (sym c.starts_with.ensures.value ∙ c.if-starts_with.false)
