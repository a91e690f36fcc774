-- The lines of controls and the negated ones among them: what holds of all the lines holds of the negated ones.
-- Assumes nothing.
use mathlib.Core.Path.{◌≡◌, refl, ap}
use mathlib.Core.Bool.{Bool, true, false, not, cond}
use mathlib.Core.List.{List, [], ◌∷◌}
use Prim.Native.Nat.{ℕ, suc, ◌≤◌}
use native.Mathlib.Omega.{arith}
use lib.Dec.{eqb}
use lib.ListN.{length}
use borrow.Author.Tests.{not-true}
use Rattle.meaning.specs.Pattern.{has, distinct}
use Rattle.meaning.proofs.Flips.{neither, both}
use Rattle.cascades.specs.Cascade.{Below}
use Rattle.cascades.specs.Control.{Control, control_lines, negated_lines}

-- a line that is none of the controls' is none of the negated ones
pub negated_out : (j : ℕ) (cs : List Control) → has j (control_lines cs) ≡ false → has j (negated_lines cs) ≡ false
unfolding has control_lines negated_lines
negated_out j [] e = refl
negated_out j (c ∷ cs) e = let u = neither (eqb j c.line) (has j (control_lines cs)) e in go c.negated u.0 (negated_out j cs u.1)
  where
    go : (s : Bool) → eqb j c.line ≡ false → has j (negated_lines cs) ≡ false → has j (cond s (c.line ∷ negated_lines cs) (negated_lines cs)) ≡ false
    go true f h = rw (f, h)
    go false f h = h

-- different controls have different negated lines
pub negated_distinct : (cs : List Control) → distinct (control_lines cs) ≡ true → distinct (negated_lines cs) ≡ true
unfolding distinct control_lines negated_lines
negated_distinct [] e = refl
negated_distinct (c ∷ cs) e =
    let u = both (not (has c.line (control_lines cs))) (distinct (control_lines cs)) e in
    go c.negated (negated_out c.line cs (not-true (has c.line (control_lines cs)) u.0)) (negated_distinct cs u.1)
  where
    go : (s : Bool) → has c.line (negated_lines cs) ≡ false → distinct (negated_lines cs) ≡ true → distinct (cond s (c.line ∷ negated_lines cs) (negated_lines cs)) ≡ true
    go true f h = rw (f, h)
    go false f h = h

-- the negated lines are lines of the n
pub negated_below : (n : ℕ) (cs : List Control) → Below n (control_lines cs) → Below n (negated_lines cs)
unfolding Below control_lines negated_lines
negated_below n [] b = tt
negated_below n (c ∷ cs) b = go c.negated (negated_below n cs b.1)
  where
    go : (s : Bool) → Below n (negated_lines cs) → Below n (cond s (c.line ∷ negated_lines cs) (negated_lines cs))
    go true h = (b.0, h)
    go false h = h

-- ---- how many

pub length_control_lines : (cs : List Control) → length (control_lines cs) ≡ length cs
unfolding control_lines
length_control_lines [] = refl
length_control_lines (c ∷ cs) = ap suc (length_control_lines cs)

pub negated_fewer : (cs : List Control) → length (negated_lines cs) ≤ length (control_lines cs)
unfolding control_lines negated_lines
negated_fewer [] = omega arith
negated_fewer (c ∷ cs) = go c.negated (negated_fewer cs)
  where
    go : (s : Bool) → length (negated_lines cs) ≤ length (control_lines cs) → length (cond s (c.line ∷ negated_lines cs) (negated_lines cs)) ≤ length (c.line ∷ control_lines cs)
    go true h = omega arith
    go false h = omega arith
