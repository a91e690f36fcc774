-- What one control more changes. Assumes nothing.
use mathlib.Core.Bool.{Bool, true, false, cond}
use Prim.Native.Nat.{◌+◌, ◌≤◌}
use native.Mathlib.Omega.{arith}
use Rattle.cascades.specs.declared.Control.{Control}
use Rattle.gathering.specs.declared.Controls.{Controls}
use Rattle.gathering.specs.Gathering.{added, noted}

-- one control more is at most one negated one more
pub noted_few : (a : Controls) (c : Control) → (noted a c).negated.count ≤ a.negated.count + 1
unfolding noted added
noted_few a c = go c.negated
  where
    go : (b : Bool) → (cond b (added a.negated c.line) a.negated).count ≤ a.negated.count + 1
    go true = omega arith
    go false = omega arith
