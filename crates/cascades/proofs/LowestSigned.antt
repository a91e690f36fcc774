-- With at most four controls the expansion of a gate with negated controls is the one of before, too. Assumes nothing.
use mathlib.Core.Path.{◌≡◌}
use mathlib.Core.List.{List, []}
use Prim.Native.Nat.{ℕ, ◌≤◌}
use lib.ListN.{length}
use Rattle.cascades.specs.Expansion.{Expandable}
use Rattle.cascades.specs.Control.{Control, control_lines}
use Rattle.cascades.specs.Signs as now_signed
use Rattle.cascades.specs.Cascade.{Below}
use Rattle.cascades.proofs.Lowest.{expansion±, few_controls}

module _ (n : ℕ) where
  pub few_controls± : (cs : List Control) (t : ℕ) → Expandable n [] (control_lines cs) t → Below n (control_lines cs) → length (control_lines cs) ≤ 4 → now_signed.expansion± n [] cs t ≡ expansion± n cs t
  unfolding now_signed.expansion± expansion±
  few_controls± cs t w b h = rw (few_controls n (control_lines cs) t w b h)
