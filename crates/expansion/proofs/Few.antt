-- The expansions of gates with at most two controls. Assumes nothing.
use mathlib.Core.Path.{◌≡◌, refl}
use mathlib.Core.List.{List, [], ◌∷◌}
use Prim.Native.Nat.{ℕ, ◌<◌}
use native.Mathlib.Omega.{arith}
use lib.ListN.{length, get_or}
use Rattle.gates.specs.declared.Gate.TheVariants.{Not}
use Rattle.cascades.specs.Expansion.{cn, ◌⨾◌, toffoli, expand, expand_with}

module _ (sp : List ℕ) where
  pub no_control : (l : List ℕ) (t : ℕ) → length l ≡ 0 → expand_with sp l t ≡ Not t ∷ []
  unfolding expand expand_with
  no_control [] t h = refl
  no_control (a ∷ l) t h = absurd (omega arith)

  pub one_control : (l : List ℕ) (t : ℕ) → length l ≡ 1 → expand_with sp l t ≡ cn (get_or l 0 0) t
  unfolding expand expand_with
  one_control [] t h = absurd (omega arith)
  one_control (a ∷ []) t h = refl
  one_control (a ∷ b ∷ l) t h = absurd (omega arith)

  pub two_controls : (l : List ℕ) (t : ℕ) → length l ≡ 2 → expand_with sp l t ≡ toffoli (get_or l 0 0) (get_or l 1 0) t
  unfolding expand expand_with
  two_controls [] t h = absurd (omega arith)
  two_controls (a ∷ []) t h = absurd (omega arith)
  two_controls (a ∷ b ∷ []) t h = refl
  two_controls (a ∷ b ∷ c ∷ l) t h = absurd (omega arith)

-- they take no spare
pub any_spares : (sp l : List ℕ) (t : ℕ) → length l < 3 → expand_with sp l t ≡ expand_with [] l t
unfolding expand expand_with
any_spares sp [] t h = refl
any_spares sp (a ∷ []) t h = refl
any_spares sp (a ∷ b ∷ []) t h = refl
any_spares sp (a ∷ b ∷ c ∷ l) t h = absurd (omega arith)

pub length_toffoli : (a b t : ℕ) → length (toffoli a b t) ≡ 5
unfolding ◌⨾◌
length_toffoli a b t = refl
