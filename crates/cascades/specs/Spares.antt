-- The ordered lists of spares of an mct gate and of the smaller gates that it is made from (document 02, order 5). Assumes nothing.
use Rattle.std.specs.Prelude.{◌≡◌, true, List, ◌∷◌, ◌++◌, ℕ, ◌≤◌, length}
use Rattle.meaning.specs.Pattern.{distinct}
use Rattle.cascades.specs.Expansion.{c0, c1, first_spare, m0_spares, m1_spares}
use Rattle.cascades.specs.Cascade.{Below}

-- a gate with an ordered list of spares: target, controls and spares are different lines of the n, and from three controls on there is a spare
pub record Spared (n : ℕ) (sp cs : List ℕ) (t : ℕ) : Type 0 where
  pub apart : distinct (t ∷ (cs ++ sp)) ≡ true
  pub below : Below n (t ∷ (cs ++ sp))
  pub enough : 3 ≤ length cs → 1 ≤ length sp

-- the gate with spares sp', controls cs' and target t' is the one with spares sp, controls cs and target t, or a "smaller gate" within it
pub data Within (sp' cs' : List ℕ) (t' : ℕ) : List ℕ → List ℕ → ℕ → Type 0 where
  itself : Within sp' cs' t' sp' cs' t'
  in_m0 : {sp cs : List ℕ} {t : ℕ} → 3 ≤ length cs → Within sp' cs' t' (m0_spares sp cs t) (c0 cs) (first_spare sp) → Within sp' cs' t' sp cs t
  in_m1 : {sp cs : List ℕ} {t : ℕ} → 3 ≤ length cs → Within sp' cs' t' (m1_spares sp cs) (c1 cs) (first_spare sp) → Within sp' cs' t' sp cs t
