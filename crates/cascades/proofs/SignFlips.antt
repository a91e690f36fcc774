-- A circuit of NOTs flips its lines; and flips on the negated lines, the mct gate without signs, and the flips again are the mct gate with signs.
-- Assumes nothing.
use mathlib.Core.Path.{◌≡◌, refl, ◌∙◌, fun_ext}
use mathlib.Core.Logic.{◌≢◌}
use mathlib.Core.Bool.{Bool, true, false, not, cond, ◌&&◌, ◌||◌, not-not}
use mathlib.Core.List.{List, [], ◌∷◌}
use Prim.Native.Nat.{ℕ}
use lib.Dec.{T, eqb, eqb→eq}
use borrow.Author.Tests.{not-true}
use Rattle.gates.specs.declared.Gate.TheVariants.{Not}
use Rattle.meaning.specs.Amplitude.{doubled}
use Rattle.meaning.specs.Pattern.{Pattern, flip, agree, holds, mct, has, distinct}
use Rattle.meaning.specs.State.{apply, run, powered_gates}
use Rattle.meaning.proofs.Flips.{both, flip_at, flip_other, holds_flip, mct_mct}
use Rattle.meaning.proofs.Patterns.{agree_is, flip_agree}
use Rattle.meaning.proofs.Runs.{apply_not, Acts}
use Rattle.cascades.specs.Cascade.{Below}
use Rattle.cascades.specs.Control.{Control, met, all_met, mct±, control_lines, negated_lines}
use Rattle.cascades.specs.Signs.{nots}
use Rattle.cascades.proofs.SignLines.{negated_out}

-- ---- flipped lines

-- the pattern with the bit of each of the lines flipped
unfoldable pub flips : List ℕ → Pattern → Pattern
flips l x i = cond (has i l) (not (x i)) (x i)

flips_none : (x : Pattern) → flips [] x ≡ x
unfolding flips has
flips_none x = refl

flips_cons : (i : ℕ) (l : List ℕ) (x : Pattern) → has i l ≡ false → flips (i ∷ l) x ≡ flip i (flips l x)
unfolding flips flip has
flips_cons i l x e = fun_ext λ j. go j (eqb j i) (eqb→eq j i)
  where
    go : (j : ℕ) (p : Bool) → (T p → j ≡ i) → cond (p || has j l) (not (x j)) (x j) ≡ cond p (not (cond (has j l) (not (x j)) (x j))) (cond (has j l) (not (x j)) (x j))
    go j true q = let r : j ≡ i = q tt in rw (r, e)
    go j false q = refl

flips_out : (i : ℕ) (l : List ℕ) (x : Pattern) → has i l ≡ false → flips l x i ≡ x i
unfolding flips
flips_out i l x e = rw e

flips_flips : (l : List ℕ) (x : Pattern) → flips l (flips l x) ≡ x
unfolding flips
flips_flips l x = fun_ext λ i. go (has i l) (x i)
  where
    go : (p b : Bool) → cond p (not (cond p (not b) b)) (cond p (not b) b) ≡ b
    go true b = not-not b
    go false b = refl

flips_flip : (l : List ℕ) (t : ℕ) (x : Pattern) → flips l (flip t x) ≡ flip t (flips l x)
unfolding flips flip
flips_flip l t x = fun_ext λ i. go (has i l) (eqb i t) (x i)
  where
    go : (p q b : Bool) → cond p (not (cond q (not b) b)) (cond q (not b) b) ≡ cond q (not (cond p (not b) b)) (cond p (not b) b)
    go true true b = refl
    go true false b = refl
    go false true b = refl
    go false false b = refl

-- ---- the NOTs

-- in the order of the lines
nots_in_order : nots (0 ∷ 2 ∷ []) ≡ Not 0 ∷ Not 2 ∷ []
unfolding nots
nots_in_order = refl

-- a circuit of NOTs on different lines acts as flipping them
pub nots_act : (l : List ℕ) → distinct l ≡ true → Acts (nots l) (flips l)
unfolding Acts distinct nots run powered_gates doubled
nots_act [] e ψ x = rw (flips_none x)
nots_act (i ∷ l) e ψ x =
    let u = both (not (has i l)) (distinct l) e in
    nots_act l u.1 (apply (Not i) ψ) x ∙ rw (flips_cons i l x (not-true (has i l) u.0), apply_not i ψ (flips l x))

-- ---- the gate with signs

-- with the negated lines flipped, the controls are all 1 exactly if they are met
holds_flips : (cs : List Control) (x : Pattern) → distinct (control_lines cs) ≡ true → holds (control_lines cs) (flips (negated_lines cs) x) ≡ all_met cs x
unfolding distinct holds all_met control_lines negated_lines met
holds_flips [] x e = refl
holds_flips (c ∷ cs) x e =
    let u = both (not (has c.line (control_lines cs))) (distinct (control_lines cs)) e in
    let out : has c.line (control_lines cs) ≡ false = not-true (has c.line (control_lines cs)) u.0 in
    go c.negated out (negated_out c.line cs out) (holds_flips cs x u.1)
  where
    go : (s : Bool) → has c.line (control_lines cs) ≡ false → has c.line (negated_lines cs) ≡ false → holds (control_lines cs) (flips (negated_lines cs) x) ≡ all_met cs x
        → (flips (cond s (c.line ∷ negated_lines cs) (negated_lines cs)) x c.line && holds (control_lines cs) (flips (cond s (c.line ∷ negated_lines cs) (negated_lines cs)) x)) ≡ (cond s (not (x c.line)) (x c.line) && all_met cs x)
    go true f g h = rw (flips_cons c.line (negated_lines cs) x g, flip_at c.line (flips (negated_lines cs) x), flips_out c.line (negated_lines cs) x g, holds_flip c.line (control_lines cs) (flips (negated_lines cs) x) f, h)
    go false f g h = rw (flips_out c.line (negated_lines cs) x g, h)

-- flips, mct, flips again: the mct gate with signs, for every pattern
pub mct_between_flips : (cs : List Control) (t : ℕ) (x : Pattern) → distinct (control_lines cs) ≡ true → flips (negated_lines cs) (mct (control_lines cs) t (flips (negated_lines cs) x)) ≡ mct± cs t x
unfolding mct mct±
mct_between_flips cs t x e = rw (holds_flips cs x e) (go (all_met cs x))
  where
    go : (h : Bool) → flips (negated_lines cs) (cond h (flip t (flips (negated_lines cs) x)) (flips (negated_lines cs) x)) ≡ cond h (flip t x) x
    go true = flips_flip (negated_lines cs) t (flips (negated_lines cs) x) ∙ rw (flips_flips (negated_lines cs) x)
    go false = flips_flips (negated_lines cs) x

-- ---- laws of the gate with signs

-- twice the gate does nothing: its target is none of its controls
pub mct±_mct± : (cs : List Control) (t : ℕ) (x : Pattern) → distinct (control_lines cs) ≡ true → has t (control_lines cs) ≡ false → mct± cs t (mct± cs t x) ≡ x
mct±_mct± cs t x d e =
    rw (← mct_between_flips cs t (mct± cs t x) d, ← mct_between_flips cs t x d, flips_flips (negated_lines cs) (mct (control_lines cs) t (flips (negated_lines cs) x)), mct_mct (control_lines cs) t (flips (negated_lines cs) x) e)
    (flips_flips (negated_lines cs) x)

pub mct±_other : (cs : List Control) (t i : ℕ) (x : Pattern) → i ≢ t → mct± cs t x i ≡ x i
unfolding mct±
mct±_other cs t i x n = go (all_met cs x)
  where
    go : (h : Bool) → cond h (flip t x) x i ≡ x i
    go true = flip_other t i x n
    go false = refl

module _ (n : ℕ) where
  all_met_agree : (cs : List Control) (x y : Pattern) → Below n (control_lines cs) → agree n x y ≡ true → all_met cs x ≡ all_met cs y
  unfolding all_met met control_lines Below
  all_met_agree [] x y b e = refl
  all_met_agree (c ∷ cs) x y b e = rw (agree_is n x y e c.line b.0, all_met_agree cs x y b.1 e)

  -- an mct gate on n lines takes patterns that agree on them to such patterns
  pub mct±_agree : (cs : List Control) (t : ℕ) (x y : Pattern) → Below n (control_lines cs) → agree n x y ≡ true → agree n (mct± cs t x) (mct± cs t y) ≡ true
  unfolding mct±
  mct±_agree cs t x y b e = rw (all_met_agree cs x y b e) (go (all_met cs y))
    where
      go : (p : Bool) → agree n (cond p (flip t x) x) (cond p (flip t y) y) ≡ true
      go true = flip_agree n t x y e
      go false = e
