-- Steps forwards make no gate with a control and a target that no gate had: what holds of each gate of a circuit, whatever its power, holds of each
-- gate of its reduced list. Assumes nothing.
use mathlib.Core.List.{List, [], ◌∷◌, ◌++◌}
use Prim.Native.Nat.{ℕ, zero, suc, ◌+◌, ◌%◌}
use Rattle.gates.specs.Every.{Every}
use Rattle.gates.specs.declared.Gate.{Gate}
use Rattle.gates.specs.declared.Gate.TheVariants.{Not, Powered}
use Rattle.gates.specs.Circuit.{powered, AllValid, Rewrite, pass, merge, cancel, Step, step, Reaches, stop, more}
use Rattle.gates.specs.Inverse.{inverted, inverse}
use Rattle.gates.specs.Reduced.{Reduced}
use Rattle.gates.proofs.Every.{every_append, every_left, every_right}
use Rattle.gates.proofs.ReducedLists.{reduced_reached}

-- it holds of a powered gate whatever its power is
unfoldable pub AnyPower : (Gate → Type 0) → Type 0
AnyPower P = (p q c t : ℕ) → P (Powered p c t) → P (Powered q c t)

module _ (P : Gate → Type 0) (any : AnyPower P) where
  powered_every : (p q c t : ℕ) → P (Powered p c t) → Every P (powered q c t)
  unfolding powered AnyPower
  powered_every p zero c t h = tt
  powered_every p (suc q) c t h = (any p (suc q) c t h, tt)

  rewrite_every : {x y : List Gate} → Rewrite x y → Every P x → Every P y
  rewrite_every (pass w) h = (h.1.0, (h.0, tt))
  rewrite_every (merge p q c t) h = powered_every p ((p + q) % 4) c t h.0
  rewrite_every (cancel t) h = tt

  step_every : {n : ℕ} {c d : List Gate} → Step n c d → Every P c → Every P d
  step_every (step u v {x} {y} l f k) h =
      let ux : Every P (u ++ x) = every_left P (u ++ x) v h in
      every_append P (u ++ y) v (every_append P u y (every_left P u x ux) (rewrite_every l (every_right P u x ux))) (every_right P (u ++ x) v h)

  reached_every : {n : ℕ} {c d : List Gate} → Reaches n c d → Every P c → Every P d
  reached_every stop h = h
  reached_every (more s r) h = reached_every r (step_every s h)

  -- the reduced list is reached by steps forwards alone
  pub reduced_every : (n : ℕ) {c r : List Gate} → AllValid n c → Reduced n c r → Every P c → Every P r
  reduced_every n f w h = reached_every (reduced_reached n f w) h

  -- and the inverse has the same controls and targets
  inverted_holds : (g : Gate) → P g → P (inverted g)
  unfolding inverted AnyPower
  inverted_holds (Not t) h = h
  inverted_holds (Powered p c t) h = any p _ c t h

  pub inverse_every : (c : List Gate) → Every P c → Every P (inverse c)
  unfolding inverse
  inverse_every [] h = tt
  inverse_every (g ∷ c) h = every_append P (inverse c) (inverted g ∷ []) (inverse_every c h.1) (inverted_holds g h.0, tt)
