-- A slip that goes with a reduction (document 02, order 9): what a slip's step makes of a circuit, or that it is not allowed, and how a slip is
-- run. Assumes nothing.
use Rattle.std.specs.Prelude.{◌≡◌, refl, cond, not, ◌&&◌, List, [], ◌∷◌, ◌++◌, ℕ, zero, suc, ◌+◌, ◌%◌, eqb, length, take, drop}
use Rattle.gates.specs.declared.Gate.{Gate}
use Rattle.gates.specs.declared.Gate.TheVariants.{Not, Powered}
use Rattle.gates.specs.Circuit.{target, slot, powered}

-- a slip line, `(pass i)` or `(merge i)`: "i the place of the first of the two neighbours, counted from 1"
pub data SlipStep : Type 0 where
  pass_at merge_at : ℕ → SlipStep

-- what a step makes of gates, or that it is "a step not allowed"
pub data Effect : Type 0 where
  makes : List Gate → Effect
  not_allowed : Effect

-- the same with the gates u before and v after
unfoldable pub amid : List Gate → Effect → List Gate → Effect
amid u (makes x) v = makes (u ++ x ++ v)
amid u not_allowed v = not_allowed

-- ---- two neighbours

-- "two neighbours change places if neither's target is the other's control"
unfoldable pub passing : Gate → Gate → Effect
passing g h = cond (not (eqb (suc (target g)) (slot h)) && not (eqb (suc (target h)) (slot g))) (makes (h ∷ g ∷ [])) not_allowed

-- `cn 1 2` and `cn 0 1` do not: the second's target is the first's control
second_on_control : passing (Powered 2 1 2) (Powered 2 0 1) ≡ not_allowed
unfolding target slot passing
second_on_control = refl

-- "two neighbours with the same control and target become one gate whose power is the sum modulo 4, or none if that is 0; two neighbouring NOTs
-- on one line vanish"
unfoldable pub merging : Gate → Gate → Effect
merging (Not t) (Not u) = cond (eqb t u) (makes []) not_allowed
merging (Not t) (Powered q d u) = not_allowed
merging (Powered p c t) (Not u) = not_allowed
merging (Powered p c t) (Powered q d u) = cond (eqb c d && eqb t u) (makes (powered ((p + q) % 4) c t)) not_allowed

-- `v 0 2` and `v 1 2` do not merge: they have other controls
other_controls : merging (Powered 1 0 2) (Powered 1 1 2) ≡ not_allowed
unfolding merging powered
other_controls = refl

-- ---- at a place

-- what f does to the first two gates after u, if there are two
unfoldable pub neighbours : (Gate → Gate → Effect) → List Gate → List Gate → Effect
neighbours f u [] = not_allowed
neighbours f u (g ∷ []) = not_allowed
neighbours f u (g ∷ h ∷ v) = amid u (f g h) v

-- what f does to the gates at the places i and i + 1: "A place 0 or one without a right neighbour is a step not allowed"
unfoldable pub at_place : (Gate → Gate → Effect) → ℕ → List Gate → Effect
at_place f zero c = not_allowed
at_place f (suc i) c = neighbours f (take i c) (drop i c)

-- what a slip's step makes of a circuit
unfoldable pub effect : SlipStep → List Gate → Effect
effect (pass_at i) c = at_place passing i c
effect (merge_at i) c = at_place merging i c

-- the first place is 1
first_place : effect (merge_at 1) (Not 0 ∷ Not 0 ∷ Not 1 ∷ []) ≡ makes (Not 1 ∷ [])
unfolding amid merging neighbours at_place effect
first_place = refl

-- ---- a slip

-- how a slip ends: at a circuit; or "a step not allowed, at its slip line"
pub data End : Type 0 where
  ends_at : List Gate → End
  refused_at : ℕ → End

-- on from what the step on line l makes, if it is allowed
unfoldable pub onward : ℕ → Effect → (List Gate → End) → End
onward l (makes d) rest = rest d
onward l not_allowed rest = refused_at l

-- the slip run from the circuit c, "each step .. on the circuit so far", its first step on line l
unfoldable pub run_from : ℕ → List SlipStep → List Gate → End
run_from l [] c = ends_at c
run_from l (s ∷ ss) c = onward l (effect s c) (λ d. run_from (suc l) ss d)

-- a slip has no head: its first step is on line 1
unfoldable pub run : List SlipStep → List Gate → End
run ss c = run_from 1 ss c

-- no step is allowed on no gates, so the first is refused
first_line : run (pass_at 1 ∷ pass_at 1 ∷ []) [] ≡ refused_at 1
unfolding neighbours at_place effect onward run_from run
first_line = refl

-- ---- the first step that is not allowed

-- the run from line l is refused on line k: there is a first step that is not allowed on the circuit so far, and it is on line k
pub record FirstRefused (l : ℕ) (ss : List SlipStep) (c : List Gate) (k : ℕ) : Type 0 where
  pub before : List SlipStep
  pub refused : SlipStep
  pub after : List SlipStep
  pub so_far : List Gate
  pub slip : ss ≡ before ++ (refused ∷ after)
  pub allowed : run_from l before c ≡ ends_at so_far
  pub refusal : effect refused so_far ≡ not_allowed
  pub line : k ≡ l + length before
