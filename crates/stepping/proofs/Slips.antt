-- Slips and chains of forward steps: what a slip is accepted for is reached, so linked; what is reached has a slip; from every valid circuit some
-- slip leads to its reduced list; slips compose; a refusal names the first step not allowed. Assumes nothing.
use mathlib.Core.Path.{◌≡◌, refl, sym, ap, ◌∙◌}
use mathlib.Core.Logic.{◌↔◌}
use mathlib.Core.List.{List, [], ◌∷◌, ◌++◌}
use Prim.Native.Nat.{ℕ, suc, ◌+◌, ◌≤◌}
use native.Mathlib.Omega.{arith}
use lib.ListN.{length}
use Rattle.gates.specs.declared.Gate.{Gate}
use Rattle.gates.specs.Circuit.{AllValid, Linked, Reaches, stop, more}
use Rattle.gates.specs.Reduced.{Reduced}
use Rattle.gates.proofs.Reach.{step_all_valid, reaches_all_valid}
use Rattle.gates.proofs.Chains.{reaches_linked}
use Rattle.gates.proofs.ReducedLists.{reduced_reached}
use Rattle.stepping.specs.Slip.{SlipStep, Effect, makes, not_allowed, effect, ends_at, refused_at, onward, run_from, run, FirstRefused}
use Rattle.stepping.proofs.Steps.{allowed_length, allowed_step, step_allowed}

-- ---- a run, step by step

pub run_makes : (l : ℕ) (s : SlipStep) (ss : List SlipStep) (c d : List Gate) → effect s c ≡ makes d → run_from l (s ∷ ss) c ≡ run_from (suc l) ss d
unfolding run_from onward
run_makes l s ss c d e = rw e

pub run_not_allowed : (l : ℕ) (s : SlipStep) (ss : List SlipStep) (c : List Gate) → effect s c ≡ not_allowed → run_from l (s ∷ ss) c ≡ refused_at l
unfolding run_from onward
run_not_allowed l s ss c e = rw e

ends_is : {c d : List Gate} → ends_at c ≡ ends_at d → c ≡ d
ends_is e = cc

refused_is : {k l : ℕ} → refused_at k ≡ refused_at l → k ≡ l
refused_is e = cc

ends_refused : {c : List Gate} {k : ℕ} → ends_at c ≡ refused_at k → ⊥
ends_refused e = let z : ◌≡◌ {A = ℕ} 0 1 = cc in omega arith

-- a run of s and then ss: s is allowed and the run goes on, or it is refused at once
data Turn (l : ℕ) (s : SlipStep) (ss : List SlipStep) (c : List Gate) : Type 0 where
  goes_on : (d : List Gate) → effect s c ≡ makes d → run_from l (s ∷ ss) c ≡ run_from (suc l) ss d → Turn l s ss c
  stays : effect s c ≡ not_allowed → run_from l (s ∷ ss) c ≡ refused_at l → Turn l s ss c

turn : (l : ℕ) (s : SlipStep) (ss : List SlipStep) (c : List Gate) → Turn l s ss c
turn l s ss c = go (effect s c) refl
  where
    go : (x : Effect) → effect s c ≡ x → Turn l s ss c
    go (makes d) e = goes_on d e (run_makes l s ss c d e)
    go not_allowed e = stays e (run_not_allowed l s ss c e)

-- ---- slips and chains

module _ (n : ℕ) where
  run_reaches : (l : ℕ) (ss : List SlipStep) (c d : List Gate) → AllValid n c → run_from l ss c ≡ ends_at d → Reaches n c d
  unfolding run_from
  run_reaches l [] c d f e = rw (ends_is e) stop
  run_reaches l (s ∷ ss) c d f e = go (turn l s ss c) (λ b v i. run_reaches (suc l) ss b d v i)
    where
      go : Turn l s ss c → ((b : List Gate) → AllValid n b → run_from (suc l) ss b ≡ ends_at d → Reaches n b d) → Reaches n c d
      go (goes_on b i j) ih = let r = allowed_step n s c b f i in more r (ih b (step_all_valid n r) (sym j ∙ e))
      go (stays i j) ih = absurd (ends_refused (sym e ∙ j))

  reaches_run : {c d : List Gate} → Reaches n c d → (ss : List SlipStep) × ((l : ℕ) → run_from l ss c ≡ ends_at d)
  unfolding run_from
  reaches_run stop = ([], λ l. refl)
  reaches_run (more {c} {d = b} r k) =
      let s = step_allowed n r in
      let q = reaches_run k in
      (s.0 ∷ q.0, λ l. run_makes l s.0 q.0 c b s.1 ∙ q.1 (suc l))

  -- the slips that are accepted from a valid circuit are exactly the chains of steps forwards
  pub slip_exactly_if : (c d : List Gate) → AllValid n c → ((ss : List SlipStep) × (run ss c ≡ ends_at d)) ↔ Reaches n c d
  unfolding run
  slip_exactly_if c d f = (λ q. run_reaches 1 q.0 c d f q.1, λ r. let q = reaches_run r in (q.0, q.1 1))

  -- "What is accepted is linked"
  pub accepted_linked : (ss : List SlipStep) (c d : List Gate) → AllValid n c → run ss c ≡ ends_at d → Linked n c d
  accepted_linked ss c d f e = reaches_linked ((slip_exactly_if c d f).0 (ss, e))

  -- a run keeps a circuit valid
  pub run_valid : (ss : List SlipStep) (c d : List Gate) → AllValid n c → run ss c ≡ ends_at d → AllValid n d
  run_valid ss c d f e = reaches_all_valid n ((slip_exactly_if c d f).0 (ss, e)) f

  -- "from every circuit some list of forward passes and merges, of whatever length, leads to its reduced list"
  pub reduced_slip : (c r : List Gate) → AllValid n c → Reduced n c r → (ss : List SlipStep) × (run ss c ≡ ends_at r)
  reduced_slip c r f x = (slip_exactly_if c r f).1 (reduced_reached n f x)

-- no circuit of a slip is longer than the first
pub run_length : (l : ℕ) (ss : List SlipStep) (c d : List Gate) → run_from l ss c ≡ ends_at d → length d ≤ length c
unfolding run_from
run_length l [] c d e = rw (ends_is e) (omega arith)
run_length l (s ∷ ss) c d e = go (turn l s ss c) (λ b i. run_length (suc l) ss b d i)
  where
    go : Turn l s ss c → ((b : List Gate) → run_from (suc l) ss b ≡ ends_at d → length d ≤ length b) → length d ≤ length c
    go (goes_on b i j) ih = omega (arith, ih b (sym j ∙ e), allowed_length s c b i)
    go (stays i j) ih = absurd (ends_refused (sym e ∙ j))

-- ---- slips one after the other

-- a slip that ends at d, and then another: the second is run from d, its lines counted on
pub run_append : (l : ℕ) (ss ts : List SlipStep) (c d : List Gate) → run_from l ss c ≡ ends_at d → run_from l (ss ++ ts) c ≡ run_from (l + length ss) ts d
unfolding run_from
run_append l [] ts c d e = let z : l + 0 ≡ l = omega arith in rw (z, ends_is e)
run_append l (s ∷ ss) ts c d e = go (turn l s ss c) (λ b i. run_append (suc l) ss ts b d i)
  where
    z : suc l + length ss ≡ l + suc (length ss)
    z = omega arith

    go : Turn l s ss c → ((b : List Gate) → run_from (suc l) ss b ≡ ends_at d → run_from (suc l) (ss ++ ts) b ≡ run_from (suc l + length ss) ts d) → run_from l (s ∷ (ss ++ ts)) c ≡ run_from (l + suc (length ss)) ts d
    go (goes_on b i j) ih = run_makes l s (ss ++ ts) c b i ∙ ih b (sym j ∙ e) ∙ ap (λ k. run_from k ts d) z
    go (stays i j) ih = absurd (ends_refused (sym e ∙ j))

-- where a slip ends does not depend on the line on which it begins
pub any_line : (l k : ℕ) (ss : List SlipStep) (c d : List Gate) → run_from l ss c ≡ ends_at d → run_from k ss c ≡ ends_at d
unfolding run_from
any_line l k [] c d e = e
any_line l k (s ∷ ss) c d e = go (turn l s ss c) (λ b i. any_line (suc l) (suc k) ss b d i)
  where
    go : Turn l s ss c → ((b : List Gate) → run_from (suc l) ss b ≡ ends_at d → run_from (suc k) ss b ≡ ends_at d) → run_from k (s ∷ ss) c ≡ ends_at d
    go (goes_on b i j) ih = run_makes k s ss c b i ∙ ih b (sym j ∙ e)
    go (stays i j) ih = absurd (ends_refused (sym e ∙ j))

-- slips compose
pub slips_compose : (ss ts : List SlipStep) (c d e : List Gate) → run ss c ≡ ends_at d → run ts d ≡ ends_at e → run (ss ++ ts) c ≡ ends_at e
unfolding run
slips_compose ss ts c d e i j = run_append 1 ss ts c d i ∙ any_line 1 (1 + length ss) ts d e j

-- ---- refusals

first_refused : (l : ℕ) (ss : List SlipStep) (c : List Gate) (k : ℕ) → run_from l ss c ≡ refused_at k → FirstRefused l ss c k
unfolding run_from
first_refused l [] c k e = absurd (ends_refused e)
first_refused l (s ∷ ss) c k e = go (turn l s ss c) (λ b i. first_refused (suc l) ss b k i)
  where
    go : Turn l s ss c → ((b : List Gate) → run_from (suc l) ss b ≡ refused_at k → FirstRefused (suc l) ss b k) → FirstRefused l (s ∷ ss) c k
    go (goes_on b i j) ih =
        let q = ih b (sym j ∙ e) in
        record {
          before = s ∷ q.before;
          refused = q.refused;
          after = q.after;
          so_far = q.so_far;
          slip = ap (λ w. s ∷ w) q.slip;
          allowed = run_makes l s q.before c b i ∙ q.allowed;
          refusal = q.refusal;
          line = omega (arith, q.line);
        }
    go (stays i j) ih =
        record { before = []; refused = s; after = ss; so_far = c; slip = refl; allowed = refl; refusal = i; line = omega (arith, refused_is (sym e ∙ j)) }

refused_first : (l : ℕ) (ss : List SlipStep) (c : List Gate) (k : ℕ) → FirstRefused l ss c k → run_from l ss c ≡ refused_at k
refused_first l ss c k q =
    rw (q.slip, q.line)
    (run_append l q.before (q.refused ∷ q.after) c q.so_far q.allowed ∙ run_not_allowed (l + length q.before) q.refused q.after q.so_far q.refusal)

-- "a step not allowed, at its slip line": the line of the first one
pub refused_exactly_if : (ss : List SlipStep) (c : List Gate) (k : ℕ) → (run ss c ≡ refused_at k) ↔ FirstRefused 1 ss c k
unfolding run
refused_exactly_if ss c k = (first_refused 1 ss c k, refused_first 1 ss c k)
