-- For every three texts and two gate lists exactly one exit keeps the contract of slip, and its numbers are those of circuit texts, 11, 12 and 13.
-- Assumes nothing.
use Prim.Native.Nat.{ℕ, ◌≤◌}
use mathlib.Core.Path.{◌≡◌, refl, sym, ap, subst}
use mathlib.Core.List.{List, [], ◌∷◌}
use native.Mathlib.Omega.{arith}
use lib.ListN.{length}
use lib.Dec.{eqb}
use Rattle.gates.specs.declared.Gate.{Gate}
use Rattle.meaning.specs.Pattern.{has}
use Rattle.text.specs.declared.Refusal.TheVariants.{DifferentLines, NotAllowed, OtherEnd}
use Rattle.stepping.specs.Slip.{End, ends_at, refused_at, run}
use Rattle.stepping.proofs.Slips.{run_length}
use Rattle.sliptext.proofs.Slips.{yields_slip}
use Rattle.habits.specs.Habits.{Lent, Exit, Answer}
use Rattle.habits.specs.Demands.{One, numbers, textless, Numbered}
use Rattle.habits.proofs.Yields.{Yields, refuses, ends, yields_then, yields_follows, yields_require, Regular, of_text, of_none}
use Rattle.habits.proofs.Texts.{yields_circuit}
use Rattle.habits.proofs.Says.{Fits, Lawful, says_one, numbered}
use Rattle.slips.specs.Slip.{ended, gate_for_gate, same_end, checked, judged, Slipped, Slip}

-- the job's own numbers
abbrev pub own : List ℕ
own = 11 ∷ 12 ∷ 13 ∷ []

-- 12 is of text 2
step_regular : (l : ℕ) → Regular own 3 NotAllowed 2 l
unfolding has numbers textless
step_regular l = of_text refl refl (omega arith) (omega arith) (λ z. absurd (omega arith))

-- the steps end at a circuit, or one of them is refused
yields_ended : (x : End) → Yields (Regular own 3) (λ e. x ≡ ends_at e) (ended x)
unfolding ended
yields_ended (ends_at e) = ends refl
yields_ended (refused_at l) = refuses (step_regular l)

-- two circuits that have room in the lists
pub yields_judged : (s : List ℕ) (k : ℕ) (t u : List ℕ) (j : ℕ) → Yields (Regular own 3) (λ p. (length p.0 ≤ 4096) × (length p.1 ≤ 4096) × (4096 ≤ k) × (4096 ≤ j)) (judged s k t u j)
unfolding judged checked same_end run has numbers textless
yields_judged s k t u j =
    yields_then (yields_circuit own 3 1 (omega arith) (omega arith) s (k ∷ [])) (λ c g.
    yields_then (yields_slip own 3 2 (omega arith) (omega arith) t) (λ ss _.
    yields_then (yields_circuit own 3 3 (omega arith) (omega arith) u (j ∷ [])) (λ d h.
    yields_then (yields_require (eqb c.lines d.lines) DifferentLines 0 0 (of_none refl refl (omega arith) refl refl)) (λ _ _.
    yields_then (yields_ended (run ss c.gates)) (λ e i.
    yields_then (yields_require (gate_for_gate e d.gates) OtherEnd 0 0 (of_none refl refl (omega arith) refl refl)) (λ _ _.
    ends (omega (arith, g.0.few, run_length 1 ss c.gates e i), h.0.few, g.1.room.0, h.1.room.0)))))))

module _ (s : List ℕ) (l : List Gate) (t u : List ℕ) (m : List Gate) where
  abbrev lent : Lent
  lent = record { lists = l ∷ m ∷ []; area = [] }

  lawful : Lawful own 3 (judged s (length l) t u (length m)) Slipped lent
  unfolding Slipped
  lawful = record {
    judged = yields_follows (yields_judged s (length l) t u (length m)) (λ p h. record {
      one = (_, refl, λ y z. z);
      fits = λ w z. subst (λ (a : Answer). Fits a.circuits (l ∷ m ∷ [])) (sym z) (omega (arith, h), (omega (arith, h), tt));
    });
    writes = λ p w z n. absurd (omega (arith, n, ap (λ (y : Answer). length y.text) z));
  }

  -- exactly one exit
  pub slip_one : One (Slip s l t u m)
  unfolding Slip
  slip_one = says_one lawful

  -- the numbers, by the habits: 1, 2, 3, 4, 5, 9, 11, 12 and 13, and what each leaves
  pub slip_numbered : (x : Exit) → Slip s l t u m x → Numbered own 3 (judged s (length l) t u (length m)) Slipped lent x
  unfolding Slip
  slip_numbered x h = numbered lawful x h
