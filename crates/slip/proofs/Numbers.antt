-- The refusal that the program writes is neither 2 nor 10: it has room for 4,096 gates of each circuit, and lends no area to the job. Assumes nothing.
use mathlib.Core.Path.{◌≡◌}
use mathlib.Core.Logic.{◌≢◌, ◌⊎◌, inl, inr}
use mathlib.Core.List.{List, [], ◌∷◌}
use Prim.Native.Nat.{ℕ}
use native.Mathlib.Omega.{arith}
use lib.Dec.{eqb}
use Rattle.text.specs.declared.Refusal.{Refusal}
use Rattle.text.specs.declared.Refusal.TheVariants.{DifferentLines, NotAllowed, OtherEnd}
use Rattle.text.specs.declared.Kind.TheVariants.{Circuit}
use Rattle.text.specs.Refusals.{number_of}
use Rattle.stepping.specs.Slip.{SlipStep, End, ends_at, refused_at, run}
use Rattle.sliptext.specs.SlipText.{slip_judged}
use Rattle.sliptext.specs.Demands.{AcceptsSlip, RefusesSlip, overlong, malformed, too_many}
use Rattle.sliptext.proofs.Slips.{refuses_slip_exactly_if, accepts_slip_exactly_if, refuses_or_accepts_slip}
use Rattle.habits.specs.Habits.{away}
use Rattle.habits.proofs.Yields.{Yields, refuses, ends, yields_then, yields_require, yields_away}
use Rattle.slips.specs.Slip.{ended, gate_for_gate, same_end, checked, judged}
use Rattle.printing.proofs.Numbers.{Writable, yields_writable}

-- a slip is refused with 1, 3 or 9
slip_number : {s : List ℕ} {n l : ℕ} → RefusesSlip s n l → (n ≢ 2) × (n ≢ 10)
slip_number (overlong h) = (λ i. omega (arith, i), λ i. omega (arith, i))
slip_number (malformed h ss r q p f i j) = (λ i. omega (arith, i), λ i. omega (arith, i))
slip_number (too_many h ss r q p f) = (λ i. omega (arith, i), λ i. omega (arith, i))

slip_writable : (t : List ℕ) → Yields Writable (λ _. Unit {0}) (slip_judged 2 t)
slip_writable t = go (refuses_or_accepts_slip t)
  where
    go : ((n : ℕ) × (l : ℕ) × RefusesSlip t n l) ⊎ ((ss : List SlipStep) × AcceptsSlip t ss) → Yields Writable (λ _. Unit {0}) (slip_judged 2 t)
    go (inl (n, l, d)) =
        let (r, e, i) = (refuses_slip_exactly_if 2 t n l).0 d in
        let k = slip_number d in
        rw e (refuses {r = r} (λ j. k.0 (omega (arith, i, j)), λ j. k.1 (omega (arith, i, j))))
    go (inr (ss, a)) = rw ((accepts_slip_exactly_if 2 t ss).0 a) (ends tt)

-- the steps: 12 alone
ended_writable : (x : End) → Yields Writable (λ _. Unit {0}) (ended x)
unfolding ended
ended_writable (ends_at e) = ends tt
ended_writable (refused_at l) = refuses {r = NotAllowed} (λ i. omega (arith, i), λ i. omega (arith, i))

-- what is judged of the texts s, t and u: each refusal is one that programs may write
judged_writable : (s t u : List ℕ) → Yields Writable (λ _. Unit {0}) (judged s 4096 t u 4096)
unfolding judged checked same_end
judged_writable s t u =
    yields_then (yields_writable 1 Circuit s (4096 ∷ []) (omega arith, tt)) (λ c _.
    yields_then (slip_writable t) (λ ss _.
    yields_then (yields_writable 3 Circuit u (4096 ∷ []) (omega arith, tt)) (λ d _.
    yields_then (yields_require (eqb c.lines d.lines) DifferentLines 0 0 (λ i. omega (arith, i), λ i. omega (arith, i))) (λ _ _.
    yields_then (ended_writable (run ss c.gates)) (λ e _.
    yields_then (yields_require (gate_for_gate e d.gates) OtherEnd 0 0 (λ i. omega (arith, i), λ i. omega (arith, i))) (λ _ _.
    ends tt))))))

-- so no refusal of the program is 2 or 10
pub never_2_or_10 : (s t u : List ℕ) {r : Refusal} {v l : ℕ} → judged s 4096 t u 4096 ≡ away r v l → (number_of r ≢ 2) × (number_of r ≢ 10)
never_2_or_10 s t u q = yields_away (judged_writable s t u) q
