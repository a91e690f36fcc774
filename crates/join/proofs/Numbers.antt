-- The refusal that the program writes is neither 2 nor 10: it has room for 4,096 gates, and an area that is long enough. Assumes nothing.
use mathlib.Core.Path.{◌≡◌}
use mathlib.Core.Logic.{◌≢◌}
use mathlib.Core.List.{List, [], ◌∷◌}
use Prim.Native.Nat.{ℕ, ◌+◌, ◌-◌}
use native.Mathlib.Omega.{arith}
use lib.ListN.{length}
use lib.Dec.{eqb, leb}
use Rattle.text.specs.declared.Refusal.{Refusal}
use Rattle.text.specs.declared.Refusal.TheVariants.{TooMany, DifferentLines}
use Rattle.text.specs.declared.Kind.TheVariants.{Circuit}
use Rattle.text.specs.Refusals.{number_of}
use Rattle.habits.specs.Habits.{away}
use Rattle.habits.proofs.Yields.{Yields, ends, yields_then, yields_require, yields_away}
use Rattle.joins.specs.Join.{plain_join, judged}
use Rattle.printing.proofs.Numbers.{Writable, yields_writable}

-- what is judged of the texts s and t: each refusal is one that programs may write
judged_writable : (s t : List ℕ) → Yields Writable (λ _. Unit {0}) (judged s 4096 t)
unfolding judged plain_join
judged_writable s t =
    yields_then (yields_writable 1 Circuit s (4096 ∷ []) (omega arith, tt)) (λ c _.
    yields_then (yields_writable 2 Circuit t [] tt) (λ d _.
    yields_then (yields_require (eqb c.lines d.lines) DifferentLines 0 0 (λ i. omega (arith, i), λ i. omega (arith, i))) (λ _ _.
    yields_then (yields_require (leb (length c.gates + length d.gates) 4096) TooMany 2 (4096 - length c.gates + 2) (λ i. omega (arith, i), λ i. omega (arith, i))) (λ _ _.
    ends tt))))

-- so no refusal of the program is 2 or 10
pub never_2_or_10 : (s t : List ℕ) {r : Refusal} {u l : ℕ} → judged s 4096 t ≡ away r u l → (number_of r ≢ 2) × (number_of r ≢ 10)
never_2_or_10 s t q = yields_away (judged_writable s t) q
