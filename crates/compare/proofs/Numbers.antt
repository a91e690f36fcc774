-- The refusal that the program writes is neither 2 nor 10: it has room for 4,096 gates of each text, and lends no area to the job. Assumes nothing.
use mathlib.Core.Path.{◌≡◌}
use mathlib.Core.Logic.{◌≢◌}
use mathlib.Core.List.{List, [], ◌∷◌}
use Prim.Native.Nat.{ℕ}
use native.Mathlib.Omega.{arith}
use Rattle.text.specs.declared.Refusal.{Refusal}
use Rattle.text.specs.declared.Kind.TheVariants.{Circuit}
use Rattle.text.specs.Refusals.{number_of}
use Rattle.habits.specs.Habits.{away}
use Rattle.habits.proofs.Yields.{Yields, ends, yields_then, yields_away}
use Rattle.comparison.specs.Compare.{judged}
use Rattle.printing.proofs.Numbers.{Writable, yields_writable}

-- what is judged of the texts s and t: each refusal is one that programs may write
judged_writable : (s t : List ℕ) → Yields Writable (λ _. Unit {0}) (judged s 4096 t 4096)
unfolding judged
judged_writable s t =
    yields_then (yields_writable 1 Circuit s (4096 ∷ []) (omega arith, tt)) (λ c _.
    yields_then (yields_writable 2 Circuit t (4096 ∷ []) (omega arith, tt)) (λ d _. ends tt))

-- so no refusal of the program is 2 or 10
pub never_2_or_10 : (s t : List ℕ) {r : Refusal} {u l : ℕ} → judged s 4096 t 4096 ≡ away r u l → (number_of r ≢ 2) × (number_of r ≢ 10)
never_2_or_10 s t q = yields_away (judged_writable s t) q
