-- What is judged of three texts by what was loaded of them, and that what the covered part of slip hands over makes the job say what it should: of
-- the gate lists that needs only their lengths. Assumes nothing.
use Prim.Native.Nat.{ℕ}
use mathlib.Core.Path.{◌≡◌, refl}
use mathlib.Core.List.{List}
use lib.ListN.{length, take}
use Rattle.gates.specs.Code.{gates}
use Rattle.text.specs.declared.Head.{Head}
use Rattle.text.specs.declared.Kind.TheVariants as kind
use Rattle.text.specs.declared.Refusal.{Refusal}
use Rattle.text.specs.Judging.{turned_away}
use Rattle.sliptext.specs.SlipText.{slip_judged}
use Rattle.sliptext.specs.Loaded as sliptext
use Rattle.habits.specs.Habits.{away, told}
use Rattle.habits.proofs.Yields.{yields_fine}
use Rattle.loading.specs.Loaded as loading
use Rattle.outcomes.specs.Outcomes.{refused_two, succeeded_two}
use Rattle.jobs.specs.Jobs.{judged_text}
use Rattle.jobs.proofs.Habits.{judged_told}
use Rattle.jobs.proofs.Handed.{refused_two_hands, succeeded_two_hands}
use Rattle.loading.specs.declared.Loaded.{Loaded}
use Rattle.slips.specs.Slip.{judged, Slipped, Slip, Hands, check_loaded, Accepts}
use Rattle.slips.proofs.One.{yields_judged}

-- ---- the texts, one after the other

module _ (s : List ℕ) (k : ℕ) (t u : List ℕ) (j : ℕ) where
  pub first_refused : {r : Refusal} {i : ℕ} → judged_text kind.Circuit s k ≡ turned_away r i → judged s k t u j ≡ away r 1 i
  unfolding judged told
  first_refused q = rw (judged_told 1 kind.Circuit s k, q)

  module _ (g : Loaded) (codes : List ℕ) (w : loading.Accepts (judged_text kind.Circuit s k) codes g.head g.gates) where
    pub slip_refused : {r : Refusal} {i : ℕ} → slip_judged 2 t ≡ away r 2 i → judged s k t u j ≡ away r 2 i
    unfolding judged told
    slip_refused q = rw (judged_told 1 kind.Circuit s k, w.judged, q)

    module _ (steps : List ℕ) (n : ℕ) (v : sliptext.Accepts (slip_judged 2 t) steps n) where
      pub second_refused : {r : Refusal} {i : ℕ} → judged_text kind.Circuit u j ≡ turned_away r i → judged s k t u j ≡ away r 3 i
      unfolding judged told
      second_refused q = rw (judged_told 1 kind.Circuit s k, w.judged, v.judged, judged_told 3 kind.Circuit u j, q)

      pub all_accepted : (h : Loaded) (codes' : List ℕ) → loading.Accepts (judged_text kind.Circuit u j) codes' h.head h.gates → judged s k t u j ≡ check_loaded g codes (take n steps) h codes'
      unfolding judged told check_loaded
      all_accepted h codes' z = rw (judged_told 1 kind.Circuit s k, w.judged, v.judged, judged_told 3 kind.Circuit u j, z.judged)

-- ---- what is handed over

module _ (s t u codes codes' : List ℕ) (k j : ℕ) where
  pub refused_hands : (r : Refusal) (v i : ℕ) → judged s k t u j ≡ away r v i → Hands s k t u j (refused_two r v i k j codes codes')
  unfolding Slip
  refused_hands r v i q = refused_two_hands (λ k j. judged s k t u j) Slipped r v i k j codes codes' q

  pub accepted_hands : (h : Head) (m : ℕ) → length codes ≡ 4096 → length codes' ≡ 4096 → Accepts (judged s k t u j) codes codes' h m → Hands s k t u j (succeeded_two m m 0 k j codes codes')
  unfolding Slip Slipped
  accepted_hands h m all all' w =
      let y = yields_fine (yields_judged s k t u j) w.judged in
      succeeded_two_hands (λ k j. judged s k t u j) Slipped m m 0 k j codes codes' (gates (take m codes), gates (take m codes')) w.judged refl all all' w.renderable w.renderable' y.2 y.3
