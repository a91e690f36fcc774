-- What the covered part of join hands over makes the job say what it should: of the gate list that needs only its length. Assumes nothing.
use Prim.Native.Nat.{ℕ}
use mathlib.Core.Path.{◌≡◌, refl}
use mathlib.Core.List.{List}
use native.Mathlib.Omega.{arith}
use lib.ListN.{length, take}
use Rattle.gates.specs.Code.{gates}
use Rattle.reduction.specs.Reducing.{ReducedTo}
use Rattle.text.specs.declared.Head.{Head}
use Rattle.text.specs.declared.Refusal.{Refusal}
use Rattle.habits.specs.Habits.{away}
use Rattle.habits.proofs.Yields.{yields_fine}
use Rattle.loading.specs.Loaded.{Renderable}
use Rattle.jobs.specs.Jobs.{as_text}
use Rattle.jobs.specs.Habits.{Right}
use Rattle.outcomes.specs.Outcomes.{refused, with_text}
use Rattle.jobs.specs.Handing.{written_done, written_area}
use Rattle.jobs.proofs.Handed.{refused_text_hands, written_text_hands}
use Rattle.joins.specs.Join.{judged, Join, Hands, circuit_of, Accepts}
use Rattle.joins.proofs.One.{yields_judged}

-- the join, reduced, can be written
pub reduced_renderable : {codes codes' : List ℕ} {h : Head} {m r : ℕ} → Renderable h m codes → ReducedTo codes m r codes' → Renderable h r codes'
reduced_renderable w x = record { narrow = w.narrow; few = omega (arith, w.few, x.within); codes = x.codes }

module _ (s : List ℕ) (room : ℕ) (t a : List ℕ) where
  -- a refusal
  pub refused_hands : (codes : List ℕ) (r : Refusal) (u i : ℕ) → judged s room t ≡ away r u i → Hands s room t a (with_text u (refused r i room codes)) a
  unfolding Join
  refused_hands codes r u i q = refused_text_hands (λ k. judged s k t) (Right as_text) a r u i room codes q

  -- the join, reduced
  pub joined_hands : {codes codes' : List ℕ} {h : Head} {m r : ℕ} → length codes' ≡ 4096 → Accepts (judged s room t) codes h m → ReducedTo codes m r codes'
      → Hands s room t a (with_text 0 (written_done h r room codes' a)) (written_area h r codes' a)
  unfolding Join
  joined_hands {codes} {codes'} {h} {m} {r} all w x =
      let y = yields_fine (yields_judged s room t) w.judged in
      written_text_hands (λ k. judged s k t) (Right as_text) a h r room codes' (circuit_of h m codes) w.judged (gates (take r codes'), x.reduced h.lines y.0.valid, refl)
      all (reduced_renderable w.renderable x) y.1
