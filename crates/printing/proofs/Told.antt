-- What a job over two gate lists, without an answer area, tells a program that has 4,096 records for each: the refusal, or an answer that is right.
-- Assumes nothing.
use mathlib.Core.Path.{◌≡◌, refl, ap, ◌∙◌, subst}
use mathlib.Core.List.{List, [], ◌∷◌}
use Prim.Native.Nat.{ℕ}
use lib.ListN.{length, replicate, length-replicate}
use Rattle.gates.specs.declared.Gate.{Gate}
use Rattle.gates.specs.declared.Gate.TheVariants.{Not}
use Rattle.text.specs.declared.Refusal.{Refusal}
use Rattle.text.specs.Refusals.{number_of}
use Rattle.habits.specs.Habits.{Judgement, fine, away, Lent, Exit, Answer, refusal, success, answered, Says}
use Rattle.habits.proofs.Says.{says_away, says_fine}
use Rattle.records.specs.declared.TextOutcome.{TextOutcome}
use Rattle.records.specs.declared.DoneTwo.{DoneTwo}
use Rattle.records.specs.Records.{filled_by}
use Rattle.jobs.specs.Handing.{exit_of_two, HandsTwo}

-- what is judged by the lengths of the lists, and the answers that are right for it, none of which has a text
module _ {A : Type 0} (judged_by : ℕ → ℕ → Judgement A) (Right : A → Answer → Type 0) (textless : (a : A) (w : Answer) → Right a w → w.text ≡ []) where
  -- by what the texts are judged to be
  pub data Told (o : TextOutcome) : Type 0 where
    refused : {r : Refusal} {u l : ℕ} → judged_by 4096 4096 ≡ away r u l → o.number ≡ number_of r → o.line ≡ l → o.text ≡ u → Told o
    succeeded : {a : A} {w : Answer} → judged_by 4096 4096 ≡ fine a → Right a w → o.number ≡ 0 → o.count ≡ w.count → Told o

  answered_fits : (w : Answer) (lists : List (List Gate)) → w.text ≡ [] → answered w (record { lists = lists; area = [] }) ≡ success w (record { lists = lists; area = [] })
  unfolding answered
  answered_fits w lists e = rw (ap length e)

  -- so it does by what its covered part hands over
  pub told : (h : DoneTwo) → HandsTwo (λ l m x. Says (judged_by (length l) (length m)) Right (record { lists = l ∷ m ∷ []; area = [] }) x) 4096 4096 h → Told h.outcome
  unfolding refusal success
  told h w = go (judged_by 4096 4096) refl
    where
      list : List Gate
      list = replicate 4096 (Not 0)

      lent : Lent
      lent = record { lists = list ∷ list ∷ []; area = [] }

      x : Exit
      x = exit_of_two h.outcome (filled_by h.first list) (filled_by h.second list)

      says : Says (judged_by 4096 4096) Right lent x
      says = let e = length-replicate 4096 (Not 0) in subst (λ (n : ℕ). Says (judged_by n n) Right lent x) e (w.tells list list e e)

      go : (v : Judgement A) → judged_by 4096 4096 ≡ v → Told h.outcome
      go (away r u l) q =
          let y = says_away (judged_by 4096 4096) Right lent says q in
          refused q (ap (λ (i : Exit). i.number) y) (ap (λ (i : Exit). i.line) y) (ap (λ (i : Exit). i.text) y)
      go (fine a) q =
          let z = says_fine (judged_by 4096 4096) Right lent says q in
          let y = z.2 ∙ answered_fits z.0 (list ∷ list ∷ []) (textless a z.0 z.1) in
          succeeded q z.1 (ap (λ (i : Exit). i.number) y) (ap (λ (i : Exit). i.count) y)
