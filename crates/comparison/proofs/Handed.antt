-- What the covered part of compare hands over makes the job say what it should: of the gate lists that needs only their lengths.
-- Assumes nothing.
use mathlib.Core.Path.{◌≡◌, refl, ap, ◌∙◌}
use mathlib.Core.List.{List, [], ◌∷◌}
use Prim.Native.Nat.{ℕ}
use lib.ListN.{length, take}
use Rattle.gates.specs.declared.Gate.{Gate}
use Rattle.gates.specs.Code.{gates}
use Rattle.text.specs.declared.Head.{Head}
use Rattle.text.specs.declared.Kind.TheVariants as kind
use Rattle.text.specs.declared.Refusal.{Refusal}
use Rattle.text.specs.Judging.{turned_away, accepted}
use Rattle.habits.specs.Habits.{fine, away, told, text_judged}
use Rattle.loading.specs.declared.Loaded.{Loaded}
use Rattle.std.proofs.Common.{Result, Ok, Err}
use Rattle.text.specs.declared.Refused.{Refused}
use Rattle.jobs.specs.Jobs.{judged_text}
use Rattle.outcomes.specs.Outcomes.{refused_two}
use Rattle.jobs.specs.Handing.{AcceptsReduced, LoadsReduced}
use Rattle.jobs.proofs.One.{text_passed}
use Rattle.jobs.proofs.Habits.{judged_told}
use Rattle.jobs.proofs.Handed.{refused_two_hands, succeeded_two_hands}
use Rattle.comparison.specs.Compare.{judged, Compared, Compare, Hands, comparison, compared_done}

-- a text of number u with a list of k records, by what it was judged to be
text_away : (u : ℕ) (s : List ℕ) (k : ℕ) {r : Refusal} {i : ℕ} → judged_text kind.Circuit s k ≡ turned_away r i → text_judged u kind.Circuit s (k ∷ []) ≡ away r u i
unfolding told
text_away u s k q = judged_told u kind.Circuit s k ∙ ap (told u) q

text_fine : (u : ℕ) (s : List ℕ) (k : ℕ) {h : Head} {c : List Gate} → judged_text kind.Circuit s k ≡ accepted h c → text_judged u kind.Circuit s (k ∷ []) ≡ fine (record { lines = h.lines; gates = c })
unfolding told
text_fine u s k q = judged_told u kind.Circuit s k ∙ ap (told u) q

module _ (s t codes codes' : List ℕ) (k j : ℕ) where
  -- the first text is refused: nothing is looked at after it
  pub first_refused : (r : Refusal) (i : ℕ) → judged_text kind.Circuit s k ≡ turned_away r i → Hands s k t j (refused_two r 1 i k j codes codes')
  unfolding judged Compare
  first_refused r i q = refused_two_hands (λ k j. judged s k t j) Compared r 1 i k j codes codes' (rw (text_away 1 s k q))

  -- it is accepted
  pub first_accepted : (g : Head) (m : ℕ) (x : Result Loaded Refused) → length codes ≡ 4096 → length codes' ≡ 4096 → AcceptsReduced (judged_text kind.Circuit s k) codes g m → LoadsReduced (judged_text kind.Circuit t j) codes' x
      → Hands s k t j (compared_done g m x k j codes codes')
  unfolding judged Compared Compare comparison compared_done
  first_accepted g m (Err e) all all' w q = refused_two_hands (λ k j. judged s k t j) Compared e.refusal 2 e.line k j codes codes' (rw (text_fine 1 s k w.judged, text_away 2 t j q))
  first_accepted g m (Ok x) all all' w v =
      succeeded_two_hands (λ k j. judged s k t j) Compared m x.gates _ k j codes codes' (record { lines = g.lines; gates = w.circuit }, record { lines = x.head.lines; gates = v.circuit })
      (rw (text_fine 1 s k w.judged, text_fine 2 t j v.judged)) (gates (take m codes), gates (take x.gates codes'), w.reduced, v.reduced, refl)
      all all' w.renderable v.renderable (text_passed kind.Circuit s k w.judged).room (text_passed kind.Circuit t j v.judged).room
