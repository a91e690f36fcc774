-- The refusal of a text as that of one of several, where a job over several texts loads one of them. Assumes nothing.
use Prim.Native.Nat.{ℕ}
use mathlib.Core.Path.{◌≡◌, refl}
use native.Mathlib.Omega.{arith}
use Rattle.std.specs.Prelude.{Result, Ok, Err, MatchResult, IsErrAnd}
use Rattle.text.specs.declared.Refused.{Refused}
use Rattle.text.specs.declared.TextRefused.{TextRefused}
use Rattle.habits.specs.Habits.{Judgement, away}

-- what `map_err` to the refusal of text v answers, for what was read
abbrev pub InText : {T : Type 0} → ℕ → Result T Refused → Result T TextRefused → Type 0
InText v r q = MatchResult r (λ x. q ≡ Ok x) (λ d. IsErrAnd q (λ (y : TextRefused). (y.refusal ≡ d.refusal) × (y.text ≡ v) × (y.line ≡ d.line)))

pub refused_from : {T A : Type 0} (v : ℕ) (r : Result T Refused) (e : TextRefused) (j : Judgement A) → InText v r (Err e) → ((d : Refused) → r ≡ Err d → j ≡ away d.refusal v d.line) → j ≡ away e.refusal e.text e.line
refused_from v (Ok x) e j h k = absurd (let z : ◌≡◌ {A = ℕ} 0 1 = cc in omega arith)
refused_from v (Err d) e j h k = rw (h.0, h.1, h.2) (k d refl)

pub accepted_from : {T : Type 0} (v : ℕ) (r : Result T Refused) (x : T) → InText v r (Ok x) → r ≡ Ok x
accepted_from v (Ok y) x h = cc
accepted_from v (Err d) x h = absurd h
