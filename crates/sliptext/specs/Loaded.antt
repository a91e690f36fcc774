-- What loading a slip leaves: its judgement, and its steps as numbers. Assumes nothing.
use Rattle.std.specs.Prelude.{◌≡◌, List, ℕ, ◌≤◌, take, Result, Ok, Err}
use Rattle.text.specs.declared.Refused.{Refused}
use Rattle.stepping.specs.Slip.{SlipStep}
use Rattle.stepping.specs.Stepped.{slip_steps}
use Rattle.habits.specs.Habits.{Judgement, fine, away}

-- an accepted slip: its steps are those of the first k numbers
pub record Accepts (v : Judgement (List SlipStep)) (steps : List ℕ) (k : ℕ) : Type 0 where
  pub judged : v ≡ fine (slip_steps (take k steps))
  pub few : k ≤ 4096

-- a slip of text number t that is judged v was loaded as these numbers
abbrev pub LoadsTo : (text : ℕ) → Judgement (List SlipStep) → List ℕ → Result ℕ Refused → Type 0
LoadsTo t v steps (Ok k) = Accepts v steps k
LoadsTo t v steps (Err r) = v ≡ away r.refusal t r.line
