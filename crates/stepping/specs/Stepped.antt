-- What the code of steps promises: a circuit is the numbers of its gates, a slip's step is a number too. Assumes nothing.
use Rattle.std.specs.Prelude.{◌≡◌, cond, List, map, ◌++◌, ℕ, suc, ◌/◌, ◌%◌, ◌≤◌, eqb, length, take, drop, Result, Ok, Err}
use Rattle.gates.specs.Code.{gates, AllCodes}
use Rattle.stepping.specs.Slip.{SlipStep, pass_at, merge_at, Effect, makes, not_allowed, End, ends_at, refused_at}
use Rattle.stepping.specs.declared.NotAllowed.{NotAllowed}

-- a list without its element at i
unfoldable pub without : ℕ → List ℕ → List ℕ
without i l = take i l ++ drop (suc i) l

-- the first m of the numbers are those of gates
pub record Circuit (m : ℕ) (list : List ℕ) : Type 0 where
  pub fits : m ≤ length list
  pub codes : AllCodes 32 (take m list)

-- ---- a step

-- the step of a number: half of it is the place, and it is even for a pass, odd for a merge
unfoldable pub slip_step : ℕ → SlipStep
slip_step x = cond (eqb (x % 2) 0) (pass_at (x / 2)) (merge_at (x / 2))

-- a step of this effect, on this line of the slip: the first m of the exit are the circuit that it makes; or it is not allowed
abbrev pub StepsTo : Effect → (line : ℕ) → (entry exit : List ℕ) → Result ℕ NotAllowed → Type 0
StepsTo e line entry exit (Ok m) = (e ≡ makes (gates (take m exit))) × Circuit m exit × (length exit ≡ length entry)
StepsTo e line entry exit (Err r) = (e ≡ not_allowed) × (r.line ≡ line) × (length exit ≡ length entry)

-- ---- a slip

-- the steps of numbers, in order
abbrev pub slip_steps : List ℕ → List SlipStep
slip_steps l = map slip_step l

-- a slip with this end: the first m of the exit are the circuit at which it ends; or it is refused at this line
abbrev pub RunsTo : End → (entry exit : List ℕ) → Result ℕ NotAllowed → Type 0
RunsTo e entry exit (Ok m) = (e ≡ ends_at (gates (take m exit))) × Circuit m exit × (length exit ≡ length entry)
RunsTo e entry exit (Err r) = (e ≡ refused_at r.line) × (length exit ≡ length entry)
