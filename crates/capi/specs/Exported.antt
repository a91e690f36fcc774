-- What the C functions of the jobs promise: the promise of the job, read through the numbers of gates. Assumes nothing.
use Rattle.std.specs.Prelude.{◌≡◌, cond, List, [], ◌∷◌, map, ℕ, eqb}
use Rattle.gates.specs.declared.Gate.{Gate}
use Rattle.gates.specs.Code.{code, gates}
use Rattle.records.specs.declared.Outcome.{Outcome}
use Rattle.records.specs.declared.TextOutcome.{TextOutcome}
use Rattle.habits.specs.Habits as habits
use Rattle.jobs.specs.Jobs.{Job, Exit, Says}
use Rattle.jobs.specs.Handing.{exit_of, exit_of_text, exit_of_two}

-- ---- the gate list as numbers

-- the numbers of gates, in order
abbrev pub codes : List Gate → List ℕ
codes r = map code r

-- the records of the list r: "Numbers 1 and 2 leave the gate list unchanged", whatever numbers stand in it; otherwise each is the number of its gate
unfoldable pub numbers : ℕ → List ℕ → List Gate → List ℕ
numbers number l r = cond (eqb number 1) l (cond (eqb number 2) l (codes r))

-- four numbers, as number, line, gates and bytes, or number, line, text number and count
abbrev pub four : ℕ → ℕ → ℕ → ℕ → List ℕ
four a b c d = a ∷ b ∷ c ∷ d ∷ []

-- ---- the contract of a job over one text

-- what one promises of the list l at entry, and of the outcome, the list and the area at exit: what its job says (`Says`) where both lists are read
-- as gates
pub record TellsOne (Says : List Gate → Exit → Type 0) (l : List ℕ) (o l' a' : List ℕ) : Type 0 where
  pub answer : Outcome
  pub outcome : o ≡ four answer.number answer.line answer.gates answer.bytes
  pub said : Says (gates l) (exit_of answer (gates l') a')
  pub list : l' ≡ numbers answer.number l (gates l')

-- of map and of reduce, with the text s and the area a at entry
abbrev pub Tells : Job → (s l a : List ℕ) (o l' a' : List ℕ) → Type 0
Tells j s l a o l' a' = TellsOne (λ k x. Says j (record { text = s; list = k; area = a }) x) l o l' a'

-- ---- the contract of a job over several texts and one list

pub record TellsText (Says : List Gate → habits.Exit → Type 0) (l : List ℕ) (o l' a' : List ℕ) : Type 0 where
  pub answer : TextOutcome
  pub outcome : o ≡ four answer.number answer.line answer.text answer.count
  pub said : Says (gates l) (exit_of_text answer (gates l') a')
  pub list : l' ≡ numbers answer.number l (gates l')

-- ---- the contract of a job over several texts and two lists

-- what one promises of the lists l and k at entry, and of the outcome and the lists at exit: what its job says (`Says`) where all are read as gates
pub record TellsTwo (Says : List Gate → List Gate → habits.Exit → Type 0) (l k : List ℕ) (o l' k' : List ℕ) : Type 0 where
  pub answer : TextOutcome
  pub outcome : o ≡ four answer.number answer.line answer.text answer.count
  pub said : Says (gates l) (gates k) (exit_of_two answer (gates l') (gates k'))
  pub first : l' ≡ numbers answer.number l (gates l')
  pub second : k' ≡ numbers answer.number k (gates k')
