-- Stacks of the places of gates: what `tops` and `below` say of the first n places of a list of gate numbers. Which stack a gate is on is a
-- function K of its site, number / 4. Places are given plus 1, and 0 is no place. Assumes nothing.
use Rattle.std.specs.Prelude.{◌≡◌, List, ℕ, suc, ◌+◌, ◌/◌, ◌%◌, ◌≤◌, ◌<◌, length, get_or, set}

-- h is a place of stack k, or none, and no gate of stack k stands after it among the first n
pub record Top (K : ℕ → ℕ) (l : List ℕ) (n k h : ℕ) : Type 0 where
  pub inside : h ≤ n
  pub bound : (j : ℕ) → j < n → 1 ≤ get_or l j 0 % 4 → K (get_or l j 0 / 4) ≡ k → j < h
  pub key : (q : ℕ) → h ≡ suc q → K (get_or l q 0 / 4) ≡ k

-- for each of the first n places, `below` has what was the top of its stack when it was pushed
abbrev pub Under : (ℕ → ℕ) → List ℕ → ℕ → List ℕ → Type 0
Under K l n below = (p : ℕ) → p < n → Top K l p (K (get_or l p 0 / 4)) (get_or below p 0)

-- from `top` on, what is below a place comes before it
abbrev pub Falls : List ℕ → ℕ → Type 0
Falls below top = (p : ℕ) → p < top → get_or below p 0 ≤ p

-- of the stack from `top` on, r is the last gate that is still there: where `top` was the top of a stack, r is
pub record TopGate (l below : List ℕ) (top r : ℕ) : Type 0 where
  pub within : r ≤ top
  pub there : (q : ℕ) → r ≡ suc q → 1 ≤ get_or l q 0 % 4
  pub last : (K : ℕ → ℕ) (n k : ℕ) → Under K l n below → Top K l n k top → Top K l n k r

-- removed gates are pulled from the top of stack k, and r is its top
pub record Pulled (l below : List ℕ) (k : ℕ) (tops : List ℕ) (r : ℕ) (tops' : List ℕ) : Type 0 where
  pub gate : TopGate l below (get_or tops k 0) r
  pub stored : tops' ≡ set tops k r

-- the stacks of K hold the first n places
pub record Stacks (K : ℕ → ℕ) (size : ℕ) (l : List ℕ) (n : ℕ) (tops below : List ℕ) : Type 0 where
  pub keys : length tops ≡ size
  pub room : length below ≡ 4096
  pub top : (k : ℕ) → Top K l n k (get_or tops k 0)
  pub under : Under K l n below

-- a stack for each site; for each target, plus 1; for each slot of a control, which is the control plus 1, or 0 for a NOT
abbrev pub by_site : ℕ → ℕ
by_site s = s

abbrev pub by_target : ℕ → ℕ
by_target s = s / 33 + 1

abbrev pub by_control : ℕ → ℕ
by_control s = s % 33

-- the three sets of stacks
pub record Stacked (l : List ℕ) (n : ℕ) (sites targets controls below_site below_target below_control : List ℕ) : Type 0 where
  pub of_sites : Stacks by_site 1056 l n sites below_site
  pub of_targets : Stacks by_target 33 l n targets below_target
  pub of_controls : Stacks by_control 33 l n controls below_control
