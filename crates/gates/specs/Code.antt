-- A gate as a number, for code that works on slices of numbers: (target · 33 + slot) · 4 + power. The order of the numbers is document 01's
-- order of gates, and number / 4 is one number for each target and control. Assumes nothing.
use Rattle.std.specs.Prelude.{◌≡◌, List, map, ℕ, zero, suc, ◌+◌, ◌*◌, ◌/◌, ◌%◌}
use Rattle.gates.specs.declared.Gate.{Gate}
use Rattle.gates.specs.declared.Gate.TheVariants.{Not, Powered}
use Rattle.gates.specs.Every.{Every}
use Rattle.gates.specs.Circuit.{target, slot, power, Valid}

-- the number of a gate
unfoldable pub code : Gate → ℕ
code g = (target g * 33 + slot g) * 4 + power g

-- the gate of a power, a slot and a target
unfoldable pub assembled : ℕ → ℕ → ℕ → Gate
assembled p zero t = Not t
assembled p (suc c) t = Powered p c t

-- the gate of a number
unfoldable pub gate : ℕ → Gate
gate k = assembled (k % 4) (k / 4 % 33) (k / 132)

-- the gates of numbers, in order
abbrev pub gates : List ℕ → List Gate
gates l = map gate l

-- k is the number of a gate that is valid on n lines
pub record Code (n k : ℕ) : Type 0 where
  pub valid : Valid n (gate k)
  pub exact : code (gate k) ≡ k

-- each of the numbers is
abbrev pub AllCodes : ℕ → List ℕ → Type 0
AllCodes n = Every (Code n)

-- ---- two gates of one target and control

-- their powers, added as a merge adds them
abbrev pub total : ℕ → ℕ → ℕ
total a g = (a % 4 + g % 4) % 4

-- the number of a with that power
abbrev pub joined : ℕ → ℕ → ℕ
joined a g = a / 4 * 4 + total a g
