-- Document 01's starred examples of reduced lists, on circuits of three lines, as one table under one theorem; and some gates' numbers.
-- Assumes nothing.
use mathlib.Core.Path.{◌≡◌, refl}
use mathlib.Core.Logic.{◌≢◌}
use mathlib.Core.List.{List, [], ◌∷◌, map}
use Prim.Native.Nat.{ℕ, ◌≤◌, ◌<◌}
use native.Mathlib.Decide.{ℕ_discrete, dec_lt}
use native.Mathlib.Omega.{arith}
use Rattle.gates.specs.declared.Gate.{Gate}
use Rattle.gates.specs.declared.Gate.TheVariants.{Not, Powered}
use Rattle.gates.specs.Every.{Every}
use Rattle.gates.specs.Circuit.{target, slot, power, powered, Valid, valid_not, valid_powered, AllValid}
use Rattle.gates.specs.Reduced.{Reduced}
use Rattle.gates.specs.Code.{code, assembled, gate}
use Rattle.gates.proofs.Pushing.{merged, passes_dec, same_dec, less_dec, free_dec, turn_of, turn, place, push}
use Rattle.gates.proofs.Every.{every_follows}
use Rattle.gates.proofs.Theorem.{nf, nf_reduced}

-- ---- reduced lists

-- (v c t), (cn c t) and (vp c t) of a text
abbrev pub v : ℕ → ℕ → Gate
v c t = Powered 1 c t

abbrev pub cn : ℕ → ℕ → Gate
cn c t = Powered 2 c t

abbrev pub vp : ℕ → ℕ → Gate
vp c t = Powered 3 c t

-- circuits, each with its reduced list
abbrev pub table : List (List Gate × List Gate)
table =
    (v 0 1 ∷ v 0 1 ∷ [], cn 0 1 ∷ [])
    ∷ (cn 0 1 ∷ v 0 1 ∷ [], vp 0 1 ∷ [])
    ∷ (v 0 1 ∷ vp 0 1 ∷ [], [])
    ∷ (cn 0 2 ∷ cn 1 2 ∷ cn 0 2 ∷ [], cn 1 2 ∷ [])
    ∷ (cn 0 1 ∷ cn 1 2 ∷ cn 0 1 ∷ [], cn 0 1 ∷ cn 1 2 ∷ cn 0 1 ∷ [])
    ∷ (cn 0 1 ∷ Not 1 ∷ [], Not 1 ∷ cn 0 1 ∷ [])
    ∷ (Not 0 ∷ cn 0 1 ∷ Not 0 ∷ [], Not 0 ∷ cn 0 1 ∷ Not 0 ∷ [])
    ∷ []

-- what a gate valid on three lines is, in numbers
abbrev Fits : Gate → Type 0
Fits (Not t) = t < 3
Fits (Powered p c t) = (1 ≤ p) × (p ≤ 3) × (c < 3) × (t < 3) × (c ≢ t)

abbrev AllFit : List Gate → Type 0
AllFit = Every Fits

valid : (g : Gate) → Fits g → Valid 3 g
valid (Not t) h = valid_not h
valid (Powered p c t) h = valid_powered h.0 h.1 h.2 h.3 h.4

all_valid : (c : List Gate) → AllFit c → AllValid 3 c
all_valid = every_follows Fits (Valid 3) valid

-- each row's second is the reduced list of its first
abbrev pub AllReduced : List (List Gate × List Gate) → Type 0
AllReduced = Every (λ row. Reduced 3 row.0 row.1)

-- each row's first is valid and its second is computed from it
abbrev AllComputed : List (List Gate × List Gate) → Type 0
AllComputed = Every (λ row. AllFit row.0 × (nf row.0 ≡ row.1))

all_reduced : (t : List (List Gate × List Gate)) → AllComputed t → AllReduced t
all_reduced = every_follows _ _ (λ row h. rw h.1 at (nf_reduced 3 row.0 (all_valid row.0 h.0)))

pub starred_examples : AllReduced table
unfolding target slot power powered passes_dec same_dec less_dec merged free_dec turn_of turn place push nf ℕ_discrete dec_lt
starred_examples = all_reduced table ((omega arith, refl), ((omega arith, refl), ((omega arith, refl), ((omega arith, refl), ((omega arith, refl), ((omega arith, refl), ((omega arith, refl), tt)))))))

-- ---- numbers

pub codes : map code (Not 0 ∷ v 1 0 ∷ cn 1 0 ∷ vp 1 0 ∷ Not 1 ∷ vp 30 31 ∷ []) ≡ 2 ∷ 9 ∷ 10 ∷ 11 ∷ 134 ∷ 4219 ∷ []
unfolding code target slot power
codes = refl

pub gates_of_codes : map gate (2 ∷ 9 ∷ 10 ∷ 11 ∷ 134 ∷ 4219 ∷ []) ≡ Not 0 ∷ v 1 0 ∷ cn 1 0 ∷ vp 1 0 ∷ Not 1 ∷ vp 30 31 ∷ []
unfolding gate assembled
gates_of_codes = refl
