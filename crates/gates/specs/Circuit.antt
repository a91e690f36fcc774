-- Gates and circuits on n lines, the two steps "pass" and "merge", and the chains of them (document 01, "What a gate does" and
-- "Passing, merging, reduced lists"). A circuit is the list of its gates in order. Assumes nothing.
use Rattle.std.specs.Prelude.{◌≢◌, List, [], ◌∷◌, ◌++◌, ℕ, zero, suc, ◌+◌, ◌%◌, ◌≤◌, ◌<◌}
use Rattle.std.proofs.Common.{arith}
use Rattle.gates.specs.declared.Gate.{Gate}
use Rattle.gates.specs.declared.Gate.TheVariants.{Not, Powered}
use Rattle.gates.specs.Every.{Every}

-- ---- gates

-- the target of a gate
unfoldable pub target : Gate → ℕ
target (Not t) = t
target (Powered p c t) = t

-- the control of a gate, as a slot: 0 for a NOT, which has none, and c + 1 for the control c
unfoldable pub slot : Gate → ℕ
slot (Not t) = 0
slot (Powered p c t) = suc c

-- the power of a gate: v is power 1, cn power 2, vp power 3; a NOT flips as cn does
unfoldable pub power : Gate → ℕ
power (Not t) = 2
power (Powered p c t) = p

-- a gate of a circuit on n lines: no power 0, and control and target are different lines of the circuit
pub data Valid (n : ℕ) : Gate → Type 0 where
  valid_not : {t : ℕ} → t < n → Valid n (Not t)
  valid_powered : {p c t : ℕ} → 1 ≤ p → p ≤ 3 → c < n → t < n → c ≢ t → Valid n (Powered p c t)

-- a circuit on n lines: each of its gates is valid
abbrev pub AllValid : ℕ → List Gate → Type 0
AllValid n = Every (Valid n)

-- ---- steps

-- two gates pass if neither's target is the other's control
pub record Passes (g h : Gate) : Type 0 where
  pub there : suc (target g) ≢ slot h
  pub back : suc (target h) ≢ slot g

-- document 01, "Wrong turns": `cn 0 1` doesn't pass `cn 1 2`, though they share no target
share_no_target : Passes (Powered 2 0 1) (Powered 2 1 2) → ⊥
unfolding target slot
share_no_target p = omega arith

-- and `v 0 2` and `v 1 2` do pass, though they have one target
share_one_target : Passes (Powered 1 0 2) (Powered 1 1 2)
unfolding target slot
share_one_target = omega arith

-- one gate of this power, or none if the power is 0
unfoldable pub powered : ℕ → ℕ → ℕ → List Gate
powered zero c t = []
powered (suc p) c t = Powered (suc p) c t ∷ []

-- two neighbours, and what a step puts in their place: "Pass", and the two kinds of "Merge"
pub data Rewrite : List Gate → List Gate → Type 0 where
  -- two neighbours change places
  pass : {g h : Gate} → Passes g h → Rewrite (g ∷ h ∷ []) (h ∷ g ∷ [])
  -- two with the same control and target become one gate whose power is the sum modulo 4, or none if that is 0
  merge : (p q c t : ℕ) → Rewrite (Powered p c t ∷ Powered q c t ∷ []) (powered ((p + q) % 4) c t)
  -- two NOTs on one line vanish
  cancel : (t : ℕ) → Rewrite (Not t ∷ Not t ∷ []) []

-- one step forwards between circuits on n lines, at any place
pub data Step (n : ℕ) : List Gate → List Gate → Type 0 where
  step : (u v : List Gate) {x y : List Gate} → Rewrite x y → AllValid n (u ++ x ++ v) → AllValid n (u ++ y ++ v) → Step n (u ++ x ++ v) (u ++ y ++ v)

-- ---- chains

-- "linked": a finite chain of steps, each forwards or backwards, leads from one circuit to the other, a chain of no steps included
pub data Linked (n : ℕ) : List Gate → List Gate → Type 0 where
  done : {c : List Gate} → Linked n c c
  forth : {c d e : List Gate} → Step n c d → Linked n d e → Linked n c e
  back : {c d e : List Gate} → Step n d c → Linked n d e → Linked n c e

-- a chain of forward steps alone
pub data Reaches (n : ℕ) : List Gate → List Gate → Type 0 where
  stop : {c : List Gate} → Reaches n c c
  more : {c d e : List Gate} → Step n c d → Reaches n d e → Reaches n c e
