-- Closed examples of runs on two lines, by computation. Assumes nothing.
use mathlib.Core.Path.{◌≡◌, refl}
use mathlib.Core.List.{List, [], ◌∷◌, map}
use Prim.Native.Nat.{ℕ}
use lib.IntN.{ℤ, pos, negsuc}
use Rattle.gates.specs.declared.Gate.{Gate}
use Rattle.gates.specs.declared.Gate.TheVariants.{Not, Powered}
use Rattle.meaning.specs.Amplitude.{Amplitude, one, nought, ◌⊕◌, ◌⊗◌, diagonal, off_diagonal, mix}
use Rattle.meaning.specs.Pattern.{flip, agree, pattern}
use Rattle.meaning.specs.State.{basis, apply, run}

-- a column of a circuit's matrix times 2^m: the amplitudes at the patterns 0 to 3, from the start at pattern j; line 0 is a number's lowest bit
column : List Gate → ℕ → List Amplitude
column c j = map (λ i. run c (basis 2 (pattern j)) (pattern i)) (0 ∷ 1 ∷ 2 ∷ 3 ∷ [])

-- re + im i
abbrev whole : ℤ → ℤ → Amplitude
whole r i = record { re = r; im = i }

-- a NOT exchanges amplitudes
not_column : column (Not 0 ∷ []) 0 ≡ nought ∷ one ∷ nought ∷ nought ∷ []
unfolding column agree pattern basis flip apply run
not_column = refl

-- v doubles where its control is 0
control_0 : column (Powered 1 0 1 ∷ []) 0 ≡ whole (pos 2) (pos 0) ∷ nought ∷ nought ∷ nought ∷ []
unfolding column agree pattern basis flip ◌⊕◌ ◌⊗◌ diagonal off_diagonal mix apply run
control_0 = refl

-- and gives 1+i and 1-i where it is 1
control_1 : column (Powered 1 0 1 ∷ []) 1 ≡ nought ∷ whole (pos 1) (pos 1) ∷ nought ∷ whole (pos 1) (negsuc 0) ∷ []
unfolding column agree pattern basis flip ◌⊕◌ ◌⊗◌ diagonal off_diagonal mix apply run
control_1 = refl

-- V times V is NOT, here 4 times
v_v : column (Powered 1 0 1 ∷ Powered 1 0 1 ∷ []) 1 ≡ nought ∷ nought ∷ nought ∷ whole (pos 4) (pos 0) ∷ []
unfolding column agree pattern basis flip ◌⊕◌ ◌⊗◌ diagonal off_diagonal mix apply run
v_v = refl

-- a control in superposition: after v 0 1, the gate cn 1 0 flips line 0 in the part of the state where line 1 is 1
superposed : column (Powered 1 0 1 ∷ Powered 2 1 0 ∷ []) 1 ≡ nought ∷ whole (pos 2) (pos 2) ∷ whole (pos 2) (negsuc 1) ∷ nought ∷ []
unfolding column agree pattern basis flip ◌⊕◌ ◌⊗◌ diagonal off_diagonal mix apply run
superposed = refl
