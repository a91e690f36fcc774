-- Amplitudes, and the matrices of the four powers, doubled to have whole parts (document 01, "What a gate does"). Assumes nothing.
use Rattle.std.specs.Prelude.{ℕ, zero, suc, ℤ, pos, negsuc, ◌+ℤ◌, ◌-ℤ◌, ◌*ℤ◌}

-- an "amplitude, a pair of whole numbers (real and imaginary part)"
pub record Amplitude : Type 0 where
  pub re : ℤ
  pub im : ℤ

-- "amplitude 1", and amplitude 0
abbrev pub one : Amplitude
one = record { re = pos 1; im = pos 0 }

abbrev pub nought : Amplitude
nought = record { re = pos 0; im = pos 0 }

-- the sum
infixl 6 ◌⊕◌
unfoldable pub ◌⊕◌ : Amplitude → Amplitude → Amplitude
a ⊕ b = record { re = a.re +ℤ b.re; im = a.im +ℤ b.im }

-- the product: the square of i is -1
infixl 7 ◌⊗◌
unfoldable pub ◌⊗◌ : Amplitude → Amplitude → Amplitude
a ⊗ b = record { re = a.re *ℤ b.re -ℤ a.im *ℤ b.im; im = a.re *ℤ b.im +ℤ a.im *ℤ b.re }

-- 2^m times an amplitude; `doubled m one` is the number 2^m (proofs/Mixing: amplitude_one)
unfoldable pub doubled : ℕ → Amplitude → Amplitude
doubled zero a = a
doubled (suc m) a = doubled m a ⊕ doubled m a

-- the doubled matrix of each power, on the diagonal: 2 for power 0, 1+i for power 1, 0 for power 2, 1-i for power 3
unfoldable pub diagonal : ℕ → Amplitude
diagonal zero = record { re = pos 2; im = pos 0 }
diagonal (suc zero) = record { re = pos 1; im = pos 1 }
diagonal (suc (suc zero)) = record { re = pos 0; im = pos 0 }
diagonal (suc (suc (suc p))) = record { re = pos 1; im = negsuc 0 }

-- and off it: 0 for power 0, 1-i for power 1, 2 for power 2, 1+i for power 3
unfoldable pub off_diagonal : ℕ → Amplitude
off_diagonal zero = record { re = pos 0; im = pos 0 }
off_diagonal (suc zero) = record { re = pos 1; im = negsuc 0 }
off_diagonal (suc (suc zero)) = record { re = pos 2; im = pos 0 }
off_diagonal (suc (suc (suc p))) = record { re = pos 1; im = pos 1 }

-- the doubled matrix of power p applied to a target: the amplitude that a pattern gets, from its own amplitude a and the amplitude b of the
-- pattern with the target flipped
unfoldable pub mix : ℕ → Amplitude → Amplitude → Amplitude
mix p a b = diagonal p ⊗ a ⊕ off_diagonal p ⊗ b
