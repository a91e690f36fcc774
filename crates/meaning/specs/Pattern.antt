-- Bit patterns of lines, the 2^n patterns of n lines, and what an mct gate does to a pattern (document 01, "What a gate does").
-- Assumes nothing.
use Rattle.std.specs.Prelude.{Bool, true, false, not, cond, ◌&&◌, ◌||◌, List, [], ◌∷◌, ℕ, zero, suc, ◌+◌, ◌*◌, ◌/◌, ◌%◌, eqb}
use Rattle.std.specs.Bool.{beq}

-- ---- patterns

-- a "bit pattern": the bit of each line
abbrev pub Pattern : Type 0
Pattern = ℕ → Bool

-- the pattern with the bit of line t flipped
unfoldable pub flip : ℕ → Pattern → Pattern
flip t x i = cond (eqb i t) (not (x i)) (x i)

-- two patterns are one pattern of n lines: they have the same bits on the lines 0 to n-1, and no other line counts
unfoldable pub agree : ℕ → Pattern → Pattern → Bool
agree zero x y = true
agree (suc n) x y = beq (x n) (y n) && agree n x y

-- the pattern whose bits are the binary digits of a number, line 0 the lowest: with the numbers below 2^n, the 2^n patterns of n lines
unfoldable pub pattern : ℕ → Pattern
pattern k zero = eqb (k % 2) 1
pattern k (suc i) = pattern (k / 2) i

-- the number below 2^n of a pattern of n lines
unfoldable pub number : ℕ → Pattern → ℕ
number zero x = 0
number (suc n) x = cond (x 0) 1 0 + 2 * number n (λ i. x (suc i))

-- ---- the mct gate

-- the controls are all 1
unfoldable pub holds : List ℕ → Pattern → Bool
holds [] x = true
holds (c ∷ cs) x = x c && holds cs x

-- "An mct gate flips t exactly if all its controls are 1"
unfoldable pub mct : List ℕ → ℕ → Pattern → Pattern
mct cs t x = cond (holds cs x) (flip t x) x

-- the line j is in the list
unfoldable pub has : ℕ → List ℕ → Bool
has j [] = false
has j (c ∷ cs) = eqb j c || has j cs

-- no line is twice in the list
unfoldable pub distinct : List ℕ → Bool
distinct [] = true
distinct (c ∷ cs) = not (has c cs) && distinct cs
