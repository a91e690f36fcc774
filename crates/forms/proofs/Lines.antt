-- How long a form of three numbers is, and one as it is written. Assumes nothing.
use mathlib.Core.Path.{◌≡◌, refl}
use mathlib.Core.List.{List, []}
use Prim.Native.Nat.{ℕ, ◌+◌}
use native.Mathlib.Omega.{arith}
use lib.ListN.{length, length-append}
use Rattle.text.specs.Text.{bytes}
use Rattle.writing.specs.Decimal.{last_digits, decimal, two_numbers}
use Rattle.forms.specs.Forms.{three_numbers, text_turned_away}

-- behind the first number stands a form of two with nothing before it
pub length_three : (w : List ℕ) (k m n : ℕ) → length (three_numbers w k m n) ≡ length w + (length (decimal k) + 1 + length (two_numbers [] m n))
unfolding three_numbers two_numbers
length_three w k m n = simp length-append (omega arith)

example : text_turned_away 9 4098 2 ≡ bytes "(turned-away 9 4098 2)\n"
unfolding three_numbers decimal last_digits
example = refl
