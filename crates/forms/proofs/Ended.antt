-- A form of three numbers is ended by byte 10. Assumes nothing.
use mathlib.Core.List.{List, [], ◌++◌}
use Prim.Native.Nat.{ℕ}
use Rattle.text.specs.Text.{bytes}
use Rattle.writing.specs.Decimal.{decimal, two_numbers}
use Rattle.writing.proofs.Ended.{Ended, behind, two_numbers_ended}
use Rattle.forms.specs.Forms.{three_numbers}

-- it ends as one of two
pub three_numbers_ended : (w : List ℕ) (k m n : ℕ) → Ended (three_numbers w k m n)
unfolding three_numbers two_numbers
three_numbers_ended w k m n = behind w (behind (decimal k ++ bytes " ") (two_numbers_ended [] m n))
