-- What is ended by byte 10, as all that programs write is. Assumes nothing.
use mathlib.Core.Path.{◌≡◌, refl, sym, ap, ◌∙◌}
use mathlib.Core.List.{List, [], ◌∷◌, ◌++◌, append_assoc}
use Prim.Native.Nat.{ℕ}
use Rattle.text.specs.Text.{bytes}
use Rattle.writing.specs.Decimal.{decimal, one_number, two_numbers}

-- the last byte is 10
abbrev pub Ended : List ℕ → Type 0
Ended w = (u : List ℕ) × (w ≡ u ++ 10 ∷ [])

-- so it is whatever stands before
pub behind : (u : List ℕ) {w : List ℕ} → Ended w → Ended (u ++ w)
behind u (v, e) = (u ++ v, ap (λ (t : List ℕ). u ++ t) e ∙ sym (append_assoc u v (10 ∷ [])))

-- the end of every form
pub bracket : Ended (bytes ")\n")
bracket = (41 ∷ [], refl)

-- a form of one number and one of two
pub one_number_ended : (w : List ℕ) (n : ℕ) → Ended (one_number w n)
unfolding one_number
one_number_ended w n = behind w (behind (decimal n) bracket)

pub two_numbers_ended : (w : List ℕ) (m n : ℕ) → Ended (two_numbers w m n)
unfolding two_numbers
two_numbers_ended w m n = behind w (behind (decimal m ++ bytes " ") (behind (decimal n) bracket))
