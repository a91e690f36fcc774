-- Numbers in decimal, and the two forms that the programs write beside circuit texts: `(turned-away r l)` and `(quote c)`. Assumes nothing.
use Rattle.std.specs.Prelude.{cond, List, [], ◌∷◌, ◌++◌, ℕ, zero, suc, ◌+◌, ◌/◌, ◌%◌, ltb}
use Rattle.text.specs.Text.{bytes}

-- the last digits of n, as many as n has and no more than the first argument says
unfoldable pub last_digits : ℕ → ℕ → List ℕ
last_digits zero n = []
last_digits (suc f) n = cond (ltb n 10) ((48 + n) ∷ []) (last_digits f (n / 10) ++ (48 + n % 10) ∷ [])

-- n in decimal, without a leading zero except 0 itself: n has at most n + 1 digits
unfoldable pub decimal : ℕ → List ℕ
decimal n = last_digits (suc n) n

-- a form of one number and one of two, with the bytes that open it; each is ended by byte 10
unfoldable pub one_number : List ℕ → ℕ → List ℕ
one_number w n = w ++ (decimal n ++ bytes ")\n")

unfoldable pub two_numbers : List ℕ → ℕ → ℕ → List ℕ
two_numbers w m n = w ++ ((decimal m ++ bytes " ") ++ (decimal n ++ bytes ")\n"))

-- `(turned-away r l)` with refusal number r and line l
abbrev pub turned_away : ℕ → ℕ → List ℕ
turned_away r l = two_numbers (bytes "(turned-away ") r l

-- `(quote c)` with the gate count c
abbrev pub quote : ℕ → List ℕ
quote c = one_number (bytes "(quote ") c
