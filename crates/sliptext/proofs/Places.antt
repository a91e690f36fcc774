-- The place that a step names, read at a place of a text, digit by digit. Assumes nothing.
use mathlib.Core.Path.{◌≡◌, refl}
use mathlib.Core.List.{List, []}
use Prim.Native.Nat.{ℕ, zero, suc, ◌+◌, ◌-◌, ◌*◌}
use native.Mathlib.Numerals.{add-one}
use native.Mathlib.Omega.{arith}
use lib.ListN.{length, drop, get_or, drop_of_length-le}
use lib.Seq.{drop-cons}
use borrow.Author.Tests.{ne_eqb}
use Rattle.std.proofs.Common.{Some, None, ⊎_elim}
use Rattle.std.proofs.lemmas.Bool.{cases_lt}
use Rattle.text.specs.Reading.{got, none}
use Rattle.text.proofs.Printed.{digit_yes}
use Rattle.tokens.specs.Seen.{digit_tells}
use Rattle.sliptext.specs.SlipText.{more, place}
use Rattle.sliptext.proofs.Printed.{more_digit, more_stops}

-- ---- the digits after the first one

more_empty : (n i : ℕ) → more n i [] ≡ got i []
unfolding more
more_empty zero i = refl
more_empty (suc n) i = refl

-- where no digit stands
pub more_ends : (n i : ℕ) (s : List ℕ) (p : ℕ) → digit_tells s p None → more n i (drop p s) ≡ got i (drop p s)
more_ends n i s p d = ⊎_elim (λ h. rw (drop-cons s p 0 h) (more_stops n i (get_or s p 0) (drop (suc p) s) (d h))) (λ h. rw (drop_of_length-le s {i = p} h) (more_empty n i)) (cases_lt p (length s))

-- where one does
pub more_turn : (n m i d : ℕ) (s : List ℕ) (p : ℕ) → digit_tells s p (Some d) → n ≡ suc m → more n i (drop p s) ≡ more m (i * 10 + d) (drop (p + 1) s)
more_turn n m i d s p h e = rw (e, drop-cons s p 0 h.0, h.1, add-one p) (more_digit m i d (drop (suc p) s) h.2)

-- where no more are allowed
pub more_done : (n i : ℕ) (s : List ℕ) → n ≡ 0 → more n i s ≡ got i s
unfolding more
more_done n i s e = rw e

-- ---- all of them

pub place_none : (s : List ℕ) (at : ℕ) → digit_tells s at None → place (drop at s) ≡ none
unfolding place
place_none s at d = ⊎_elim (λ h. rw (drop-cons s at 0 h, d h)) (λ h. rw (drop_of_length-le s {i = at} h)) (cases_lt at (length s))

pub place_zero : (s : List ℕ) (at d : ℕ) → digit_tells s at (Some d) → d ≡ 0 → place (drop at s) ≡ got 0 (drop (at + 1) s)
unfolding place
place_zero s at d h e = rw (drop-cons s at 0 h.0, h.1, e, add-one at)

pub place_digits : (s : List ℕ) (at d : ℕ) → digit_tells s at (Some d) → (d ≡ 0 → ⊥) → place (drop at s) ≡ more 3 d (drop (at + 1) s)
unfolding place
place_digits s at d h n =
    let a : 48 + d - 48 ≡ d = omega arith in
    rw (drop-cons s at 0 h.0, h.1, digit_yes (48 + d) (omega (arith, h.2)) (omega (arith, h.2)), ne_eqb (48 + d) 48 (λ z. n (omega arith)), a, add-one at)

-- a place, by its first digit
pub ruleset by_first_digit = (place_none, place_zero, place_digits)
