-- The parser of text's Reading at a place of a text: numbers and words, byte by byte. Assumes nothing.
use mathlib.Core.Path.{◌≡◌, refl, sym, ap, ◌∙◌}
use mathlib.Core.Bool.{Bool, true, false, cond, and-false, ◌&&◌}
use mathlib.Core.Logic.{◌≢◌}
use mathlib.Core.List.{List, [], ◌∷◌}
use Prim.Native.Nat.{ℕ, suc, ◌+◌, ◌-◌, ◌*◌, ◌≤◌, ◌<◌}
use native.Mathlib.Numerals.{add-one}
use native.Mathlib.Omega.{arith}
use lib.ListN.{length, take, drop, get_or, length-drop, drop_of_length-le}
use Rattle.std.proofs.Common.{Some, None, ⊎_elim}
use Rattle.std.proofs.lemmas.Bool.{cases_lt}
use Rattle.tokens.specs.Seen.{digit_tells}
use lib.Seq.{drop-cons, drop-drop, take_all}
use lib.Dec.{eqb, leb}
use Rattle.std.specs.List.{starts_with}
use lib.Pointwise.{pointwise}
use borrow.Author.Tests.{eq-eqb, ne_eqb, eqb-true, eqb-false, lt-leb}
use Rattle.text.specs.Reading.{got, none, digit, num, second, strip}
use Rattle.text.proofs.Printed.{digit_yes}

-- ---- what a callee's answer tells, once it is known which it is

pub told {ℓ κ} : {A : Type ℓ} {B : Type κ} (f : A → B) {g : B} {r a : A} → f r ≡ g → r ≡ a → g ≡ f a
told f h e = sym h ∙ ap f e

-- ---- digits

digit_low : (a : ℕ) → a < 48 → digit a ≡ false
digit_low a h = rw (lt-leb 48 a h)

digit_high : (a : ℕ) → 57 < a → digit a ≡ false
digit_high a h = rw (lt-leb a 57 h) (and-false (leb 48 a))

-- ---- numbers

num_end : (s : List ℕ) (at : ℕ) → length s ≤ at → num (drop at s) ≡ none
unfolding num
num_end s at h = rw (drop_of_length-le s h)

num_other : (s : List ℕ) (at : ℕ) → at < length s → digit (get_or s at 0) ≡ false → num (drop at s) ≡ none
unfolding num
num_other s at h d = rw (drop-cons s at 0 h, d)

-- no digit at the place
pub num_missing : (s : List ℕ) (at : ℕ) → digit_tells s at None → num (drop at s) ≡ none
num_missing s at d = ⊎_elim (λ h. num_other s at h (d h)) (num_end s at) (cases_lt at (length s))

-- a first digit
module _ (s : List ℕ) (at a : ℕ) (h : digit_tells s at (Some a)) where
  first_zero : eqb (get_or s at 0) 48 ≡ eqb a 0
  first_zero = zero_or_not (eqb a 0) refl
    where
      zero_or_not : (x : Bool) → eqb a 0 ≡ x → eqb (get_or s at 0) 48 ≡ x
      zero_or_not true q = eq-eqb (get_or s at 0) 48 (omega (arith, h.1, eqb-true a 0 q))
      zero_or_not false q =
          let n : a ≢ 0 = eqb-false a 0 q in
          ne_eqb (get_or s at 0) 48 (λ e. n (omega (arith, h.1, e)))

  num_digit : num (drop at s) ≡ cond (eqb a 0) (got 0 (drop (at + 1) s)) (second a (drop (at + 1) s))
  unfolding num
  num_digit =
      let e : get_or s at 0 - 48 ≡ a = omega (arith, h.1) in
      rw (drop-cons s at 0 h.0, digit_yes (get_or s at 0) (omega (arith, h.1)) (omega (arith, h.1, h.2)), e, add-one at, first_zero)

  pub num_zero : a ≡ 0 → num (drop at s) ≡ got a (drop (at + 1) s)
  num_zero e = num_digit ∙ rw e

  -- no second one
  pub num_one : digit_tells s (at + 1) None → num (drop at s) ≡ got a (drop (at + 1) s)
  unfolding second
  num_one d = num_digit ∙ alone (eqb a 0) refl
    where
      second_missing : second a (drop (at + 1) s) ≡ got a (drop (at + 1) s)
      second_missing = ⊎_elim (λ g. rw (drop-cons s (at + 1) 0 g, d g)) (λ g. rw (drop_of_length-le s g)) (cases_lt (at + 1) (length s))

      alone : (x : Bool) → eqb a 0 ≡ x → cond x (got 0 (drop (at + 1) s)) (second a (drop (at + 1) s)) ≡ got a (drop (at + 1) s)
      alone true q = rw (eqb-true a 0 q)
      alone false q = second_missing

  -- a second one
  pub num_two : (b : ℕ) → (a ≡ 0 → ⊥) → digit_tells s (at + 1) (Some b) → num (drop at s) ≡ got (a * 10 + b) (drop (at + 2) s)
  unfolding second
  num_two b n g =
      let e : get_or s (at + 1) 0 - 48 ≡ b = omega (arith, g.1) in
      let q : suc (at + 1) ≡ at + 2 = omega arith in
      num_digit ∙ rw (ne_eqb a 0 n, drop-cons s (at + 1) 0 g.0, digit_yes (get_or s (at + 1) 0) (omega (arith, g.1)) (omega (arith, g.1, g.2)), e, q)

-- ---- words

-- a word at the front of a text, or not
strip_starts : (w s : List ℕ) → strip w s ≡ cond (pointwise eqb w (take (length w) s)) (got tt (drop (length w) s)) none
unfolding strip
strip_starts [] s = refl
strip_starts (b ∷ w) [] = refl
strip_starts (b ∷ w) (a ∷ s) = go (strip_starts w s) (eqb a b) refl
  where
    go : strip w s ≡ cond (pointwise eqb w (take (length w) s)) (got tt (drop (length w) s)) none → (x : Bool) → eqb a b ≡ x → cond x (strip w s) none ≡ cond (eqb b a && pointwise eqb w (take (length w) s)) (got tt (drop (length w) s)) none
    go e true q = rw (eq-eqb b a (sym (eqb-true a b q))) e
    go e false q = rw (ne_eqb b a (λ e. eqb-false a b q (sym e)))

pub strip_at : (s w : List ℕ) (at : ℕ) → strip w (drop at s) ≡ cond (starts_with eqb (take (length s - at) (drop at s)) w) (got tt (drop (at + length w) s)) none
strip_at s w at =
    let e = take_all (length s - at) (drop at s) (omega (arith, length-drop at s)) in
    strip_starts w (drop at s) ∙ rw (e, drop-drop (length w) at s)
