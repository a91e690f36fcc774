-- Marks and sets of lines: the number that marks make, the marks that a number makes, and that none is left exactly if there is no spare.
-- Assumes nothing.
use mathlib.Core.Path.{◌≡◌, refl, sym, ap, ◌∙◌}
use mathlib.Core.Bool.{Bool, true, false, cond, ◌&&◌}
use mathlib.Core.List.{List, ◌∷◌, ◌++◌}
use Prim.Native.Nat.{ℕ, zero, suc, ◌+◌, ◌-◌, ◌*◌, ◌/◌, ◌%◌, ◌^◌, ◌≤◌, ◌<◌}
use native.Mathlib.Omega.{arith}
use native.Mathlib.Numerals.{add-one}
use native.Mathlib.Nat.{pow-le-pow_right}
use lib.Dec.{eqb}
use mir.Val.{bool_byte}
use borrow.Author.Tests.{eq-eqb, ne_eqb}
use lib.ListN.{length, get_or, set}
use lib.Seq.{set-get_or}
use Rattle.meaning.specs.Pattern.{number, has}
use Rattle.meaning.proofs.Flips.{has_append}
use Rattle.meaning.proofs.Patterns.{number_below, number_agree}
use Rattle.cascades.specs.Expansion.{lines_outside, mct_spares}
use Rattle.cascades.specs.LineSets.{packed, unpacked}
use Rattle.cascades.proofs.LineSets.{unpacked_first, unpacked_later}
use Rattle.cascades.proofs.SpareLists.{outside_alike}
use Rattle.spares.specs.Marks.{mark, marked_number, is_taken, none_left}

-- ---- a number of marks

-- marks of the lines of a list make its number
pub marked_packed : (m : List Bool) (l : List ℕ) → ((i : ℕ) → i < 32 → get_or m i false ≡ has i l) → marked_number m ≡ packed l
marked_packed m l h = number_agree 32 (λ i. get_or m i false) (λ i. has i l) h

cond_byte : (b : Bool) → cond b 1 0 ≡ bool_byte b
cond_byte true = refl
cond_byte false = refl

module _ (m : List Bool) where
  -- the number of those from line i on
  abbrev pub digits_from : ℕ → ℕ
  digits_from i = number (32 - i) (λ j. get_or m (i + j) false)

  pub digits_all : digits_from 0 ≡ marked_number m
  digits_all = number_agree 32 _ _ (λ j h. let e : 0 + j ≡ j = omega arith in rw e)

  -- one digit more
  pub digit_more : (i : ℕ) → i < 32 → digits_from i ≡ 2 * digits_from (i + 1) + bool_byte (get_or m i false)
  unfolding number
  digit_more i h =
      let e : 32 - i ≡ suc (32 - (i + 1)) = omega arith in
      let here : i + 0 ≡ i = omega arith in
      let later : number (32 - (i + 1)) (λ j. get_or m (i + suc j) false) ≡ digits_from (i + 1) = number_agree (32 - (i + 1)) _ _ (λ j b. let q : i + suc j ≡ i + 1 + j = omega arith in rw q) in
      rw (e, here, later) (omega (arith, cond_byte (get_or m i false)))

  pub digits_small : (i : ℕ) → 1 ≤ i → digits_from i < 2147483648
  digits_small i h =
      let most : 2 ^ (32 - i) ≤ 2147483648 = pow-le-pow_right {n = 2} (omega arith) {i = 32 - i} {j = 31} (omega arith) in
      omega (arith, number_below (32 - i) (λ j. get_or m (i + j) false), most)

-- ---- the marks of a number

unpacked_next : (i k : ℕ) → i < 32 → unpacked (32 - i) i k ≡ cond (eqb (k % 2) 1) (i ∷ unpacked (32 - (i + 1)) (i + 1) (k / 2)) (unpacked (32 - (i + 1)) (i + 1) (k / 2))
unfolding unpacked
unpacked_next i k h = let e : 32 - i ≡ suc (32 - (i + 1)) = omega arith in rw (e, add-one i)

-- a mark made of the lowest digit, where there was none
pub marks_next : (m : List Bool) (i k : ℕ) → i < 32 → get_or m i false ≡ false → mark (set m i (eqb (k % 2) 1)) (unpacked (32 - (i + 1)) (i + 1) (k / 2)) ≡ mark m (unpacked (32 - i) i k)
unfolding mark
marks_next m i k h e = go (eqb (k % 2) 1) refl
  where
    go : (b : Bool) → eqb (k % 2) 1 ≡ b → mark (set m i b) (unpacked (32 - (i + 1)) (i + 1) (k / 2)) ≡ mark m (unpacked (32 - i) i k)
    go true q = rw (unpacked_next i k h, q)
    go false q = rw (unpacked_next i k h, q) (ap (λ l. mark l (unpacked (32 - (i + 1)) (i + 1) (k / 2))) (ap (set m i) (sym e) ∙ set-get_or m i false))

pub marks_done : (m : List Bool) (i k : ℕ) → 32 ≤ i → mark m (unpacked (32 - i) i k) ≡ m
unfolding unpacked mark
marks_done m i k h = let e : 32 - i ≡ 0 = omega arith in rw e

-- ---- no spare line

module _ (m : List Bool) (cs : List ℕ) (t : ℕ) (h : (i : ℕ) → i < 32 → get_or m i false ≡ has i cs) where
  left_is : (n p i k : ℕ) → n ≤ p → i + p ≤ 32 → none_left n i k m t ≡ eqb (length (lines_outside n i (unpacked p i k ++ (t ∷ cs)))) 0
  unfolding none_left lines_outside
  left_is zero p i k a b = sym (eq-eqb 0 0 refl)
  left_is (suc n) zero i k a b = absurd (omega arith)
  left_is (suc n) (suc p) i k a b = rw (here, later, left_is n p (suc i) (k / 2) (omega arith) (omega arith)) (go (is_taken k i t (get_or m i false)))
    where
      here : has i (unpacked (suc p) i k ++ (t ∷ cs)) ≡ is_taken k i t (get_or m i false)
      here = has_append i (unpacked (suc p) i k) (t ∷ cs) ∙ rw (unpacked_first p i k, h i (omega arith)) (unfold has in refl)

      later : lines_outside n (suc i) (unpacked (suc p) i k ++ (t ∷ cs)) ≡ lines_outside n (suc i) (unpacked p (suc i) (k / 2) ++ (t ∷ cs))
      later = outside_alike n (suc i) _ _ (λ j c d. has_append j (unpacked (suc p) i k) (t ∷ cs) ∙ rw (unpacked_later p i k j (omega arith)) (sym (has_append j (unpacked p (suc i) (k / 2)) (t ∷ cs))))

      go : (x : Bool) → (x && eqb (length (lines_outside n (suc i) (unpacked p (suc i) (k / 2) ++ (t ∷ cs)))) 0) ≡ eqb (length (cond x (lines_outside n (suc i) (unpacked p (suc i) (k / 2) ++ (t ∷ cs))) (i ∷ lines_outside n (suc i) (unpacked p (suc i) (k / 2) ++ (t ∷ cs))))) 0
      go true = refl
      go false = sym (ne_eqb (suc (length (lines_outside n (suc i) (unpacked p (suc i) (k / 2) ++ (t ∷ cs))))) 0 (λ e. omega (arith, e)))

pub none_left_is : (n set : ℕ) (m : List Bool) (cs : List ℕ) (t : ℕ) → n ≤ 32 → ((i : ℕ) → i < 32 → get_or m i false ≡ has i cs) → none_left n 0 set m t ≡ eqb (length (mct_spares n (unpacked 32 0 set) cs t)) 0
unfolding mct_spares
none_left_is n set m cs t b h = left_is m cs t h n 32 0 set b (omega arith)

-- as the loop finds it: a line that is taken, and one that is not
left_next : (n i k : ℕ) (m : List Bool) (t : ℕ) → i < n → none_left (n - i) i k m t ≡ (is_taken k i t (get_or m i false) && none_left (n - (i + 1)) (i + 1) (k / 2) m t)
unfolding none_left
left_next n i k m t h = let e : n - i ≡ suc (n - (i + 1)) = omega arith in rw (e, add-one i)

pub left_taken : (n i k : ℕ) (m : List Bool) (t : ℕ) → i < n → is_taken k i t (get_or m i false) ≡ true → none_left (n - (i + 1)) (i + 1) (k / 2) m t ≡ none_left (n - i) i k m t
left_taken n i k m t h e = sym (left_next n i k m t h ∙ rw e)

pub left_free : (n i k : ℕ) (m : List Bool) (t : ℕ) → i < n → is_taken k i t (get_or m i false) ≡ false → false ≡ none_left (n - i) i k m t
left_free n i k m t h e = sym (left_next n i k m t h ∙ rw e)

pub left_end : (n i k : ℕ) (m : List Bool) (t : ℕ) → n ≤ i → true ≡ none_left (n - i) i k m t
unfolding none_left
left_end n i k m t h = let e : n - i ≡ 0 = omega arith in rw e
