-- Marks: the lines without one are those outside the list of the lines that have theirs. Assumes nothing.
use mathlib.Core.Path.{◌≡◌, refl, sym, ap, ◌∙◌}
use mathlib.Core.Bool.{Bool, true, false, not, cond, ◌||◌, or-false, or_comm, or_assoc}
use mathlib.Core.List.{List, [], ◌∷◌, ◌++◌, append-nil, append_assoc}
use Prim.Native.Nat.{ℕ, zero, suc, ◌+◌, ◌-◌, ◌≤◌, ◌<◌}
use native.Mathlib.Omega.{arith}
use native.Mathlib.Numerals.{add-one}
use lib.Dec.{eqb}
use borrow.Author.Tests.{eqb-true, eqb-false, not-true, not-false}
use lib.ListN.{length, get_or, set, take, drop, replicate, length-set, length-replicate, get_or-replicate, drop_of_length-le}
use lib.Seq.{drop-cons, get_or-set_same, get_or-set_other, take-suc-set}
use Rattle.meaning.specs.Pattern.{has}
use Rattle.cascades.specs.Expansion.{lines_outside}
use Rattle.spares.specs.Marks.{mark, marks, unmarked}

-- ---- setting the marks

pub mark_step : (m : List Bool) (cs : List ℕ) (i : ℕ) → i < length cs → mark (set m (get_or cs i 0) true) (drop (i + 1) cs) ≡ mark m (drop i cs)
unfolding mark
mark_step m cs i h = rw (drop-cons cs i 0 h, add-one i)

pub mark_end : (m : List Bool) (cs : List ℕ) (i : ℕ) → length cs ≤ i → mark m (drop i cs) ≡ m
unfolding mark
mark_end m cs i h = rw (drop_of_length-le cs h)

mark_append : (m : List Bool) (a b : List ℕ) → mark m (a ++ b) ≡ mark (mark m a) b
unfolding mark
mark_append m [] b = refl
mark_append m (c ∷ a) b = mark_append (set m c true) a b

-- the target, and then the controls, after other lines
pub marks_after : (l : List ℕ) (t : ℕ) (cs : List ℕ) → mark (set (marks l) t true) cs ≡ marks (l ++ (t ∷ cs))
unfolding mark marks
marks_after l t cs = sym (mark_append (replicate 32 false) l (t ∷ cs))

length_mark : (m : List Bool) (l : List ℕ) → length (mark m l) ≡ length m
unfolding mark
length_mark m [] = refl
length_mark m (c ∷ l) = length_mark (set m c true) l ∙ length-set m c true

pub length_marks : (l : List ℕ) → length (marks l) ≡ 32
unfolding marks
length_marks l = length_mark (replicate 32 false) l ∙ length-replicate 32 false

-- ---- reading them

set_mark : (m : List Bool) (c i : ℕ) → i < length m → get_or (set m c true) i false ≡ (eqb i c || get_or m i false)
set_mark m c i h = go (eqb i c) refl
  where
    go : (b : Bool) → eqb i c ≡ b → get_or (set m c true) i false ≡ (b || get_or m i false)
    go true e = rw (← eqb-true i c e) (get_or-set_same m i true false h)
    go false e = get_or-set_other m c i true false (eqb-false i c e)

read_mark : (m : List Bool) (l : List ℕ) (i : ℕ) → i < length m → get_or (mark m l) i false ≡ (get_or m i false || has i l)
unfolding mark has
read_mark m [] i h = sym (or-false (get_or m i false))
read_mark m (c ∷ l) i h =
    read_mark (set m c true) l i (omega (arith, length-set m c true))
    ∙ ap (λ (b : Bool). b || has i l) (set_mark m c i h ∙ or_comm (eqb i c) (get_or m i false))
    ∙ or_assoc (get_or m i false) (eqb i c) (has i l)

read_marks : (l : List ℕ) (i : ℕ) → i < 32 → get_or (marks l) i false ≡ has i l
unfolding marks
read_marks l i h = read_mark (replicate 32 false) l i (omega (arith, length-replicate 32 false)) ∙ ap (λ (b : Bool). b || has i l) (get_or-replicate 32 i false false h)

-- ---- the lines without one

unmarked_next : (n i : ℕ) (m : List Bool) → i < n → unmarked (n - i) i m ≡ cond (get_or m i false) (unmarked (n - (i + 1)) (i + 1) m) (i ∷ unmarked (n - (i + 1)) (i + 1) m)
unfolding unmarked
unmarked_next n i m h = let e : n - i ≡ suc (n - (i + 1)) = omega arith in rw (e, add-one i)

unmarked_here : (n i : ℕ) (m : List Bool) → i < n → not (get_or m i false) ≡ true → unmarked (n - i) i m ≡ i ∷ unmarked (n - (i + 1)) (i + 1) m
unmarked_here n i m h e = unmarked_next n i m h ∙ rw (not-true (get_or m i false) e)

unmarked_later : (n i : ℕ) (m : List Bool) → i < n → not (get_or m i false) ≡ false → unmarked (n - i) i m ≡ unmarked (n - (i + 1)) (i + 1) m
unmarked_later n i m h e = unmarked_next n i m h ∙ rw (not-false (get_or m i false) e)

unmarked_end : (n i : ℕ) (m : List Bool) → n ≤ i → unmarked (n - i) i m ≡ []
unfolding unmarked
unmarked_end n i m h = let e : n - i ≡ 0 = omega arith in rw e

pub unmarked_outside : (k i : ℕ) (l : List ℕ) → i + k ≤ 32 → unmarked k i (marks l) ≡ lines_outside k i l
unfolding unmarked lines_outside
unmarked_outside zero i l h = refl
unmarked_outside (suc k) i l h = rw (read_marks l i (omega arith), unmarked_outside k (suc i) l (omega arith))

-- ---- lines found one after the other: the first of m, and those of the n from i on that are still to come

pub found_here : (n i k : ℕ) (m : List Bool) (found : List ℕ) → i < n → k < length found → not (get_or m i false) ≡ true → take (k + 1) (set found k i) ++ unmarked (n - (i + 1)) (i + 1) m ≡ take k found ++ unmarked (n - i) i m
found_here n i k m found h r e =
    let one_more : take (k + 1) (set found k i) ≡ take k found ++ (i ∷ []) = rw (add-one k) (take-suc-set found k i r) in
    ap (λ (l : List ℕ). l ++ unmarked (n - (i + 1)) (i + 1) m) one_more
    ∙ append_assoc (take k found) (i ∷ []) (unmarked (n - (i + 1)) (i + 1) m)
    ∙ ap (λ (l : List ℕ). take k found ++ l) (sym (unmarked_here n i m h e))

pub found_later : (n i k : ℕ) (m : List Bool) (found : List ℕ) → i < n → not (get_or m i false) ≡ false → take k found ++ unmarked (n - (i + 1)) (i + 1) m ≡ take k found ++ unmarked (n - i) i m
found_later n i k m found h e = ap (λ (l : List ℕ). take k found ++ l) (sym (unmarked_later n i m h e))

pub found_all : (n i k : ℕ) (m : List Bool) (found : List ℕ) → n ≤ i → take k found ++ unmarked (n - i) i m ≡ unmarked n 0 m → take k found ≡ unmarked n 0 m
found_all n i k m found h e = sym (append-nil (take k found)) ∙ ap (λ (l : List ℕ). take k found ++ l) (sym (unmarked_end n i m h)) ∙ e
