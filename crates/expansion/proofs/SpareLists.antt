-- Laws of spares: a line that is written in the place of the first, and the first that is left out. Assumes nothing.
use mathlib.Core.Path.{◌≡◌, ap, ◌∙◌}
use mathlib.Core.List.{List, ◌∷◌}
use Prim.Native.Nat.{ℕ, suc, ◌+◌, ◌≤◌, ◌<◌}
use native.Mathlib.Omega.{arith}
use native.Mathlib.Numerals.{add-one}
use lib.ListN.{length, set, take, drop, length-set}
use lib.Seq.{drop-set-lt, get_or-set_same, slice, slice-cons, take-set-lt}

-- without the first
pub slice_rest : (first end : ℕ) (lines : List ℕ) → first < end → end ≤ length lines → slice (first + 1) end lines ≡ drop 1 (slice first end lines)
slice_rest first end lines h k = rw (slice-cons first end lines 0 h k, add-one first)

-- another line in the place of the first
pub slice_changed : (first end t : ℕ) (lines : List ℕ) → first < end → end ≤ length lines → slice first end (set lines first t) ≡ t ∷ drop 1 (slice first end lines)
slice_changed first end t lines h k =
    slice-cons first end (set lines first t) 0 h (omega (arith, length-set lines first t))
    ∙ rw (get_or-set_same lines first t 0 (omega arith), slice-cons first end lines 0 h k) (ap (λ l. t ∷ l) later)
  where
    later : slice (suc first) end (set lines first t) ≡ slice (suc first) end lines
    later = ap (drop (suc first)) (take-set-lt end lines first t h) ∙ drop-set-lt (suc first) (take end lines) first t (omega arith)
