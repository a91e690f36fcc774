-- An element taken out of the front of a list: those behind it move up by one place, in order. Assumes nothing.
use mathlib.Core.Path.{◌≡◌, ap, ◌∙◌}
use mathlib.Core.List.{List}
use Prim.Native.Nat.{ℕ, suc, ◌+◌, ◌-◌, ◌≤◌, ◌<◌}
use native.Mathlib.Numerals.{add-one}
use native.Mathlib.Omega.{arith}
use lib.ListN.{length, take, drop, length-drop}
use lib.Seq.{length-take-le, take-take, take-add, drop_at, take-paste}
use Rattle.std.specs.List.{copy_within}
use Rattle.stepping.specs.Stepped.{without}

-- those of the first m that stand behind i were copied to the place before theirs
pub removed : (l : List ℕ) (i m : ℕ) → i < m → m ≤ length l → take (m - 1) (copy_within l (i + 1) m i) ≡ without i (take m l)
unfolding without
removed l i m h k =
    let n = m - suc i in
    let e : m - 1 ≡ i + n = omega arith in
    let f : m ≡ suc i + n = omega arith in
    let behind : drop (suc i) (take m l) ≡ take n (drop (suc i) l) = ap (λ (x : ℕ). drop (suc i) (take x l)) f ∙ ap (λ (x : List ℕ). drop (suc i) x) (take-add (suc i) n l) ∙ drop_at (take (suc i) l) (take n (drop (suc i) l)) (suc i) (length-take-le (suc i) l (omega arith)) in
    rw (behind, take-take i m l (omega arith), e, add-one i) (take-paste l i (drop (suc i) l) n (omega arith) (omega (arith, length-drop (suc i) l)))
