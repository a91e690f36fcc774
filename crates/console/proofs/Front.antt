-- The bytes of an answer stand at the front of an area. Assumes nothing.
use mathlib.Core.Path.{◌≡◌, sym, ap, ◌∙◌}
use mathlib.Core.List.{List, ◌++◌}
use Prim.Native.Nat.{ℕ, ◌≤◌}
use native.Mathlib.Omega.{arith}
use lib.ListN.{length, take, drop, length-append}
use lib.Seq.{length-take-le, take-append_seam}
use Rattle.console.specs.Output.{Fronts}

module _ {a : List ℕ} {n : ℕ} {b w : List ℕ} (f : Fronts a n b w) where
  -- it stands within the area
  pub fronts_within : n ≤ length b
  fronts_within = rw f.bytes (omega (arith, f.number, length-append w (drop n a)))

  -- it is the first n bytes
  pub fronts_are : take n b ≡ w
  fronts_are = rw (f.bytes, f.number) (take-append_seam w (drop (length w) a))

  -- and there are n of them
  pub fronts_part : n ≡ length (take n b)
  fronts_part = sym (length-take-le n b fronts_within)

-- the bytes settle how many they are, and what stands in the area with them
pub fronts_one : {a : List ℕ} {n m : ℕ} {b d w v : List ℕ} → w ≡ v → Fronts a n b w → Fronts a m d v → (n ≡ m) × (b ≡ d)
fronts_one {a} {n} {m} {w = w} {v} e x y =
    let k = x.number ∙ ap length e ∙ sym y.number in
    let f : w ++ drop n a ≡ v ++ drop m a = rw (e, k) in
    (k, x.bytes ∙ f ∙ sym y.bytes)
