-- Codes and `not 0` behind them, as a list of numbers. Assumes nothing.
use mathlib.Core.Path.{◌≡◌, ◌∙◌}
use mathlib.Core.List.{List, map-id}
use Prim.Native.Nat.{ℕ, ◌≤◌}
use lib.ListN.{length, take}
use lib.Seq.{length-take-le}
use Rattle.records.specs.Records.{padded}
use Rattle.storing.specs.Storing.{front}

pub padded_front : (ks : List ℕ) (count limit room : ℕ) → count ≤ length ks → room ≡ limit → padded (λ k. k) (take count ks) room ≡ front ks count limit
padded_front ks count limit room h e = map-id _ ∙ rw (length-take-le count ks h, e)
