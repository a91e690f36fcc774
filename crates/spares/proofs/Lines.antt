-- A line of a list of lines below a bound. Assumes nothing.
use mathlib.Core.List.{List}
use Prim.Native.Nat.{ℕ, ◌<◌}
use lib.ListN.{length, get_or}
use Rattle.gates.proofs.Every.{every_at}
use Rattle.cascades.specs.Cascade.{Below}

pub below_at : (n : ℕ) (l : List ℕ) (i : ℕ) → i < length l → Below n l → get_or l i 0 < n
unfolding Below
below_at n l i = every_at (λ c. c < n) l i 0
