-- Sites: one site is an equivalence, the order of sites is total, and passing depends on sites alone. Assumes nothing.
use mathlib.Core.Path.{◌≡◌, refl}
use Prim.Native.Nat.{ℕ, ◌<◌}
use native.Mathlib.Omega.{arith}
use native.Mathlib.Decide.{dec_lt}
use Rattle.gates.specs.declared.Gate.{Gate}
use Rattle.gates.specs.Circuit.{target, slot, Passes, Valid, valid_not, valid_powered}
use Rattle.gates.specs.Sites.{Same, Less, low, tie}

pub same_refl : (g : Gate) → Same g g
same_refl g = record { targets = refl; controls = refl }

pub same_sym : {g h : Gate} → Same g h → Same h g
same_sym s = omega arith

pub same_trans : {g h k : Gate} → Same g h → Same h k → Same g k
same_trans s t = omega arith

pub less_same : {g h k : Gate} → Less g h → Same h k → Less g k
less_same (low l) s = low (omega arith)
less_same (tie e l) s = tie (omega arith) (omega arith)

pub same_less : {g h k : Gate} → Same g h → Less h k → Less g k
same_less s (low l) = low (omega arith)
same_less s (tie e l) = tie (omega arith) (omega arith)

pub less_trans : {g h k : Gate} → Less g h → Less h k → Less g k
less_trans (low l) (low m) = low (omega arith)
less_trans (low l) (tie e m) = low (omega arith)
less_trans (tie e l) (low m) = low (omega arith)
less_trans (tie e l) (tie f m) = tie (omega arith) (omega arith)

pub less_irrefl : {g h : Gate} → Same g h → Less g h → ⊥
less_irrefl s (low l) = omega arith
less_irrefl s (tie e l) = omega arith

pub less_asym : {g h : Gate} → Less g h → Less h g → ⊥
less_asym l m = less_irrefl (same_refl _) (less_trans l m)

-- the order is total
pub data Order (g h : Gate) : Type 0 where
  before : Less g h → Order g h
  level : Same g h → Order g h
  after : Less h g → Order g h

order_targets_equal : {g h : Gate} → target g ≡ target h → Dec (slot g < slot h) → Dec (slot h < slot g) → Order g h
order_targets_equal e (yes l) d = before (tie e l)
order_targets_equal e (no l) (yes m) = after (tie (omega arith) m)
order_targets_equal e (no l) (no m) = level (omega arith)

order_targets : {g h : Gate} → Dec (target g < target h) → Dec (target h < target g) → Order g h
order_targets (yes l) d = before (low l)
order_targets (no l) (yes m) = after (low m)
order_targets {g} {h} (no l) (no m) = order_targets_equal (omega arith) (dec_lt (slot g) (slot h)) (dec_lt (slot h) (slot g))

pub order : (g h : Gate) → Order g h
order g h = order_targets (dec_lt (target g) (target h)) (dec_lt (target h) (target g))

-- ---- passing

pub passes_sym : {g h : Gate} → Passes g h → Passes h g
passes_sym p = omega arith

pub passes_same : {g h k : Gate} → Same g h → Passes g k → Passes h k
passes_same s p = omega arith

pub passes_same_right : {g h k : Gate} → Same h k → Passes g h → Passes g k
passes_same_right s p = omega arith

-- a valid gate passes itself
pub passes_self : {n : ℕ} {g : Gate} → Valid n g → Passes g g
unfolding target slot
passes_self (valid_not a) = omega arith
passes_self (valid_powered a b c d e) = omega arith
