-- Gates and their numbers are inverse to each other on valid gates, and document 01's order of gates is the order of the numbers.
-- Assumes nothing.
use mathlib.Core.Path.{◌≡◌, refl, sym, ap, ◌∙◌}
use mathlib.Core.Logic.{◌≢◌, ◌↔◌}
use Prim.Native.Nat.{ℕ, zero, suc, ◌+◌, ◌*◌, ◌/◌, ◌%◌, ◌≤◌, ◌<◌}
use native.Mathlib.Omega.{arith}
use native.Mathlib.Decide.{dec_lt}
use Rattle.gates.specs.declared.Gate.{Gate}
use Rattle.gates.specs.declared.Gate.TheVariants.{Not, Powered}
use Rattle.gates.specs.Circuit.{target, slot, power, Valid, valid_not, valid_powered}
use Rattle.gates.specs.Order.{Earlier, by_target, by_control, by_power}
use Rattle.gates.specs.Code.{code, assembled, gate, Code}

-- no valid gate has power 0
pub some_power : {n : ℕ} {g : Gate} → Valid n g → 1 ≤ power g
unfolding power
some_power (valid_not h) = omega arith
some_power (valid_powered a b c d e) = a

-- ---- the parts of a number

target_assembled : (p s t : ℕ) → target (assembled p s t) ≡ t
unfolding target assembled
target_assembled p zero t = refl
target_assembled p (suc c) t = refl

slot_assembled : (p s t : ℕ) → slot (assembled p s t) ≡ s
unfolding slot assembled
slot_assembled p zero t = refl
slot_assembled p (suc c) t = refl

power_assembled : (p s t : ℕ) → s ≢ 0 → power (assembled p s t) ≡ p
unfolding power assembled
power_assembled p zero t h = absurd (h refl)
power_assembled p (suc c) t h = refl

pub target_gate : (k : ℕ) → target (gate k) ≡ k / 132
unfolding gate
target_gate k = target_assembled (k % 4) (k / 4 % 33) (k / 132)

pub slot_gate : (k : ℕ) → slot (gate k) ≡ k / 4 % 33
unfolding gate
slot_gate k = slot_assembled (k % 4) (k / 4 % 33) (k / 132)

pub power_gate : (k : ℕ) → k / 4 % 33 ≢ 0 → power (gate k) ≡ k % 4
unfolding gate
power_gate k h = power_assembled (k % 4) (k / 4 % 33) (k / 132) h

pub gate_not : (k : ℕ) → k / 4 % 33 ≡ 0 → Not (k / 132) ≡ gate k
unfolding gate assembled
gate_not k e = rw e

pub gate_powered : (k c : ℕ) → k / 4 % 33 ≡ suc c → Powered (k % 4) c (k / 132) ≡ gate k
unfolding gate assembled
gate_powered k c e = rw e

pub code_not : (t : ℕ) → t * 33 * 4 + 2 ≡ code (Not t)
unfolding code target slot power
code_not t = omega arith

pub code_powered : (p c t : ℕ) → (t * 33 + c + 1) * 4 + p ≡ code (Powered p c t)
unfolding code target slot power
code_powered p c t = omega arith

-- ---- there and back

pub gate_code : {n : ℕ} {g : Gate} → n ≤ 32 → Valid n g → gate (code g) ≡ g
gate_code h (valid_not {t} a) =
    let k : ℕ = code (Not t) in
    let e : k ≡ t * 33 * 4 + 2 = sym (code_not t) in
    let u : k / 132 ≡ t = omega arith in
    sym (gate_not k (omega arith)) ∙ ap Not u
gate_code h (valid_powered {p} {c} {t} a b i j d) =
    let k : ℕ = code (Powered p c t) in
    let e : k ≡ (t * 33 + c + 1) * 4 + p = sym (code_powered p c t) in
    let u : k / 132 ≡ t = omega arith in
    let w : k % 4 ≡ p = omega arith in
    let q : k / 4 ≡ t * 33 + suc c = omega arith in
    let r : (t * 33 + suc c) % 33 ≡ suc c = omega (arith, h, i) in
    sym (gate_powered k c (ap (λ (m : ℕ). m % 33) q ∙ r)) ∙ rw (u, w)

pub code_code : {n : ℕ} {g : Gate} → n ≤ 32 → Valid n g → Code n (code g)
code_code {n} {g} h v = let e = gate_code h v in record { valid = rw e v; exact = ap code e }

-- different gates have different numbers
pub code_injective : {n : ℕ} {g h : Gate} → n ≤ 32 → Valid n g → Valid n h → code g ≡ code h → g ≡ h
code_injective l v w e = sym (gate_code l v) ∙ ap gate e ∙ gate_code l w

-- 32 lines have numbers below 4,224
code_below : {n : ℕ} {g : Gate} → n ≤ 32 → Valid n g → code g < 4224
code_below h (valid_not {t} a) = omega (arith, code_not t)
code_below h (valid_powered {p} {c} {t} a b i j d) = omega (arith, code_powered p c t)

pub below : {n k : ℕ} → n ≤ 32 → Code n k → k < 4224
below {n} {k} h w = let l = code_below h w.valid in omega (arith, w.exact)

-- ---- order

record Parts (g : Gate) : Type 0 where
  few : slot g ≤ 32
  small : power g ≤ 3

parts : {n : ℕ} {g : Gate} → n ≤ 32 → Valid n g → Parts g
unfolding slot power
parts h (valid_not a) = record { few = omega arith; small = omega arith }
parts h (valid_powered a b i j d) = record { few = omega arith; small = b }

earlier_less : {g h : Gate} → Parts g → Parts h → Earlier g h → code g < code h
unfolding code
earlier_less p q (by_target l) = omega arith
earlier_less p q (by_control e l) = omega arith
earlier_less p q (by_power e f l) = omega arith

less_earlier : {g h : Gate} → Parts g → Parts h → code g < code h → Earlier g h
unfolding code
less_earlier {g} {h} p q l = go (dec_lt (target g) (target h)) (dec_lt (slot g) (slot h))
  where
    go : Dec (target g < target h) → Dec (slot g < slot h) → Earlier g h
    go (yes a) d = by_target a
    go (no a) (yes b) = by_control (omega arith) b
    go (no a) (no b) = by_power (omega arith) (omega arith) (omega arith)

-- document 01's order of gates is the order of their numbers
pub earlier_code : {n : ℕ} {g h : Gate} → n ≤ 32 → Valid n g → Valid n h → Earlier g h ↔ (code g < code h)
earlier_code l v w = (λ e. earlier_less (parts l v) (parts l w) e, λ e. less_earlier (parts l v) (parts l w) e)
