-- The inverse of a gate, on its number. Assumes nothing.
use mathlib.Core.Path.{◌≡◌, refl, sym, ap, ◌∙◌}
use mathlib.Core.Logic.{◌≢◌}
use Prim.Native.Nat.{ℕ, zero, suc, ◌+◌, ◌*◌, ◌-◌, ◌/◌, ◌%◌, ◌≤◌}
use native.Mathlib.Omega.{arith}
use Rattle.gates.specs.declared.Gate.TheVariants.{Powered}
use Rattle.gates.specs.Inverse.{inverted}
use Rattle.gates.specs.Code.{code, gate, Code}
use Rattle.gates.proofs.Codes.{power_gate, gate_not, gate_powered, code_powered, some_power}

pub inverted_not : (k : ℕ) → Code 32 k → k / 4 % 33 ≡ 0 → k ≡ code (inverted (gate k))
unfolding inverted
inverted_not k w e = sym w.exact ∙ ap code (rw (← gate_not k e))

powered_code : (p c t : ℕ) → 1 ≤ p → p ≤ 3 → code (inverted (Powered p c t)) ≡ (t * 33 + c + 1) * 4 + (4 - p)
unfolding inverted
powered_code p c t a b = let e : (4 - p) % 4 ≡ 4 - p = omega arith in rw e (sym (code_powered (4 - p) c t))

pub inverted_powered : (k : ℕ) → Code 32 k → k / 4 % 33 ≢ 0 → k / 4 * 4 + (4 - k % 4) ≡ code (inverted (gate k))
inverted_powered k w h = go (k / 4 % 33) refl
  where
    go : (s : ℕ) → k / 4 % 33 ≡ s → k / 4 * 4 + (4 - k % 4) ≡ code (inverted (gate k))
    go zero e = absurd (h e)
    go (suc c) e =
        let g = gate_powered k c e in
        let p : 1 ≤ k % 4 = omega (arith, some_power w.valid, power_gate k h) in
        let q : (k / 132 * 33 + c + 1) * 4 + (4 - k % 4) ≡ k / 4 * 4 + (4 - k % 4) = omega arith in
        sym (rw (← g) (powered_code (k % 4) c (k / 132) p (omega arith) ∙ q))
