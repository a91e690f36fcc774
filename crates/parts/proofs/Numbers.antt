-- Which numbers are gates' on 32 lines, and that what is read of a number is settled by it. Assumes nothing.
use mathlib.Core.Path.{◌≡◌, refl, sym, ap, subst, ◌∙◌}
use mathlib.Core.Logic.{◌≢◌}
use mathlib.Core.Bool.{Bool, true, false, not}
use mathlib.Core.List.{List}
use Prim.Native.Nat.{ℕ, zero, suc, ◌+◌, ◌*◌, ◌/◌, ◌%◌, ◌≤◌, ◌<◌}
use native.Mathlib.Omega.{arith}
use lib.Dec.{eqb}
use borrow.Author.Tests.{eqb-true, eqb-false}
use Rattle.gates.specs.Circuit.{valid_not, valid_powered}
use Rattle.gates.specs.Code.{code, gate, Code}
use Rattle.gates.proofs.Sites.{passes_self}
use Rattle.gates.proofs.Codes.{target_gate, slot_gate, power_gate, gate_not, gate_powered, code_not, code_powered, code_code, code_injective, below, some_power}
use Rattle.gates.specs.Whether.{Whether}
use Rattle.parts.specs.Parts.{three, gate_parts, RecordParts, of_gate, of_none}

-- ---- which numbers are gates'

module _ (k : ℕ) where
  pub none_above : 4224 ≤ k → Code 32 k → ⊥
  none_above h w = omega (arith, below {n = 32} (omega arith) w)

  -- slot 0: a NOT, of power 2
  pub whether_not : k < 4224 → k / 4 % 33 ≡ 0 → Whether (Code 32 k) (eqb (k % 4) 2)
  whether_not h z = go (eqb (k % 4) 2) refl
    where
      number : k / 132 * 33 * 4 + 2 ≡ code (gate k)
      number = rw (← gate_not k z) (code_not (k / 132))

      go : (b : Bool) → eqb (k % 4) 2 ≡ b → Whether (Code 32 k) b
      go true p =
          let e = eqb-true (k % 4) 2 p in
          record { valid = rw (← gate_not k z) (valid_not {t = k / 132} (omega arith)); exact = omega (arith, number) }
      go false p = λ w. eqb-false (k % 4) 2 p (omega (arith, number, w.exact))

  -- no power 0
  pub none_unpowered : k / 4 % 33 ≢ 0 → k % 4 ≡ 0 → Code 32 k → ⊥
  none_unpowered h z w = omega (arith, power_gate k h, some_power w.valid)

  -- a control that is not the target
  pub whether_powered : k < 4224 → k / 4 % 33 ≢ 0 → k % 4 ≢ 0 → Whether (Code 32 k) (not (eqb (k / 4 % 33) (k / 132 + 1)))
  whether_powered h z p = go (eqb (k / 4 % 33) (k / 132 + 1)) refl
    where
      coded : (c : ℕ) → k / 4 % 33 ≡ suc c → c ≢ k / 132 → Code 32 k
      coded c e d = record {
        valid = rw (← gate_powered k c e) (valid_powered {p = k % 4} {c = c} {t = k / 132} (omega arith) (omega arith) (omega arith) (omega arith) d);
        exact = rw (← gate_powered k c e) (sym (code_powered (k % 4) c (k / 132)) ∙ omega arith);
      }

      go : (b : Bool) → eqb (k / 4 % 33) (k / 132 + 1) ≡ b → Whether (Code 32 k) (not b)
      go true q = λ w. omega (arith, eqb-true (k / 4 % 33) (k / 132 + 1) q, passes_self w.valid, slot_gate k, target_gate k)
      go false q = slotted (k / 4 % 33) refl
        where
          slotted : (s : ℕ) → k / 4 % 33 ≡ s → Code 32 k
          slotted zero e = absurd (z e)
          slotted (suc c) e = coded c e (λ d. eqb-false (k / 4 % 33) (k / 132 + 1) q (omega (arith, e, d)))

-- ---- what is read of a number

pub reads_gate : (k : ℕ) → Code 32 k → RecordParts k (gate_parts (gate k))
reads_gate k w = of_gate w.valid w.exact

pub reads_none : (k : ℕ) → (Code 32 k → ⊥) → RecordParts k (three 0 0 0)
reads_none k h = of_none (λ g v e. h (subst (Code 32) e (code_code {n = 32} (omega arith) v)))

-- it is settled by the number
pub parts_one : {k : ℕ} {p q : List ℕ} → RecordParts k p → RecordParts k q → p ≡ q
parts_one (of_gate v e) (of_gate w f) = ap gate_parts (code_injective {n = 32} (omega arith) v w (e ∙ sym f))
parts_one (of_gate {g} v e) (of_none h) = absurd (h g v e)
parts_one (of_none h) (of_gate {g} v e) = absurd (h g v e)
parts_one (of_none h) (of_none i) = refl
