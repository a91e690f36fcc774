-- Two gates by their numbers: when they have one site and when they pass, and what two of one site merge to. Assumes nothing.
use mathlib.Core.Path.{◌≡◌, refl, sym, ap, ◌∙◌}
use mathlib.Core.Logic.{◌≢◌}
use mathlib.Core.List.{[], ◌∷◌}
use Prim.Native.Nat.{ℕ, zero, suc, ◌+◌, ◌*◌, ◌/◌, ◌%◌}
use native.Mathlib.Omega.{arith}
use Rattle.gates.specs.declared.Gate.TheVariants.{Not, Powered}
use Rattle.gates.specs.Circuit.{powered, Passes}
use Rattle.gates.specs.Code.{code, gate, Code, total, joined}
use Rattle.gates.proofs.Codes.{target_gate, slot_gate, gate_not, gate_powered, code_not, code_powered}
use Rattle.gates.specs.Sites.{Same}
use Rattle.gates.proofs.Pushing.{merged}
use Rattle.gates.proofs.Merge.{powered_one, merged_powered, merged_not, all_valid_merged}

-- ---- sites

pub one_site : (a g : ℕ) → a / 4 ≡ g / 4 → Same (gate a) (gate g)
one_site a g e = record {
  targets = omega (arith, target_gate a, target_gate g);
  controls = omega (arith, slot_gate a, slot_gate g);
}

pub same_site : (a g : ℕ) → Same (gate a) (gate g) → a / 4 ≡ g / 4
same_site a g s = omega (arith, target_gate a, target_gate g, slot_gate a, slot_gate g)

-- gates of the sites s and x pass: neither's target is the other's control
pub record Clear (s x : ℕ) : Type 0 where
  pub there : s / 33 + 1 ≢ x % 33
  pub back : x / 33 + 1 ≢ s % 33

pub clear_passes : (g x : ℕ) → Clear (g / 4) (x / 4) → Passes (gate g) (gate x)
clear_passes g x c = omega (arith, target_gate g, target_gate x, slot_gate g, slot_gate x)

pub passes_clear : (g x : ℕ) → Passes (gate g) (gate x) → Clear (g / 4) (x / 4)
passes_clear g x c = omega (arith, target_gate g, target_gate x, slot_gate g, slot_gate x)

-- ---- merging

not_powers : (a : ℕ) → Code 32 a → a / 4 % 33 ≡ 0 → a % 4 ≡ 2
not_powers a w s = let e : code (Not (a / 132)) ≡ a = ap code (gate_not a s) ∙ w.exact in omega (arith, code_not (a / 132))

module _ (a g : ℕ) (wa : Code 32 a) (wg : Code 32 g) (e : a / 4 ≡ g / 4) where
  merged_nots : a / 4 % 33 ≡ 0 → (merged (gate a) (gate g) ≡ []) × (total a g ≡ 0)
  merged_nots s =
      let z : g / 4 % 33 ≡ 0 = ap (λ (q : ℕ). q % 33) (sym e) ∙ s in
      (rw (← gate_not a s, ← gate_not g z) (merged_not (a / 132) (g / 132)), omega (arith, not_powers a wa s, not_powers g wg z))

  merged_total : (c : ℕ) → a / 4 % 33 ≡ suc c → merged (gate a) (gate g) ≡ powered (total a g) c (a / 132)
  merged_total c s =
      let z : g / 4 % 33 ≡ suc c = ap (λ (q : ℕ). q % 33) (sym e) ∙ s in
      let t : g / 132 ≡ a / 132 = omega arith in
      let k : Powered (g % 4) c (a / 132) ≡ gate g = ap (λ (u : ℕ). Powered (g % 4) c u) (sym t) ∙ gate_powered g c z in
      rw (← gate_powered a c s, ← k) (merged_powered (a % 4) (g % 4) c (a / 132))

  joined_slot : joined a g / 4 % 33 ≡ a / 4 % 33
  joined_slot = let q : joined a g / 4 ≡ a / 4 = omega arith in ap (λ (k : ℕ). k % 33) q

  gate_joined : (c : ℕ) → a / 4 % 33 ≡ suc c → Powered (total a g) c (a / 132) ≡ gate (joined a g)
  gate_joined c s =
      let p : joined a g % 4 ≡ total a g = omega arith in
      let t : joined a g / 132 ≡ a / 132 = omega arith in
      ap (λ (m : ℕ). Powered m c (a / 132)) (sym p) ∙ ap (λ (u : ℕ). Powered (joined a g % 4) c u) (sym t) ∙ gate_powered (joined a g) c (joined_slot ∙ s)

  pub merged_none : total a g ≡ 0 → merged (gate a) (gate g) ≡ []
  unfolding powered
  merged_none z = go (a / 4 % 33) refl
    where
      go : (s : ℕ) → a / 4 % 33 ≡ s → merged (gate a) (gate g) ≡ []
      go zero s = (merged_nots s).0
      go (suc c) s = merged_total c s ∙ ap (λ (m : ℕ). powered m c (a / 132)) z

  pub merged_one : (total a g ≡ 0 → ⊥) → merged (gate a) (gate g) ≡ gate (joined a g) ∷ []
  merged_one z = go (a / 4 % 33) refl
    where
      go : (s : ℕ) → a / 4 % 33 ≡ s → merged (gate a) (gate g) ≡ gate (joined a g) ∷ []
      go zero s = absurd (z (merged_nots s).1)
      go (suc c) s = merged_total c s ∙ powered_one (total a g) c (a / 132) (let d = z in omega arith) ∙ ap (λ k. k ∷ []) (gate_joined c s)

  pub code_joined : (total a g ≡ 0 → ⊥) → Code 32 (joined a g)
  code_joined z = record { valid = (rw (merged_one z) at (all_valid_merged (gate g) wa.valid)).0; exact = go (a / 4 % 33) refl }
    where
      go : (s : ℕ) → a / 4 % 33 ≡ s → code (gate (joined a g)) ≡ joined a g
      go zero s = absurd (z (merged_nots s).1)
      go (suc c) s = let q : a / 4 ≡ a / 132 * 33 + suc c = omega arith in sym (ap code (gate_joined c s)) ∙ sym (code_powered (total a g) c (a / 132)) ∙ omega arith
