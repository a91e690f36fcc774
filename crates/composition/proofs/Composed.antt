-- The inverse on numbers of gates is the inverse of the circuit. Assumes nothing.
use mathlib.Core.Path.{◌≡◌, refl, ap, ◌∙◌}
use mathlib.Core.List.{List, [], ◌∷◌, ◌++◌, map, reverse}
use Prim.Native.Nat.{ℕ, ◌≤◌}
use Rattle.std.proofs.lemmas.List.{reverse-append}
use Rattle.gates.specs.Inverse.{inverse, inverted}
use Rattle.gates.specs.Code.{code, gate, gates, AllCodes}
use Rattle.gates.proofs.Inverses.{valid_inverted}
use Rattle.gates.proofs.Codes.{gate_code, code_code}
use Rattle.gates.proofs.CodeLists.{gates_append, all_codes_append}
use Rattle.composition.specs.Composition.{inverse_codes}

-- ---- as circuits

module _ (n : ℕ) where
  pub gates_inverse : (l : List ℕ) → n ≤ 32 → AllCodes n l → gates (inverse_codes l) ≡ inverse (gates l)
  unfolding inverse_codes inverse
  gates_inverse [] b w = refl
  gates_inverse (k ∷ l) b w =
      gates_append (inverse_codes l) (code (inverted (gate k)) ∷ [])
      ∙ rw (gates_inverse l b w.1, gate_code b (valid_inverted w.0.valid))

  pub all_codes_inverse : (l : List ℕ) → n ≤ 32 → AllCodes n l → AllCodes n (inverse_codes l)
  unfolding inverse_codes
  all_codes_inverse [] b w = tt
  all_codes_inverse (k ∷ l) b w =
      all_codes_append n (inverse_codes l) (code (inverted (gate k)) ∷ []) (all_codes_inverse l b w.1) (code_code b (valid_inverted w.0.valid), tt)

-- ---- in two steps

-- the number of the inverted gate
abbrev pub inverse_code : ℕ → ℕ
inverse_code k = code (inverted (gate k))

-- v and vp exchanged in each, then reversed
pub inverse_codes_reversed : (l : List ℕ) → reverse (map inverse_code l) ≡ inverse_codes l
unfolding inverse_codes
inverse_codes_reversed [] = refl
inverse_codes_reversed (k ∷ l) = reverse-append (inverse_code k ∷ []) (map inverse_code l) ∙ ap (λ m. m ++ (inverse_code k ∷ [])) (inverse_codes_reversed l)
