-- The expansion of a gate with spares is a circuit of 32 lines, and the numbers that it is written as. Assumes nothing.
use mathlib.Core.List.{List, map}
use Prim.Native.Nat.{ℕ}
use native.Mathlib.Nat.{le_refl}
use Rattle.gates.specs.Circuit.{AllValid}
use Rattle.gates.specs.Code.{code, AllCodes}
use Rattle.gates.proofs.CodeLists.{all_codes_code}
use Rattle.cascades.specs.Expansion.{expand_with}
use Rattle.cascades.specs.Spares.{Spared}
use Rattle.cascades.proofs.Spared.{spared_on_lines}
use Rattle.cascades.proofs.Published.{expand_with_expands}
use Rattle.cascades.proofs.Valid.{expands_valid}

pub spared_fits : {sp cs : List ℕ} {t : ℕ} → Spared 32 sp cs t → AllValid 32 (expand_with sp cs t)
spared_fits {sp} {cs} {t} w = expands_valid 32 (spared_on_lines 32 w) (expand_with_expands 32 sp cs t w)

pub spared_codes : {sp cs : List ℕ} {t : ℕ} → Spared 32 sp cs t → AllCodes 32 (map code (expand_with sp cs t))
spared_codes {sp} {cs} {t} w = all_codes_code 32 (expand_with sp cs t) (le_refl 32) (spared_fits w)
