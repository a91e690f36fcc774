-- Closed examples, by computation: the reduced list for two controls, document 01's example on 5 lines, the sixteen counts, and what a gate with
-- mixed controls makes of every pattern. Assumes nothing.
use mathlib.Core.Path.{◌≡◌, refl}
use mathlib.Core.List.{List, [], ◌∷◌, ◌++◌, map}
use Prim.Native.Nat.{ℕ, zero, suc}
use native.Mathlib.Decide.{ℕ_discrete, dec_lt}
use lib.ListN.{length}
use Rattle.gates.specs.declared.Gate.TheVariants.{Powered}
use Rattle.gates.specs.Circuit.{target, slot, power, powered}
use Rattle.gates.specs.Inverse.{inverse, inverted}
use Rattle.gates.proofs.Pushing.{merged, passes_dec, same_dec, less_dec, free_dec, turn_of, turn, place, push}
use Rattle.gates.proofs.Theorem.{nf}
use Rattle.meaning.specs.Pattern.{flip, pattern, number, has}
use Rattle.cascades.specs.Expansion.{◌⨾◌, joined, lines_outside, mct_spares, expand, expand_with, expansion, counts}
use Rattle.cascades.specs.Control.{positive, negative, met, all_met, mct±}
use Rattle.cascades.proofs.Published.{three_controls}

-- the reduced list of `(mct (0 1) 2)`
two_controls_reduced : nf (expansion 3 [] (0 ∷ 1 ∷ []) 2) ≡ Powered 1 0 2 ∷ Powered 1 1 2 ∷ Powered 2 0 1 ∷ Powered 3 1 2 ∷ Powered 2 0 1 ∷ []
unfolding expansion expand_with expand ◌⨾◌ target slot power powered same_dec less_dec passes_dec merged free_dec turn_of turn place push nf ℕ_discrete dec_lt
two_controls_reduced = refl

-- 5 lines, `(mct (0 1 2) 3)`: spare 4, expansion 16, quote 14
three_controls_spare : mct_spares 5 [] (0 ∷ 1 ∷ 2 ∷ []) 3 ≡ 4 ∷ []
unfolding mct_spares lines_outside has
three_controls_spare = refl

three_controls_count : length three_controls ≡ 16
unfolding expansion expand_with expand ◌⨾◌ joined inverse
three_controls_count = refl

three_controls_quote : length (nf three_controls) ≡ 14
unfolding expansion expand_with expand mct_spares lines_outside has ◌⨾◌ joined inverse inverted target slot power powered same_dec less_dec passes_dec merged free_dec turn_of turn place push nf ℕ_discrete dec_lt
three_controls_quote = refl

-- the lines below k, rising
rising : ℕ → List ℕ
rising zero = []
rising (suc k) = rising k ++ (k ∷ [])

-- the table, counted on expansions on 17 lines with the controls 0 to k-1 and the target k, for k = 0 to 15
table : map (λ k. length (expansion 17 [] (rising k) k)) (rising 16) ≡ counts
unfolding expansion expand_with expand mct_spares lines_outside has ◌⨾◌ joined inverse inverted rising
table = refl

-- `(mct (-0 1) 2)` flips line 2 exactly if line 0 is 0 and line 1 is 1: what it makes of the eight patterns of three lines, by their numbers
mixed_pattern : map (λ k. number 3 (mct± (negative 0 ∷ positive 1 ∷ []) 2 (pattern k))) (rising 8) ≡ 0 ∷ 1 ∷ 6 ∷ 3 ∷ 4 ∷ 5 ∷ 2 ∷ 7 ∷ []
unfolding mct± all_met met flip number pattern rising
mixed_pattern = refl
