-- An expansion, with any choice of spare lines, is a circuit on the lines of its gate. Assumes nothing.
use mathlib.Core.Path.{sym}
use mathlib.Core.Logic.{◌≢◌}
use mathlib.Core.List.{List, [], ◌∷◌}
use Prim.Native.Nat.{ℕ, ◌≤◌, ◌<◌}
use native.Mathlib.Omega.{arith}
use Rattle.gates.specs.declared.Gate.{Gate}
use Rattle.gates.specs.declared.Gate.TheVariants.{Powered}
use Rattle.gates.specs.Circuit.{valid_not, valid_powered, AllValid}
use Rattle.gates.proofs.Reach.{all_valid_append}
use Rattle.gates.proofs.Inverses.{all_valid_inverse}
use Rattle.cascades.specs.Expansion.{◌⨾◌, joined, toffoli, Expands, no_control, one_control, two_controls, more_controls}
use Rattle.cascades.specs.Cascade.{Below, OnLines}
use Rattle.cascades.proofs.Halves.{out_cons, distinct_two, halves_on_lines}

module _ (n : ℕ) where
  -- ---- valid circuits

  valid_then : (a b : List Gate) → AllValid n a → AllValid n b → AllValid n (a ⨾ b)
  unfolding ◌⨾◌
  valid_then a b f h = all_valid_append n a b f h

  valid_one : (p c t : ℕ) → 1 ≤ p → p ≤ 3 → c < n → t < n → c ≢ t → AllValid n (Powered p c t ∷ [])
  valid_one p c t a b h k d = (valid_powered a b h k d, tt)

  valid_toffoli : (a b t : ℕ) → a < n → b < n → t < n → a ≢ b → a ≢ t → b ≢ t → AllValid n (toffoli a b t)
  valid_toffoli a b t la lb lt ab at bt =
      let first = valid_one 1 b t (omega arith) (omega arith) lb lt bt in
      let between = valid_one 2 a b (omega arith) (omega arith) la lb ab in
      let third = valid_one 3 b t (omega arith) (omega arith) lb lt bt in
      let last = valid_one 1 a t (omega arith) (omega arith) la lt at in
      valid_then _ _ first (valid_then _ _ between (valid_then _ _ third (valid_then _ _ between last)))

  valid_joined : (s t : ℕ) (m l : List Gate) → s < n → t < n → s ≢ t → AllValid n m → AllValid n l → AllValid n (joined s t m l)
  unfolding joined
  valid_joined s t m l a b d f h =
      let root = valid_one 1 s t (omega arith) (omega arith) a b d in
      let back = valid_one 3 s t (omega arith) (omega arith) a b d in
      valid_then _ _ root (valid_then _ _ f (valid_then _ _ back (valid_then _ _ h (valid_then _ _ root (valid_then _ _ (all_valid_inverse n m f) (valid_then _ _ back (all_valid_inverse n l h)))))))

  -- ---- expansions

  pub expands_valid : {cs : List ℕ} {t : ℕ} {c : List Gate} → OnLines n cs t → Expands n cs t c → AllValid n c
  unfolding Below
  expands_valid w (no_control t) = (valid_not w.line, tt)
  expands_valid w (one_control a t) = valid_one 2 a t (omega arith) (omega arith) w.below.0 w.line (out_cons t a [] w.other).0
  expands_valid w (two_controls a b t) =
      let at = out_cons t a (b ∷ []) w.other in
      let bt = out_cons t b [] at.1 in
      valid_toffoli a b t w.below.0 w.below.1.0 w.line (distinct_two a b w.apart) at.0 bt.0
  expands_valid w (more_controls {cs} {t} {m0} {m1} s k sn out e0 e1) =
      let h = halves_on_lines n s w sn out in
      let st : s ≢ t = λ r. (out_cons s t cs out).0 (sym r) in
      valid_joined s t m0 m1 sn w.line st (expands_valid h.0 e0) (expands_valid h.1 e1)
