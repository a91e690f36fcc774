-- The published order of spare lines: expansions on closed gates, by computation; and that the order is one choice of spare lines, for every gate
-- that has a line to spare. Assumes nothing.
use mathlib.Core.Path.{◌≡◌, refl}
use mathlib.Core.List.{List, [], ◌∷◌}
use Prim.Native.Nat.{ℕ, zero, suc, ◌/◌, ◌≤◌, ◌<◌}
use native.Mathlib.Omega.{arith}
use lib.ListN.{length, length-take, length-drop}
use Rattle.gates.specs.declared.Gate.{Gate}
use Rattle.gates.specs.declared.Gate.TheVariants.{Not, Powered}
use Rattle.gates.specs.Inverse.{inverse, inverted}
use Rattle.meaning.specs.Pattern.{has}
use Rattle.cascades.specs.Expansion.{◌⨾◌, cn, toffoli, joined, c0, c1, Expands, no_control, one_control, two_controls, more_controls, lines_outside, mct_spares, first_spare, m0_spares, m1_spares, expand, expand_with, expansion, Expandable}
use Rattle.cascades.specs.Control.{positive, negative, control_lines, negated_lines}
use Rattle.cascades.specs.Signs.{nots, between_nots, signed, expansion±}
use Rattle.cascades.specs.Cascade.{Controlled, expand_all, ExpandsAll, no_gate, next_gate, Below, AllExpandable}
use Rattle.cascades.specs.Spares.{Spared}
use Rattle.cascades.proofs.SpareLists.{five}
use Rattle.cascades.proofs.Spared.{first_unnamed, spared_m0, spared_m1, mct_spared}

-- ---- closed gates

-- `(mct (0 1) 2)`: v 1 2; cn 0 1; vp 1 2; cn 0 1; v 0 2
two_controls_in_order : expansion 3 [] (0 ∷ 1 ∷ []) 2 ≡ Powered 1 1 2 ∷ Powered 2 0 1 ∷ Powered 3 1 2 ∷ Powered 2 0 1 ∷ Powered 1 0 2 ∷ []
unfolding expansion expand_with expand ◌⨾◌
two_controls_in_order = refl

-- `(mct (0 1 2) 3)` on 5 lines, with the spare line 4
abbrev pub three_controls : List Gate
three_controls = expansion 5 [] (0 ∷ 1 ∷ 2 ∷ []) 3

-- v 4 3; M0, which is cn 0 4; vp 4 3; M1, the five gates for 1, 2 and 4; v 4 3; M2; vp 4 3; M3
three_controls_in_order : three_controls ≡
    Powered 1 4 3 ∷ Powered 2 0 4 ∷ Powered 3 4 3 ∷ Powered 1 2 4 ∷ Powered 2 1 2 ∷ Powered 3 2 4 ∷ Powered 2 1 2 ∷ Powered 1 1 4
    ∷ Powered 1 4 3 ∷ Powered 2 0 4 ∷ Powered 3 4 3 ∷ Powered 3 1 4 ∷ Powered 2 1 2 ∷ Powered 1 2 4 ∷ Powered 2 1 2 ∷ Powered 3 2 4 ∷ []
unfolding expansion expand_with expand mct_spares lines_outside has ◌⨾◌ joined inverse inverted
three_controls_in_order = refl

-- two gates in text order: `(mct (0) 1)` and `(mct () 0)`
two_gates_in_order : expand_all 2 [] (record { controls = positive 0 ∷ []; target = 1 } ∷ record { controls = []; target = 0 } ∷ []) ≡ Powered 2 0 1 ∷ Not 0 ∷ []
unfolding expand_all expansion± between_nots nots control_lines negated_lines expansion expand_with expand ◌⨾◌
two_gates_in_order = refl

-- `(mct (-0 1 -2) 3)` on 5 lines: not 0; not 2; the sixteen gates without signs; not 0; not 2
signed_in_order : expansion± 5 [] (negative 0 ∷ positive 1 ∷ negative 2 ∷ []) 3 ≡ Not 0 ∷ Not 2 ∷ three_controls ⨾ (Not 0 ∷ Not 2 ∷ [])
unfolding expansion± between_nots nots control_lines negated_lines ◌⨾◌
signed_in_order = refl

-- `(mct (0 1 2 3 4) 5)` on 8 lines borrows 6; its M1 borrows 7
five_in_order : expansion 8 [] five 5 ≡ joined 6 5 (toffoli 0 1 6) (joined 7 6 (cn 2 7) (toffoli 3 4 7))
unfolding expansion expand_with expand mct_spares lines_outside has
five_in_order = refl

-- `(mct (0 1 2 3 4 5 6 7) 8)` on 11 lines (document 001, figure 5) borrows 9; its M0 borrows t, which is 8, and its M1 the next spare, 10
eight_in_order : expansion 11 [] (0 ∷ 1 ∷ 2 ∷ 3 ∷ 4 ∷ 5 ∷ 6 ∷ 7 ∷ []) 8 ≡ joined 9 8 (joined 8 9 (toffoli 0 1 8) (toffoli 2 3 8)) (joined 10 9 (toffoli 4 5 10) (toffoli 6 7 10))
unfolding expansion expand_with expand mct_spares lines_outside has
eight_in_order = refl

-- the same gate on 10 lines: its M1 has no further spare, and borrows the first control of C0
eight_one_spare : expansion 10 [] (0 ∷ 1 ∷ 2 ∷ 3 ∷ 4 ∷ 5 ∷ 6 ∷ 7 ∷ []) 8 ≡ joined 9 8 (joined 8 9 (toffoli 0 1 8) (toffoli 2 3 8)) (joined 0 9 (toffoli 4 5 0) (toffoli 6 7 0))
unfolding expansion expand_with expand mct_spares lines_outside has
eight_one_spare = refl

-- `(mct (0 1 2) 3)` on 6 lines with `(keep 4)` borrows 5
three_keeping_4 : expansion 6 (4 ∷ []) (0 ∷ 1 ∷ 2 ∷ []) 3 ≡ joined 5 3 (cn 0 5) (toffoli 1 2 5)
unfolding expansion expand_with expand mct_spares lines_outside has
three_keeping_4 = refl

-- `(mct (0 1 2 3 4) 5)` on 8 lines with `(keep 6)` borrows 7, and its M1 a control, 0; with `(keep 0 6)` too: the mct names 0
five_keeping_6 : expansion 8 (6 ∷ []) five 5 ≡ joined 7 5 (toffoli 0 1 7) (joined 0 7 (cn 2 0) (toffoli 3 4 0))
unfolding expansion expand_with expand mct_spares lines_outside has
five_keeping_6 = refl

five_keeping_0_and_6 : expansion 8 (0 ∷ 6 ∷ []) five 5 ≡ expansion 8 (6 ∷ []) five 5
unfolding expansion expand_with expand mct_spares lines_outside has
five_keeping_0_and_6 = refl

-- ---- one choice of spare lines

module _ (n : ℕ) where
  expand_expands : (f : ℕ) (sp cs : List ℕ) (t : ℕ) → length cs < f → Spared n sp cs t → Expands n cs t (expand f sp cs t)
  unfolding expand
  expand_expands zero sp cs t h w = absurd (omega arith)
  expand_expands (suc f) sp [] t h w = no_control t
  expand_expands (suc f) sp (a ∷ []) t h w = one_control a t
  expand_expands (suc f) sp (a ∷ b ∷ []) t h w = two_controls a b t
  expand_expands (suc f) sp (a ∷ b ∷ c ∷ cs) t h w =
      let l : List ℕ = a ∷ b ∷ c ∷ cs in
      let s : ℕ = first_spare sp in
      let k : 3 ≤ length l = omega arith in
      let free = first_unnamed n k w in
      more_controls {cs = l} s k free.0 free.1
      (expand_expands f (m0_spares sp l t) (c0 l) s (omega (arith, length-take (length l / 2) l)) (spared_m0 n k w))
      (expand_expands f (m1_spares sp l) (c1 l) s (omega (arith, length-drop (length l / 2) l)) (spared_m1 n k w))

  -- with any list of spares that are different lines of the n, none of which the gate names
  pub expand_with_expands : (sp cs : List ℕ) (t : ℕ) → Spared n sp cs t → Expands n cs t (expand_with sp cs t)
  unfolding expand_with
  expand_with_expands sp cs t w = expand_expands (suc (length cs)) sp cs t (omega arith) w

  -- so also without the kept lines
  module _ (kept : List ℕ) where
    pub expansion_expands : (cs : List ℕ) (t : ℕ) → Expandable n kept cs t → Below n cs → Expands n cs t (expansion n kept cs t)
    unfolding expansion
    expansion_expands cs t w b = expand_with_expands (mct_spares n kept cs t) cs t (mct_spared n kept w b)

    pub expand_all_expands : (gs : List Controlled) → AllExpandable n kept gs → ExpandsAll n gs (expand_all n kept gs)
    unfolding expand_all AllExpandable expansion±
    expand_all_expands [] w = no_gate
    expand_all_expands (g ∷ gs) w = next_gate (signed (expansion_expands (control_lines g.controls) g.target w.0.0 w.0.1)) (expand_all_expands gs w.1)
