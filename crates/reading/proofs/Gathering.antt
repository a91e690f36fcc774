-- The controls of an mct line, read and gathered one after the other: what the loop and one turn of it do. Assumes nothing.
use mathlib.Core.Path.{◌≡◌, refl}
use mathlib.Core.Bool.{Bool, true, false}
use mathlib.Core.List.{List, ◌∷◌}
use Prim.Native.Nat.{ℕ, zero, suc, ◌-◌, ◌≤◌, ◌<◌}
use native.Mathlib.Omega.{arith}
use lib.ListN.{length, drop}
use Rattle.cascades.specs.declared.Control.{Control}
use Rattle.text.specs.Reading.{Got, got, none, bind, control, controls}
use Rattle.gathering.specs.declared.Controls.{Controls}
use Rattle.gathering.specs.Gathering.{noted, noted_all}

module _ (s : List ℕ) (a : Controls) where
  -- what is gathered after a, of at most k controls from the place p on
  abbrev pub rest : ℕ → ℕ → Got Controls
  rest k p = bind (controls k (drop p s)) (λ cs. got (noted_all a cs))

  noted_first : (c : Control) (g : Got (List Control)) → bind (bind g (λ cs r. got (c ∷ cs) r)) (λ cs. got (noted_all a cs)) ≡ bind g (λ cs. got (noted_all (noted a c) cs))
  unfolding noted_all
  noted_first c (got cs r) = refl
  noted_first c none = refl

  pub rest_none : (k p : ℕ) → control (drop p s) ≡ none → rest k p ≡ none
  unfolding controls
  rest_none zero p e = refl
  rest_none (suc k) p e = rw e

  -- a control x was read, and whether another comes after it
  module _ (x : Control × Bool) where
    pub rest_last : (k p q : ℕ) → control (drop p s) ≡ got x (drop q s) → x.1 ≡ false → p < length s → length s - p ≤ k → rest k p ≡ got (noted a x.0) (drop q s)
    unfolding controls noted_all
    rest_last zero p q e f h l = absurd (omega arith)
    rest_last (suc k) p q e f h l = rw (e, f)

    pub rest_more : (k p q : ℕ) → control (drop p s) ≡ got x (drop q s) → x.1 ≡ true → p < length s → length s - p ≤ k
        → (j : ℕ) × (k ≡ suc j) × (rest k p ≡ bind (controls j (drop q s)) (λ cs. got (noted_all (noted a x.0) cs)))
    unfolding controls
    rest_more zero p q e f h l = absurd (omega arith)
    rest_more (suc k) p q e f h l = (k, refl, rw (e, f) (noted_first x.0 (controls k (drop q s))))
