-- Cascades as they were before controls had signs (the definitions of then, with the spare lines of now; `Lowest.antt` has those of then), and that
-- nothing changed for them: a cascade without a sign has the same pattern and the same expansion, and is realised by the same circuits.
-- Assumes nothing.
use mathlib.Core.Path.{◌≡◌, refl, ◌∙◌, ap, fun_ext}
use mathlib.Core.Logic.{◌↔◌, ◌≢◌}
use mathlib.Core.Bool.{true, false}
use mathlib.Core.List.{List, [], ◌∷◌, map, append-nil}
use Prim.Native.Nat.{ℕ, ◌<◌}
use Rattle.gates.specs.declared.Gate.{Gate}
use Rattle.meaning.specs.Amplitude.{one, nought, doubled}
use Rattle.meaning.specs.Pattern.{Pattern, holds, mct, has}
use Rattle.meaning.specs.State.{run, powered_gates}
use Rattle.cascades.specs.Expansion.{◌⨾◌, expansion}
use Rattle.cascades.specs.Control.{Control, positive, met, all_met, mct±, control_lines, negated_lines}
use Rattle.cascades.specs.Signs.{nots, between_nots, expansion±}
use Rattle.cascades.specs.Cascade as now
use Rattle.cascades.specs.Cascade.{agree, basis}

-- ---- the definitions of then

pub record Controlled : Type 0 where
  pub controls : List ℕ
  pub target : ℕ

unfoldable pub after : List Controlled → Pattern → Pattern
after [] y = y
after (g ∷ gs) y = after gs (mct g.controls g.target y)

unfoldable pub expand_all : ℕ → List Controlled → List Gate
expand_all n [] = []
expand_all n (g ∷ gs) = expansion n [] g.controls g.target ⨾ expand_all n gs

unfoldable pub targets : List Controlled → List ℕ
targets [] = []
targets (g ∷ gs) = g.target ∷ targets gs

pub record Realises (n : ℕ) (gs : List Controlled) (c : List Gate) : Type 0 where
  pub state : (y : Pattern) → run c (basis n y) ≡ (λ x. doubled (powered_gates c) (basis n (after gs y) x))
  pub there : (y x : Pattern) → agree n x (after gs y) ≡ true → run c (basis n y) x ≡ doubled (powered_gates c) one
  pub elsewhere : (y x : Pattern) → agree n x (after gs y) ≡ false → run c (basis n y) x ≡ nought
  pub restored : (y : Pattern) (i : ℕ) → has i (targets gs) ≡ false → after gs y i ≡ y i
  pub undisturbed : (y x : Pattern) (i : ℕ) → i < n → has i (targets gs) ≡ false → x i ≢ y i → run c (basis n y) x ≡ nought

-- ---- controls without a sign

-- lines as controls of now
abbrev pub positives : List ℕ → List Control
positives cs = map positive cs

pub positive_lines : (cs : List ℕ) → control_lines (positives cs) ≡ cs
unfolding control_lines
positive_lines [] = refl
positive_lines (c ∷ cs) = rw (positive_lines cs)

pub none_negated : (cs : List ℕ) → negated_lines (positives cs) ≡ []
unfolding negated_lines
none_negated [] = refl
none_negated (c ∷ cs) = none_negated cs

positives_met : (cs : List ℕ) (x : Pattern) → all_met (positives cs) x ≡ holds cs x
unfolding all_met met holds
positives_met [] x = refl
positives_met (c ∷ cs) x = rw (positives_met cs x)

positives_mct : (cs : List ℕ) (t : ℕ) (x : Pattern) → mct± (positives cs) t x ≡ mct cs t x
unfolding mct± mct
positives_mct cs t x = rw (positives_met cs x)

-- no NOT is put in where no control is negated
pub signless_expansion : (n : ℕ) (kept : List ℕ) (cs : List Control) (t : ℕ) → negated_lines cs ≡ [] → expansion± n kept cs t ≡ expansion n kept (control_lines cs) t
unfolding expansion± between_nots nots ◌⨾◌
signless_expansion n kept cs t e = rw e (append-nil (expansion n kept (control_lines cs) t))

-- ---- cascades without a sign

-- the cascade as one of now
abbrev pub signless : List Controlled → List now.Controlled
signless gs = map (λ g. record { controls = positives g.controls; target = g.target }) gs

pub pattern_before : (gs : List Controlled) (y : Pattern) → now.after (signless gs) y ≡ after gs y
unfolding now.after after
pattern_before [] y = refl
pattern_before (g ∷ gs) y = ap (now.after (signless gs)) (positives_mct g.controls g.target y) ∙ pattern_before gs (mct g.controls g.target y)

pub expanded_before : (n : ℕ) (gs : List Controlled) → now.expand_all n [] (signless gs) ≡ expand_all n gs
unfolding now.expand_all expand_all
expanded_before n [] = refl
expanded_before n (g ∷ gs) =
    let e : expansion± n [] (positives g.controls) g.target ≡ expansion n [] g.controls g.target =
    rw (signless_expansion n [] (positives g.controls) g.target (none_negated g.controls), positive_lines g.controls) in
    rw (e, expanded_before n gs)

targets_before : (gs : List Controlled) → now.targets (signless gs) ≡ targets gs
unfolding now.targets targets
targets_before [] = refl
targets_before (g ∷ gs) = rw (targets_before gs)

-- what a circuit has to do to realise it
pub realised_before : (n : ℕ) (gs : List Controlled) (c : List Gate) → now.Realises n (signless gs) c ↔ Realises n gs c
realised_before n gs c = (
  λ r. record { state = rw same at r.state; there = rw same at r.there; elsewhere = rw same at r.elsewhere; restored = rw (same, lines) at r.restored; undisturbed = rw lines at r.undisturbed },
  λ r. record { state = rw same r.state; there = rw same r.there; elsewhere = rw same r.elsewhere; restored = rw (same, lines) r.restored; undisturbed = rw lines r.undisturbed },
)
  where
    same : now.after (signless gs) ≡ after gs
    same = fun_ext (pattern_before gs)

    lines : now.targets (signless gs) ≡ targets gs
    lines = targets_before gs
