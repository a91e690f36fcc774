-- Selections from closed circuits. Assumes nothing.
use mathlib.Core.List.{[], ◌∷◌}
use native.Mathlib.Omega.{arith}
use Rattle.gates.specs.declared.Gate.{Gate}
use Rattle.gates.specs.declared.Gate.TheVariants.{Not}
use Rattle.gates.specs.Circuit.{target, slot}
use Rattle.gates.specs.Sites.{Same, Less, low, tie, Free, free_nil, free_cons, here, there}
use Rattle.gates.proofs.Examples.{cn}
use Rattle.selection.specs.Selection.{First, Selects, nothing, select}

-- a site that comes before g is not that of a gate that does not come before g
not_before : {g a s : Gate} → (Less a g → ⊥) → Same a s → Less s g → ⊥
not_before n e (low h) = n (low (omega arith))
not_before n e (tie t h) = n (tie (omega arith) (omega arith))

alone : (g : Gate) → (Less g g → ⊥) → First g (g ∷ [])
alone g n s (here e) l = not_before n e l
alone g n s (there _ x) l = elim x [ ]

-- cn 0 1; not 1: both are in front, and the NOT comes before control 0
not_first : First (Not 1) (cn 0 1 ∷ Not 1 ∷ [])
unfolding target slot
not_first s (here e) l = not_before {g = Not 1} {a = cn 0 1} later e l
  where
    later : Less (cn 0 1) (Not 1) → ⊥
    later (low h) = omega arith
    later (tie t h) = omega arith
not_first s (there p (here e)) l = not_before {g = Not 1} {a = Not 1} same e l
  where
    same : Less (Not 1) (Not 1) → ⊥
    same (low h) = omega arith
    same (tie t h) = omega arith
not_first s (there p (there _ x)) l = elim x [ ]

not_then_cn : Selects (cn 0 1 ∷ Not 1 ∷ []) (Not 1 ∷ cn 0 1 ∷ [])
unfolding target slot
not_then_cn = select (cn 0 1 ∷ []) (Not 1) [] (free_cons {a = cn 0 1} (omega arith) free_nil) not_first (select [] (cn 0 1) [] free_nil (alone (cn 0 1) same) nothing)
  where
    same : Less (cn 0 1) (cn 0 1) → ⊥
    same (low h) = omega arith
    same (tie t h) = omega arith

-- not 0; cn 0 1: the second does not pass the first, so that nothing but the first is in front
blocked : Free (cn 0 1) (Not 0 ∷ []) → ⊥
unfolding target slot
blocked (free_cons p f) = omega arith
