-- For every two texts and two gate lists exactly one exit keeps the contract of compare, and its numbers are those of circuit texts.
-- Assumes nothing.
use Prim.Native.Nat.{ℕ, ◌≤◌}
use mathlib.Core.Path.{refl, sym, ap, ◌∙◌, subst}
use mathlib.Core.List.{List, [], ◌∷◌}
use native.Mathlib.Omega.{arith}
use lib.ListN.{length}
use Rattle.gates.specs.declared.Gate.{Gate}
use Rattle.gates.specs.Circuit.{done}
use Rattle.gates.specs.Reduced.{Reduced}
use Rattle.gates.proofs.ReducedLists.{one_reduced_list}
use Rattle.habits.specs.Habits.{Circuit, Lent, Exit, Answer}
use Rattle.habits.specs.Demands.{One, Numbered}
use Rattle.habits.proofs.Yields.{Yields, ends, yields_then, yields_follows, Regular}
use Rattle.habits.proofs.Texts.{Sound, yields_circuit}
use Rattle.habits.proofs.Says.{Fits, Answerable, Lawful, says_one, numbered}
use Rattle.comparison.specs.Compare.{judged, Compared, Compare}

-- a reduced list has room where its circuit has
reduced_few : {c : Circuit} {r : List Gate} {n : ℕ} → Sound c → 4096 ≤ n → Reduced c.lines c.gates r → length r ≤ n
reduced_few {c} h l z = omega (arith, l, z.fewest c.gates done, h.few)

-- what was read: two circuits, and lists long enough for them
pub yields_judged : (s : List ℕ) (k : ℕ) (t : List ℕ) (j : ℕ) → Yields (Regular [] 2) (λ p. Sound p.0 × Sound p.1 × (4096 ≤ k) × (4096 ≤ j)) (judged s k t j)
unfolding judged
yields_judged s k t j =
    yields_then (yields_circuit [] 2 1 (omega arith) (omega arith) s (k ∷ [])) (λ c g.
    yields_then (yields_circuit [] 2 2 (omega arith) (omega arith) t (j ∷ [])) (λ d h.
    ends (g.0, h.0, g.1.room.0, h.1.room.0)))

-- of two circuits exactly one answer is right, and the lists have room for it
answerable : {c d : Circuit} {l m : List Gate} → Sound c → Sound d → 4096 ≤ length l → 4096 ≤ length m → Answerable (Compared (c, d)) (record { lists = l ∷ m ∷ []; area = [] })
unfolding Compared
answerable {c} {d} {l} {m} g h u v =
    let p = one_reduced_list c.lines c.gates g.valid in
    let q = one_reduced_list d.lines d.gates h.valid in
    record {
      one = (
        _,
        (p.0, q.0, p.1, q.1, refl),
        λ y z. let e = p.2 z.0 z.2 in let f = q.2 z.1 z.3 in z.4 ∙ cc (e, f),
      );
      fits = λ w z. subst (λ (a : Answer). Fits a.circuits (l ∷ m ∷ [])) (sym z.4) (reduced_few g u z.2, (reduced_few h v z.3, tt));
    }

module _ (s : List ℕ) (l : List Gate) (t : List ℕ) (m : List Gate) where
  abbrev lent : Lent
  lent = record { lists = l ∷ m ∷ []; area = [] }

  lawful : Lawful [] 2 (judged s (length l) t (length m)) Compared lent
  unfolding Compared
  lawful = record {
    judged = yields_follows (yields_judged s (length l) t (length m)) (λ p h. answerable h.0 h.1 h.2 h.3);
    writes = λ a w z n. absurd (omega (arith, n, ap (λ (y : Answer). length y.text) z.4));
  }

  -- exactly one exit
  pub compare_one : One (Compare s l t m)
  unfolding Compare
  compare_one = says_one lawful

  -- the numbers, by the habits: 1, 2, 3, 4, 5 and 9, and what each leaves
  pub compare_numbered : (x : Exit) → Compare s l t m x → Numbered [] 2 (judged s (length l) t (length m)) Compared lent x
  unfolding Compare
  compare_numbered x h = numbered lawful x h
