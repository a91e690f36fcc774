-- For every two texts, gate list and answer area exactly one exit keeps the contract of join, and its numbers are those of circuit texts, 10 and 11.
-- Assumes nothing.
use Prim.Native.Nat.{ℕ, ◌+◌, ◌-◌, ◌≤◌}
use mathlib.Core.Path.{◌≡◌, refl, sym, ap, ◌∙◌, subst}
use mathlib.Core.List.{List, [], ◌∷◌, ◌++◌}
use native.Mathlib.Omega.{arith}
use lib.ListN.{length, length-append}
use lib.Dec.{eqb, leb}
use borrow.Author.Tests.{eqb-true, leb-true}
use Rattle.gates.specs.declared.Gate.{Gate}
use Rattle.gates.specs.Circuit.{AllValid, done}
use Rattle.gates.proofs.Reach.{all_valid_append}
use Rattle.gates.proofs.ReducedLists.{one_reduced_list}
use Rattle.meaning.specs.Pattern.{has}
use Rattle.text.specs.declared.Refusal.TheVariants.{TooMany, DifferentLines}
use Rattle.habits.specs.Habits.{Circuit, Lent, Exit, Answer}
use Rattle.habits.specs.Demands.{One, numbers, textless, Numbered}
use Rattle.habits.proofs.Yields.{Yields, ends, yields_then, yields_follows, yields_require, Regular, of_text, of_none}
use Rattle.habits.proofs.Texts.{Sound, yields_circuit}
use Rattle.habits.proofs.Says.{Fits, Answerable, Lawful, says_one, numbered}
use Rattle.jobs.specs.Jobs.{as_text}
use Rattle.jobs.specs.Habits.{answer, Right}
use Rattle.joins.specs.Join.{plain_join, judged, Join}

-- the job's own numbers
abbrev pub own : List ℕ
own = 10 ∷ 11 ∷ []

-- two circuits on the same lines that together have at most 4,096 gates
joined_sound : {c d : Circuit} → Sound c → Sound d → c.lines ≡ d.lines → length c.gates + length d.gates ≤ 4096 → Sound (record { lines = c.lines; gates = c.gates ++ d.gates })
joined_sound {c} {d} g h e f = record {
  valid = all_valid_append c.lines c.gates d.gates g.valid (subst (λ (n : ℕ). AllValid n d.gates) (sym e) h.valid);
  few = omega (arith, f, length-append c.gates d.gates);
}

-- what was made: the join, a circuit of at most 4,096 gates, and a list long enough for it
pub yields_judged : (s : List ℕ) (k : ℕ) (t : List ℕ) → Yields (Regular own 2) (λ c. Sound c × (4096 ≤ k)) (judged s k t)
unfolding judged plain_join has numbers textless
yields_judged s k t =
    yields_then (yields_circuit own 2 1 (omega arith) (omega arith) s (k ∷ [])) (λ c g.
    yields_then (yields_circuit own 2 2 (omega arith) (omega arith) t []) (λ d h.
    yields_then (yields_require (eqb c.lines d.lines) DifferentLines 0 0 (of_none refl refl (omega arith) refl refl)) (λ _ e.
    yields_then (yields_require (leb (length c.gates + length d.gates) 4096) TooMany 2 (4096 - length c.gates + 2) (of_text refl refl (omega arith) (omega arith) (λ z. absurd (omega arith)))) (λ _ f.
    ends (joined_sound g.0 h.0 (eqb-true c.lines d.lines e) (leb-true (length c.gates + length d.gates) 4096 f), g.1.room.0)))))

-- of a circuit exactly one answer is right, and the list has room for it
answerable : {c : Circuit} {l : List Gate} {a : List ℕ} → Sound c → 4096 ≤ length l → Answerable (Right as_text c) (record { lists = l ∷ []; area = a })
answerable {c} {l} {a} g u =
    let p = one_reduced_list c.lines c.gates g.valid in
    record {
      one = (_, (p.0, p.1, refl), λ y z. z.2 ∙ ap (answer as_text c.lines) (sym (p.2 z.0 z.1)));
      fits = λ w z. subst (λ (b : Answer). Fits b.circuits (l ∷ [])) (sym z.2) (omega (arith, u, z.1.fewest c.gates done, g.few), tt);
    }

module _ (s : List ℕ) (l : List Gate) (t a : List ℕ) where
  abbrev lent : Lent
  lent = record { lists = l ∷ []; area = a }

  lawful : Lawful own 2 (judged s (length l) t) (Right as_text) lent
  unfolding has numbers
  lawful = record {
    judged = yields_follows (yields_judged s (length l) t) (λ c h. answerable h.0 h.1);
    writes = λ _ _ _ _. refl;
  }

  -- exactly one exit
  pub join_one : One (Join s l t a)
  unfolding Join
  join_one = says_one lawful

  -- the numbers, by the habits: 1, 2, 3, 4, 5, 9, 10 and 11, and what each leaves
  pub join_numbered : (x : Exit) → Join s l t a x → Numbered own 2 (judged s (length l) t) (Right as_text) lent x
  unfolding Join
  join_numbered x h = numbered lawful x h
