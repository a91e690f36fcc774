-- The numbers that compare gives are the table's, and what it leaves is what the papers say. Assumes nothing.
use Prim.Native.Nat.{ℕ}
use mathlib.Core.Path.{◌≡◌, ap, ◌∙◌}
use mathlib.Core.Logic.{◌⊎◌, inl, inr}
use mathlib.Core.List.{List, [], ◌∷◌}
use native.Mathlib.Omega.{arith}
use lib.ListN.{length}
use Rattle.gates.specs.declared.Gate.{Gate}
use Rattle.gates.specs.Reduced.{Reduced}
use Rattle.text.specs.declared.Head.{Head}
use Rattle.text.specs.declared.Kind.TheVariants as kind
use Rattle.text.specs.declared.Refusal.{Refusal}
use Rattle.text.specs.Refusals.{number_of}
use Rattle.ordering.specs.Comparing.{count_of, compare_lists}
use Rattle.habits.specs.Habits.{fine, away, Lent, Exit, Answer, filled, all_filled, refusal, success, answered}
use Rattle.habits.specs.Demands.{Refuses, Accepts}
use Rattle.habits.proofs.Refused.{refuses_exactly_if, text_accepted, refuses_or_accepts, some_number}
use Rattle.habits.proofs.Says.{says_away, says_fine, filled_holds}
use Rattle.comparison.specs.Compare.{judged, Compared, Compare}
use Rattle.comparison.specs.Demands.{Due, by_first, by_second, no_refusal, SuccessLeaves, Demand}
use Rattle.comparison.proofs.One.{compare_numbered}

module _ (s : List ℕ) (l : List Gate) (t : List ℕ) (m : List Gate) (x : Exit) (says : Compare s l t m x) where
  abbrev lent : Lent
  lent = record { lists = l ∷ m ∷ []; area = [] }

  -- ---- what was judged, and the exit

  -- two circuits: their reduced lists, how these compare, and the lists filled
  pub both_accepted : {g h : Head} {c d : List Gate} → Accepts kind.Circuit s (length l ∷ []) g c → Accepts kind.Circuit t (length m ∷ []) h d
      → (p : List Gate) × (q : List Gate) × Reduced g.lines c p × Reduced h.lines d q
      × (x ≡ record { number = 0; line = 0; text = 0; count = count_of (compare_lists g.lines p h.lines q); lent = record { lists = filled p l ∷ filled q m ∷ []; area = [] } })
  unfolding judged Compare Compared answered success all_filled
  both_accepted {g} {h} {c} {d} a b =
      let e : judged s (length l) t (length m) ≡ fine (record { lines = g.lines; gates = c }, record { lines = h.lines; gates = d }) = rw (text_accepted 1 a, text_accepted 2 b) in
      let z = says_fine (judged s (length l) t (length m)) Compared lent says e in
      (z.1.0, z.1.1, z.1.2, z.1.3, z.2 ∙ ap (λ (w : Answer). answered w lent) z.1.4)

  -- a refusal
  refused : {u i : ℕ} (r : Refusal) → judged s (length l) t (length m) ≡ away r u i → (x.number ≡ number_of r) × (x.line ≡ i) × (x.text ≡ u)
  unfolding Compare refusal
  refused r e =
      let z = says_away (judged s (length l) t (length m)) Compared lent says e in
      (ap (λ (y : Exit). y.number) z, ap (λ (y : Exit). y.line) z, ap (λ (y : Exit). y.text) z)

  -- ---- the table

  due_says : {n i u : ℕ} → Due s l t m n i u → (x.number ≡ n) × (x.line ≡ i) × (x.text ≡ u)
  unfolding judged
  due_says (by_first {n} {i} d) =
      let (r, e, q) = (refuses_exactly_if 1 kind.Circuit s (length l ∷ []) n i).0 d in
      let z = refused {u = 1} {i = i} r (rw e) in
      (z.0 ∙ q, z.1, z.2)
  due_says (by_second {n} {i} a d) =
      let (r, e, q) = (refuses_exactly_if 2 kind.Circuit t (length m ∷ []) n i).0 d in
      let z = refused {u = 2} {i = i} r (rw (text_accepted 1 a, e)) in
      (z.0 ∙ q, z.1, z.2)
  due_says (no_refusal a b) =
      let z = (both_accepted a b).4 in
      (ap (λ (y : Exit). y.number) z, ap (λ (y : Exit). y.line) z, ap (λ (y : Exit). y.text) z)

  -- always one row
  abbrev Row : Type 0
  Row = Due s l t m x.number x.line x.text

  row : {n i u : ℕ} → Due s l t m n i u → Row
  row d = let z = due_says d in rw (z.0, z.1, z.2) d

  says_due : Row
  says_due = first (refuses_or_accepts kind.Circuit s (length l ∷ []))
    where
      second : {g : Head} {c : List Gate} → Accepts kind.Circuit s (length l ∷ []) g c
          → ((n : ℕ) × (i : ℕ) × Refuses kind.Circuit t (length m ∷ []) n i) ⊎ ((h : Head) × (d : List Gate) × Accepts kind.Circuit t (length m ∷ []) h d) → Row
      second a (inl (n, i, d)) = row (by_second a d)
      second a (inr (h, d, b)) = row (no_refusal a b)

      first : ((n : ℕ) × (i : ℕ) × Refuses kind.Circuit s (length l ∷ []) n i) ⊎ ((g : Head) × (c : List Gate) × Accepts kind.Circuit s (length l ∷ []) g c) → Row
      first (inl (n, i, d)) = row (by_first d)
      first (inr (g, c, a)) = second a (refuses_or_accepts kind.Circuit t (length m ∷ []))

  -- ---- what is left

  leaves : {g h : Head} {c d : List Gate} → Accepts kind.Circuit s (length l ∷ []) g c → Accepts kind.Circuit t (length m ∷ []) h d → SuccessLeaves s l t m x
  leaves {g} {h} {c} {d} a b =
      let (p, q, i, j, z) = both_accepted a b in
      record {
        head_1 = g;
        circuit_1 = c;
        head_2 = h;
        circuit_2 = d;
        accepts_1 = a;
        accepts_2 = b;
        reduced_1 = p;
        reduced_2 = q;
        is_reduced_1 = i;
        is_reduced_2 = j;
        list_1 = filled p l;
        list_2 = filled q m;
        lists = ap (λ (y : Exit). y.lent.lists) z;
        holds_1 = filled_holds p l;
        holds_2 = filled_holds q m;
        counted = ap (λ (y : Exit). y.count) z;
      }

  succeeds : {n i u : ℕ} → n ≡ 0 → Due s l t m n i u → SuccessLeaves s l t m x
  succeeds e (by_first d) = absurd (omega (arith, e, some_number d))
  succeeds e (by_second a d) = absurd (omega (arith, e, some_number d))
  succeeds e (no_refusal a b) = leaves a b

  pub compare_demand : Demand s l t m x
  compare_demand =
      let k = compare_numbered s l t m x says in
      record {
        by_table = λ n i u. (λ (a, b, c). rw (a, b, c) at says_due, due_says);
        refusal_leaves = λ h. record { countless = (k.unchanged (λ e. omega (arith, h, e))).0; early = λ e. (k.early h e).1; late = k.late };
        success_leaves = λ e. succeeds e says_due;
      }
