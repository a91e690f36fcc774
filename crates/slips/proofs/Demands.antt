-- The numbers that slip gives are the table's, and what it leaves is what the papers say. Assumes nothing.
use Prim.Native.Nat.{ℕ}
use mathlib.Core.Path.{◌≡◌, refl, sym, ap, ◌∙◌}
use mathlib.Core.Logic.{◌⊎◌, inl, inr}
use mathlib.Core.Bool.{Bool, true, false}
use mathlib.Core.List.{List, [], ◌∷◌}
use native.Mathlib.Decide.{ℕ_discrete}
use native.Mathlib.Omega.{arith}
use lib.ListN.{length}
use Rattle.gates.specs.declared.Gate.{Gate}
use Rattle.text.specs.declared.Head.{Head}
use Rattle.text.specs.declared.Kind.TheVariants as kind
use Rattle.text.specs.declared.Refusal.{Refusal}
use Rattle.text.specs.declared.Refusal.TheVariants.{DifferentLines, NotAllowed, OtherEnd}
use Rattle.text.specs.Refusals.{number_of}
use Rattle.stepping.specs.Slip.{SlipStep, End, ends_at, refused_at, run}
use Rattle.stepping.proofs.Slips.{refused_exactly_if}
use Rattle.sliptext.specs.Demands.{AcceptsSlip, RefusesSlip}
use Rattle.sliptext.proofs.Slips as slips
use Rattle.sliptext.proofs.Slips.{refuses_slip_exactly_if, accepts_slip_exactly_if, refuses_or_accepts_slip}
use Rattle.habits.specs.Habits.{fine, away, Lent, Exit, Answer, filled, all_filled, refusal, success, answered}
use Rattle.habits.specs.Demands.{Refuses, Accepts}
use Rattle.habits.proofs.Refused.{refuses_exactly_if, text_accepted, refuses_or_accepts, some_number}
use Rattle.habits.proofs.Says.{says_away, says_fine, filled_holds}
use Rattle.slips.specs.Slip.{gate_for_gate, checked, judged, Slipped, Slip}
use Rattle.slips.specs.Demands as D
use Rattle.slips.specs.Demands.{Read, Accepted, Due, by_first, by_slip, by_second, no_refusal, SuccessLeaves, Demand}
use Rattle.slips.proofs.Checking.{gate_for_gate_exactly_if, other_end, one_end, different_lines, not_allowed, ends}
use Rattle.slips.proofs.One.{slip_numbered}

module _ (s : List ℕ) (l : List Gate) (t u : List ℕ) (m : List Gate) where
  -- three texts that were read: their check
  pub read_judged : {g h : Head} {c d : List Gate} {ss : List SlipStep} → Read s l t u m g c ss h d → judged s (length l) t u (length m) ≡ checked (record { lines = g.lines; gates = c }) ss (record { lines = h.lines; gates = d })
  unfolding judged
  read_judged {ss = ss} r = rw (text_accepted 1 r.first, (accepts_slip_exactly_if 2 t ss).0 r.slip, text_accepted 3 r.second)

  -- one that is accepted
  pub accepted_judged : {g h : Head} {c d : List Gate} {ss : List SlipStep} → Accepted s l t u m g c ss h d → judged s (length l) t u (length m) ≡ fine (d, d)
  accepted_judged {g} {h} {c} {d} {ss} a = read_judged a.read ∙ ends (record { lines = g.lines; gates = c }) ss (record { lines = h.lines; gates = d }) a.lines a.ends ∙ one_end d

module _ (s : List ℕ) (l : List Gate) (t u : List ℕ) (m : List Gate) (x : Exit) (says : Slip s l t u m x) where
  abbrev lent : Lent
  lent = record { lists = l ∷ m ∷ []; area = [] }

  -- ---- what was judged, and the exit

  -- a refusal
  refused : {v i : ℕ} (r : Refusal) → judged s (length l) t u (length m) ≡ away r v i → (x.number ≡ number_of r) × (x.line ≡ i) × (x.text ≡ v)
  unfolding Slip refusal
  refused r e =
      let z = says_away (judged s (length l) t u (length m)) Slipped lent says e in
      (ap (λ (y : Exit). y.number) z, ap (λ (y : Exit). y.line) z, ap (λ (y : Exit). y.text) z)

  -- success: both lists hold the second circuit
  accepted : {g h : Head} {c d : List Gate} {ss : List SlipStep} → Accepted s l t u m g c ss h d
      → x ≡ record { number = 0; line = 0; text = 0; count = 0; lent = record { lists = filled d l ∷ filled d m ∷ []; area = [] } }
  unfolding Slip Slipped answered success all_filled
  accepted a =
      let z = says_fine (judged s (length l) t u (length m)) Slipped lent says (accepted_judged s l t u m a) in
      z.2 ∙ ap (λ (w : Answer). answered w lent) z.1

  -- ---- the table

  due_says : {n i v : ℕ} → Due s l t u m n i v → (x.number ≡ n) × (x.line ≡ i) × (x.text ≡ v)
  unfolding judged
  due_says (by_first {n} {i} d) =
      let (r, e, q) = (refuses_exactly_if 1 kind.Circuit s (length l ∷ []) n i).0 d in
      let z = refused {v = 1} {i = i} r (rw e) in
      (z.0 ∙ q, z.1, z.2)
  due_says (by_slip {n} {i} a d) =
      let (r, e, q) = (refuses_slip_exactly_if 2 t n i).0 d in
      let z = refused {v = 2} {i = i} r (rw (text_accepted 1 a, e)) in
      (z.0 ∙ q, z.1, z.2)
  due_says (by_second {n} {i} {ss = ss} a b d) =
      let (r, e, q) = (refuses_exactly_if 3 kind.Circuit u (length m ∷ []) n i).0 d in
      let z = refused {v = 3} {i = i} r (rw (text_accepted 1 a, (accepts_slip_exactly_if 2 t ss).0 b, e)) in
      (z.0 ∙ q, z.1, z.2)
  due_says (D.different_lines {g} {h} {c} {d} {ss} r n) = refused DifferentLines (read_judged s l t u m r ∙ different_lines (record { lines = g.lines; gates = c }) ss (record { lines = h.lines; gates = d }) n)
  due_says (D.not_allowed {g} {h} {c} {d} {ss} {i} r e f) =
      refused NotAllowed (read_judged s l t u m r ∙ not_allowed (record { lines = g.lines; gates = c }) ss (record { lines = h.lines; gates = d }) e ((refused_exactly_if ss c i).1 f))
  due_says (D.other_end {g} {h} {c} {d} {e = b} {ss} r e f n) =
      refused OtherEnd (read_judged s l t u m r ∙ ends (record { lines = g.lines; gates = c }) ss (record { lines = h.lines; gates = d }) e f ∙ other_end b d n)
  due_says (no_refusal a) = let z = accepted a in (ap (λ (y : Exit). y.number) z, ap (λ (y : Exit). y.line) z, ap (λ (y : Exit). y.text) z)

  -- always one row
  abbrev Row : Type 0
  Row = Due s l t u m x.number x.line x.text

  row : {n i v : ℕ} → Due s l t u m n i v → Row
  row d = let z = due_says d in rw (z.0, z.1, z.2) d

  says_due : Row
  says_due = first (refuses_or_accepts kind.Circuit s (length l ∷ []))
    where
      by_end : {g h : Head} {c d b : List Gate} {ss : List SlipStep} → Read s l t u m g c ss h d → g.lines ≡ h.lines → run ss c ≡ ends_at b → (k : Bool) → gate_for_gate b d ≡ k → Row
      by_end {d = d} {b = b} r e f true i = row (no_refusal (record { read = r; lines = e; ends = f ∙ ap ends_at ((gate_for_gate_exactly_if b d).0 i) }))
      by_end {d = d} {b = b} r e f false i = row (D.other_end r e f (λ j. absurd (let z : ◌≡◌ {A = Bool} true false = sym ((gate_for_gate_exactly_if b d).1 j) ∙ i in let y : ◌≡◌ {A = ℕ} 0 1 = cc in omega arith)))

      by_run : {g h : Head} {c d : List Gate} {ss : List SlipStep} → Read s l t u m g c ss h d → g.lines ≡ h.lines → (k : End) → run ss c ≡ k → Row
      by_run {d = d} r e (ends_at b) f = by_end r e f (gate_for_gate b d) refl
      by_run {c = c} {ss = ss} r e (refused_at i) f = row (D.not_allowed r e ((refused_exactly_if ss c i).0 f))

      by_lines : {g h : Head} {c d : List Gate} {ss : List SlipStep} → Read s l t u m g c ss h d → Dec (g.lines ≡ h.lines) → Row
      by_lines {c = c} {ss = ss} r (yes e) = by_run r e (run ss c) refl
      by_lines r (no n) = row (D.different_lines r n)

      second : {g : Head} {c : List Gate} {ss : List SlipStep} → Accepts kind.Circuit s (length l ∷ []) g c → AcceptsSlip t ss
          → ((n : ℕ) × (i : ℕ) × Refuses kind.Circuit u (length m ∷ []) n i) ⊎ ((h : Head) × (d : List Gate) × Accepts kind.Circuit u (length m ∷ []) h d) → Row
      second a b (inl (n, i, d)) = row (by_second a b d)
      second {g} a b (inr (h, d, e)) = by_lines (record { first = a; slip = b; second = e }) (ℕ_discrete g.lines h.lines)

      slip : {g : Head} {c : List Gate} → Accepts kind.Circuit s (length l ∷ []) g c → ((n : ℕ) × (i : ℕ) × RefusesSlip t n i) ⊎ ((ss : List SlipStep) × AcceptsSlip t ss) → Row
      slip a (inl (n, i, d)) = row (by_slip a d)
      slip a (inr (ss, b)) = second a b (refuses_or_accepts kind.Circuit u (length m ∷ []))

      first : ((n : ℕ) × (i : ℕ) × Refuses kind.Circuit s (length l ∷ []) n i) ⊎ ((g : Head) × (c : List Gate) × Accepts kind.Circuit s (length l ∷ []) g c) → Row
      first (inl (n, i, d)) = row (by_first d)
      first (inr (g, c, a)) = slip a (refuses_or_accepts_slip t)

  -- ---- success

  leaves : {g h : Head} {c d : List Gate} {ss : List SlipStep} → Accepted s l t u m g c ss h d → SuccessLeaves l m d x
  leaves {d = d} a =
      let z = accepted a in
      record {
        list_1 = filled d l;
        list_2 = filled d m;
        lists = ap (λ (y : Exit). y.lent.lists) z;
        holds_1 = filled_holds d l;
        holds_2 = filled_holds d m;
        countless = ap (λ (y : Exit). y.count) z;
      }

  succeeds : {n i v : ℕ} → n ≡ 0 → Due s l t u m n i v → (g : Head) × (c : List Gate) × (ss : List SlipStep) × (h : Head) × (d : List Gate) × Accepted s l t u m g c ss h d × SuccessLeaves l m d x
  succeeds e (by_first d) = absurd (omega (arith, e, some_number d))
  succeeds e (by_slip a d) = absurd (omega (arith, e, slips.some_number d))
  succeeds e (by_second a b d) = absurd (omega (arith, e, some_number d))
  succeeds e (D.different_lines r n) = absurd (omega (arith, e))
  succeeds e (D.not_allowed r i f) = absurd (omega (arith, e))
  succeeds e (D.other_end r i f n) = absurd (omega (arith, e))
  succeeds e (no_refusal {g} {h} {c} {d} {ss} a) = (g, c, ss, h, d, a, leaves a)

  pub slip_demand : Demand s l t u m x
  slip_demand =
      let k = slip_numbered s l t u m x says in
      record {
        by_table = λ n i v. (λ (a, b, c). rw (a, b, c) at says_due, due_says);
        accepted = (λ e. let (g, c, ss, h, d, a, _) = succeeds e says_due in (g, c, ss, h, d, a), λ (g, c, ss, h, d, a). (due_says (no_refusal a)).0);
        refusal_leaves = λ h. record { countless = (k.unchanged (λ e. omega (arith, h, e))).0; early = λ e. (k.early h e).1; late = k.late };
        success_leaves = λ e. succeeds e says_due;
      }
