-- The numbers that join gives are the table's, what it leaves is what the papers say, and its 9 is at the first gate over. Assumes nothing.
use Prim.Native.Nat.{ℕ, ◌+◌, ◌-◌, ◌≤◌, ◌<◌}
use mathlib.Core.Path.{◌≡◌, refl, sym, ap, ◌∙◌, subst}
use mathlib.Core.Logic.{◌⊎◌, inl, inr}
use mathlib.Core.List.{List, [], ◌∷◌, ◌++◌}
use native.Mathlib.Decide.{ℕ_discrete, dec_lt}
use native.Mathlib.Omega.{arith}
use lib.ListN.{length, take, length-append}
use lib.Seq.{length-take-le, take-append_seam, drop-append_seam}
use borrow.Author.Tests.{lt-ltb, le-ltb}
use Rattle.gates.specs.declared.Gate.{Gate}
use Rattle.gates.proofs.Theorem.{reduced_unique}
use Rattle.text.specs.declared.Head.{Head}
use Rattle.text.specs.declared.Kind.TheVariants as kind
use Rattle.text.specs.declared.Refusal.{Refusal}
use Rattle.text.specs.declared.Refusal.TheVariants.{TooMany, ShortAnswer, DifferentLines}
use Rattle.text.specs.Refusals.{number_of}
use Rattle.text.specs.Text.{circuit_text}
use Rattle.text.proofs.Accepted.{judge_accepted, same_heads}
use Rattle.habits.specs.Habits.{fine, away, Lent, Exit, Answer, filled, all_filled, refusal, success, answered}
use Rattle.habits.specs.Demands.{Refuses, Accepts}
use Rattle.habits.proofs.Refused.{refuses_exactly_if, text_accepted, refuses_or_accepts, some_number}
use Rattle.habits.proofs.Says.{says_away, says_fine, filled_first, filled_later}
use Rattle.jobs.specs.Jobs.{as_text}
use Rattle.jobs.specs.Habits.{answer, Right}
use Rattle.joins.specs.Join.{plain_join, judged, Join}
use Rattle.joins.specs.Demands.{Read, Joins, Due, by_first, by_second, different_lines, too_many, short_answer, no_refusal, SuccessLeaves, Demand, FirstOver}
use Rattle.joins.proofs.PlainJoin.{different_join, over_join, fitting_join}
use Rattle.joins.proofs.One.{join_numbered}

-- two texts that were read: the plain join of their circuits
pub read_judged : (s : List ℕ) (l : List Gate) (t : List ℕ) {g h : Head} {c d : List Gate} → Read s l t g c h d → judged s (length l) t ≡ plain_join (record { lines = g.lines; gates = c }) (record { lines = h.lines; gates = d })
unfolding judged
read_judged s l t r = rw (text_accepted 1 r.first, text_accepted 2 r.second)

pub joins_judged : (s : List ℕ) (l : List Gate) (t : List ℕ) {g : Head} {c d : List Gate} → Read s l t g c g d → length c + length d ≤ 4096 → judged s (length l) t ≡ fine (record { lines = g.lines; gates = c ++ d })
joins_judged s l t {g} {c} {d} r h = read_judged s l t r ∙ fitting_join (record { lines = g.lines; gates = c }) (record { lines = g.lines; gates = d }) refl h

-- the first gate over: so many of the second circuit's gates still fit, and one more does not
pub first_over : (c d : List Gate) → length c ≤ 4096 → 4096 < length c + length d → FirstOver c d (4096 - length c + 2)
first_over c d h o =
    let i : 4096 - length c + 2 - 2 ≡ 4096 - length c = omega arith in
    let j : 4096 - length c + 2 - 1 ≡ 4096 - length c + 1 = omega arith in
    record {
      within = rw i (length-append c (take (4096 - length c) d) ∙ omega (arith, h, o, length-take-le (4096 - length c) d (omega arith)));
      over = rw j (length-append c (take (4096 - length c + 1) d) ∙ omega (arith, h, o, length-take-le (4096 - length c + 1) d (omega arith)));
    }

-- what success with the list r on n lines leaves
pub leaves : {l : List Gate} {a : List ℕ} {n : ℕ} {r : List Gate} {x : Exit} → x ≡ success (answer as_text n r) (record { lists = l ∷ []; area = a }) → SuccessLeaves l a n r x
unfolding success all_filled
leaves {l} {a} {n} {r} z =
    let k = ap (λ (y : Exit). y.count) z in
    let m = ap (λ (y : Exit). y.lent.area) z in
    record {
      list = filled r l;
      lists = ap (λ (y : Exit). y.lent.lists) z;
      list_first = filled_first r l;
      list_later = filled_later r l;
      counted = k;
      area_text = rw (k, m) (take-append_seam (circuit_text n r) _);
      area_others = rw (k, m) (drop-append_seam (circuit_text n r) _);
    }

module _ (s : List ℕ) (l : List Gate) (t a : List ℕ) (x : Exit) (says : Join s l t a x) where
  abbrev lent : Lent
  lent = record { lists = l ∷ []; area = a }

  -- ---- what was judged, and the exit

  -- a refusal
  pub refused : {u i : ℕ} (r : Refusal) → judged s (length l) t ≡ away r u i → (x.number ≡ number_of r) × (x.line ≡ i) × (x.text ≡ u)
  unfolding Join refusal
  refused r e =
      let z = says_away (judged s (length l) t) (Right as_text) lent says e in
      (ap (λ (y : Exit). y.number) z, ap (λ (y : Exit). y.line) z, ap (λ (y : Exit). y.text) z)

  -- the reduced list of the plain join
  pub read_joins : {g : Head} {c d : List Gate} → Read s l t g c g d → length c + length d ≤ 4096 → (r : List Gate) × Joins s l t g c d r
  unfolding Join
  read_joins {g} {c} {d} b h =
      let z = says_fine (judged s (length l) t) (Right as_text) lent says (joins_judged s l t b h) in
      (z.1.0, record { read = b; few = h; reduced = z.1.1 })

  -- is the answer, where the area has room for it
  joins_answered : {g : Head} {c d r : List Gate} → Joins s l t g c d r → x ≡ answered (answer as_text g.lines r) lent
  unfolding Join
  joins_answered {g} {c} {d} {r} j =
      let z = says_fine (judged s (length l) t) (Right as_text) lent says (joins_judged s l t j.read j.few) in
      let e : z.1.0 ≡ r = reduced_unique g.lines z.1.1 j.reduced in
      z.2 ∙ ap (λ (w : Answer). answered w lent) (z.1.2 ∙ ap (answer as_text g.lines) e)

  pub joins_short : {g : Head} {c d r : List Gate} → Joins s l t g c d r → length a < length (circuit_text g.lines r) → x ≡ refusal ShortAnswer 0 0 lent
  unfolding answered
  joins_short {g} {r = r} j h = joins_answered j ∙ rw (lt-ltb (length a) (length (circuit_text g.lines r)) h)

  pub joins_success : {g : Head} {c d r : List Gate} → Joins s l t g c d r → length (circuit_text g.lines r) ≤ length a → x ≡ success (answer as_text g.lines r) lent
  unfolding answered
  joins_success {g} {r = r} j h = joins_answered j ∙ rw (le-ltb (length a) (length (circuit_text g.lines r)) h)

  -- ---- the table

  due_says : {n i u : ℕ} → Due s l t a n i u → (x.number ≡ n) × (x.line ≡ i) × (x.text ≡ u)
  unfolding judged refusal success
  due_says (by_first {n} {i} d) =
      let (r, e, q) = (refuses_exactly_if 1 kind.Circuit s (length l ∷ []) n i).0 d in
      let z = refused {u = 1} {i = i} r (rw e) in
      (z.0 ∙ q, z.1, z.2)
  due_says (by_second {n} {i} b d) =
      let (r, e, q) = (refuses_exactly_if 2 kind.Circuit t [] n i).0 d in
      let z = refused {u = 2} {i = i} r (rw (text_accepted 1 b, e)) in
      (z.0 ∙ q, z.1, z.2)
  due_says (different_lines {g} {h} {c} {d} b n) = refused DifferentLines (read_judged s l t b ∙ different_join (record { lines = g.lines; gates = c }) (record { lines = h.lines; gates = d }) n)
  due_says (too_many {g} {c} {d} b o) = refused TooMany (read_judged s l t b ∙ over_join (record { lines = g.lines; gates = c }) (record { lines = g.lines; gates = d }) refl o)
  due_says (short_answer j h) = let z = joins_short j h in (ap (λ (y : Exit). y.number) z, ap (λ (y : Exit). y.line) z, ap (λ (y : Exit). y.text) z)
  due_says (no_refusal j h) = let z = joins_success j h in (ap (λ (y : Exit). y.number) z, ap (λ (y : Exit). y.line) z, ap (λ (y : Exit). y.text) z)

  -- always one row
  abbrev Row : Type 0
  Row = Due s l t a x.number x.line x.text

  row : {n i u : ℕ} → Due s l t a n i u → Row
  row d = let z = due_says d in rw (z.0, z.1, z.2) d

  says_due : Row
  says_due = first (refuses_or_accepts kind.Circuit s (length l ∷ []))
    where
      by_area : {g : Head} {c d r : List Gate} → Joins s l t g c d r → Dec (length a < length (circuit_text g.lines r)) → Row
      by_area j (yes h) = row (short_answer j h)
      by_area j (no h) = row (no_refusal j (omega (arith, h)))

      by_number : {g : Head} {c d : List Gate} → Read s l t g c g d → Dec (4096 < length c + length d) → Row
      by_number b (yes h) = row (too_many b h)
      by_number b (no h) = let z = read_joins b (omega (arith, h)) in by_area z.1 (dec_lt _ _)

      by_lines : {g h : Head} {c d : List Gate} → Read s l t g c h d → Dec (g.lines ≡ h.lines) → Row
      by_lines b (no n) = row (different_lines b n)
      by_lines {g} {h} {c} {d} b (yes e) = by_number (subst (λ (k : Head). Read s l t g c k d) (same_heads t s b.second.judged b.first.judged (sym e)) b) (dec_lt 4096 (length c + length d))

      second : {g : Head} {c : List Gate} → Accepts kind.Circuit s (length l ∷ []) g c
          → ((n : ℕ) × (i : ℕ) × Refuses kind.Circuit t [] n i) ⊎ ((h : Head) × (d : List Gate) × Accepts kind.Circuit t [] h d) → Row
      second b (inl (n, i, d)) = row (by_second b d)
      second {g} b (inr (h, d, k)) = by_lines (record { first = b; second = k }) (ℕ_discrete g.lines h.lines)

      first : ((n : ℕ) × (i : ℕ) × Refuses kind.Circuit s (length l ∷ []) n i) ⊎ ((g : Head) × (c : List Gate) × Accepts kind.Circuit s (length l ∷ []) g c) → Row
      first (inl (n, i, d)) = row (by_first d)
      first (inr (g, c, b)) = second b (refuses_or_accepts kind.Circuit t [])

  -- ---- success

  succeeds : {n i u : ℕ} → n ≡ 0 → Due s l t a n i u → (g : Head) × (c : List Gate) × (d : List Gate) × (r : List Gate) × Joins s l t g c d r × SuccessLeaves l a g.lines r x
  succeeds e (by_first d) = absurd (omega (arith, e, some_number d))
  succeeds e (by_second b d) = absurd (omega (arith, e, some_number d))
  succeeds e (different_lines b n) = absurd (omega (arith, e))
  succeeds e (too_many b o) = absurd (omega (arith, e))
  succeeds e (short_answer j h) = absurd (omega (arith, e))
  succeeds e (no_refusal {g} {c} {d} {r} j h) = (g, c, d, r, j, leaves (joins_success j h))

  pub join_demand : Demand s l t a x
  join_demand =
      let k = join_numbered s l t a x says in
      record {
        by_table = λ n i u. (λ (b, c, d). rw (b, c, d) at says_due, due_says);
        refusal_leaves = λ h. let u = k.unchanged (λ e. omega (arith, h, e)) in record { countless = u.0; unchanged = u.1; early = λ e. (k.early h e).1; late = k.late };
        success_leaves = λ e. succeeds e says_due;
      }

  -- the join's own 9
  pub nine_first_over : {g : Head} {c d : List Gate} → Read s l t g c g d → 4096 < length c + length d → (x.number ≡ 9) × FirstOver c d x.line
  nine_first_over {g} {c} {d} b o =
      let z = due_says (too_many b o) in
      (z.0, rw z.1 (first_over c d (judge_accepted kind.Circuit s b.first.judged).short o))
