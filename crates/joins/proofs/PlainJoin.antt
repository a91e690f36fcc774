-- The plain join of two circuits, case by case, also of circuits as codes; and what is judged of both texts by what was loaded of them.
-- Assumes nothing.
use Prim.Native.Nat.{ℕ, ◌+◌, ◌-◌, ◌≤◌, ◌<◌}
use mathlib.Core.Path.{◌≡◌, refl, sym, ap, ◌∙◌}
use mathlib.Core.Logic.{◌≢◌}
use mathlib.Core.Bool.{Bool, true, false}
use mathlib.Core.List.{List, [], ◌∷◌, ◌++◌}
use native.Mathlib.Omega.{arith}
use lib.ListN.{length, take}
use lib.Seq.{length-take-le}
use lib.Dec.{ltb}
use borrow.Author.Tests.{eq-eqb, ne_eqb, le-leb, lt-leb}
use Rattle.gates.specs.declared.Gate.{Gate}
use Rattle.gates.specs.Code.{gates}
use Rattle.gates.proofs.CodeLists.{length_gates, gates_append, all_codes_append}
use Rattle.text.specs.declared.Head.{Head}
use Rattle.text.specs.declared.Kind.TheVariants as kind
use Rattle.text.specs.declared.Refusal.{Refusal}
use Rattle.text.specs.declared.Refusal.TheVariants.{Overlong, ShortList, TooMany, DifferentLines}
use Rattle.text.specs.Judging.{turned_away, rule, first, or_else, judge}
use Rattle.habits.specs.Habits.{Judgement, fine, away, ◌then◌, passes, require, size_rules, taken, Circuit, told, text_judged}
use Rattle.loading.specs.Loaded.{Renderable}
use Rattle.loading.specs.Loaded as loading
use Rattle.jobs.specs.Jobs.{judged_text}
use Rattle.jobs.proofs.Habits.{judged_told}
use Rattle.joins.specs.Join.{plain_join, judged, circuit_of, join_circuits, Accepts}

-- ---- two circuits

module _ (c d : Circuit) where
  -- different line counts, whatever their gates
  pub different_join : c.lines ≢ d.lines → plain_join c d ≡ away DifferentLines 0 0
  unfolding plain_join require
  different_join e = rw (ne_eqb c.lines d.lines e)

  -- the same, and together more than 4,096 gates
  pub over_join : c.lines ≡ d.lines → 4096 < length c.gates + length d.gates → plain_join c d ≡ away TooMany 2 (4096 - length c.gates + 2)
  unfolding plain_join require
  over_join e o = rw (eq-eqb c.lines d.lines e, lt-leb (length c.gates + length d.gates) 4096 o)

  -- the same, and no more
  pub fitting_join : c.lines ≡ d.lines → length c.gates + length d.gates ≤ 4096 → plain_join c d ≡ fine (record { lines = c.lines; gates = c.gates ++ d.gates })
  unfolding plain_join require
  fitting_join e o = rw (eq-eqb c.lines d.lines e, le-leb (length c.gates + length d.gates) 4096 o)

-- ---- the gates of the first m codes and of the first n of another list

gates_taken : (m : ℕ) (codes : List ℕ) → m ≤ length codes → length (gates (take m codes)) ≡ m
gates_taken m codes h = length_gates (take m codes) ∙ length-take-le m codes h

module _ (g : Head) (m : ℕ) (codes : List ℕ) (h : Head) (n : ℕ) (more : List ℕ) where
  pub different_codes : g.lines ≢ h.lines → join_circuits g m codes h n more ≡ away DifferentLines 0 0
  unfolding join_circuits
  different_codes e = different_join (circuit_of g m codes) (circuit_of h n more) e

  pub over_codes : g.lines ≡ h.lines → m ≤ length codes → n ≤ length more → 4096 - m < n → join_circuits g m codes h n more ≡ away TooMany 2 (4096 - m + 2)
  unfolding join_circuits
  over_codes e few few' o =
      let i = gates_taken m codes few in
      over_join (circuit_of g m codes) (circuit_of h n more) e (omega (arith, i, gates_taken n more few')) ∙ ap (λ (k : ℕ). away TooMany 2 (4096 - k + 2)) i

  -- the second circuit's codes now stand behind the first's
  pub fitting_codes : {codes' : List ℕ} → g.lines ≡ h.lines → m ≤ length codes → n ≤ length more → n ≤ 4096 - m → Renderable g m codes → Renderable h n more → take (m + n) codes' ≡ take m codes ++ take n more
      → Accepts (join_circuits g m codes h n more) codes' g (m + n)
  unfolding join_circuits
  fitting_codes {codes'} e few few' o w w' i =
      let j : gates (take m codes) ++ gates (take n more) ≡ gates (take (m + n) codes') = sym (gates_append (take m codes) (take n more)) ∙ ap (λ (l : List ℕ). gates l) (sym i) in
      record {
        judged = fitting_join (circuit_of g m codes) (circuit_of h n more) e (omega (arith, gates_taken m codes few, gates_taken n more few', w.few)) ∙ ap (λ (l : List Gate). fine (record { lines = g.lines; gates = l })) j;
        renderable = record { narrow = w.narrow; few = omega (arith, w.few); codes = rw i (all_codes_append 32 (take m codes) (take n more) w.codes w'.codes) };
      }

-- ---- the two texts

-- no gate list belongs to the second text: it is judged as with one of 4,096 records
second_told : (t : List ℕ) → text_judged 2 kind.Circuit t [] ≡ told 2 (judged_text kind.Circuit t 4096)
unfolding text_judged taken passes judged_text or_else told first size_rules
second_told t = go (ltb 60000 (length t))
  where
    go : (b : Bool) → (passes (first (rule Overlong b ∷ [])) 2 0 then λ _. told 2 (judge kind.Circuit t)) ≡ told 2 (or_else (first (rule Overlong b ∷ rule ShortList false ∷ [])) 0 (judge kind.Circuit t))
    go true = refl
    go false = refl

-- the join of one that was loaded with that of the text t
unfoldable pub join_second : Head → ℕ → List ℕ → List ℕ → Judgement Circuit
join_second g m codes t = text_judged 2 kind.Circuit t [] then λ d. plain_join (circuit_of g m codes) d

module _ (g : Head) (m : ℕ) (codes t : List ℕ) where
  pub second_refused : {r : Refusal} {i : ℕ} → judged_text kind.Circuit t 4096 ≡ turned_away r i → join_second g m codes t ≡ away r 2 i
  unfolding join_second told
  second_refused q = rw (second_told t, q)

  pub second_accepted : {h : Head} {n : ℕ} {more : List ℕ} → loading.Accepts (judged_text kind.Circuit t 4096) more h n → join_second g m codes t ≡ join_circuits g m codes h n more
  unfolding join_second join_circuits told
  second_accepted w = rw (second_told t, w.judged)

module _ (s : List ℕ) (k : ℕ) (t : List ℕ) where
  pub first_refused : {r : Refusal} {i : ℕ} → judged_text kind.Circuit s k ≡ turned_away r i → judged s k t ≡ away r 1 i
  unfolding judged told
  first_refused q = rw (judged_told 1 kind.Circuit s k, q)

  pub first_accepted : {g : Head} {m : ℕ} {codes : List ℕ} → loading.Accepts (judged_text kind.Circuit s k) codes g m → judged s k t ≡ join_second g m codes t
  unfolding judged join_second told
  first_accepted w = rw (judged_told 1 kind.Circuit s k, w.judged)
