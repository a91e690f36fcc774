-- What a circuit, a slip and a second circuit are judged to be, case by case; and the same of codes. Assumes nothing.
use Prim.Native.Nat.{ℕ, ◌≤◌}
use mathlib.Core.Path.{◌≡◌, refl, sym, ap, ◌∙◌, subst}
use mathlib.Core.Logic.{◌↔◌, ◌≢◌}
use mathlib.Core.Bool.{Bool, true, false, not, false≢true}
use mathlib.Core.List.{List, map}
use native.Mathlib.Omega.{arith}
use lib.ListN.{length, take}
use lib.Seq.{length-take-le}
use lib.Dec.{eqb}
use Rattle.std.specs.Cmp.Lexicographic.{pointwise}
use Rattle.std.proofs.lemmas.Bool.Decides.{Decides-eqb}
use Rattle.std.proofs.lemmas.Slice.Eq.{slice_eq-Decides}
use borrow.Author.Tests.{eq-eqb, ne_eqb}
use Rattle.gates.specs.declared.Gate.{Gate}
use Rattle.gates.specs.Code.{code, gates, AllCodes}
use Rattle.gates.proofs.CodeLists.{code_gates}
use Rattle.text.specs.declared.Head.{Head}
use Rattle.text.specs.declared.Refusal.TheVariants.{DifferentLines, NotAllowed, OtherEnd}
use Rattle.std.specs.declared.cmp.Ordering.{Ordering}
use Rattle.std.specs.declared.cmp.Ordering.TheVariants.{Less, Equal, Greater}
use Rattle.ordering.specs.Comparing.{compare_gates, dictionary}
use Rattle.ordering.proofs.Circuits.{same_lines, lists_equal}
use Rattle.stepping.specs.Slip.{SlipStep, ends_at, refused_at, run}
use Rattle.stepping.specs.Stepped.{slip_steps}
use Rattle.habits.specs.Habits.{fine, away, require, Circuit}
use Rattle.loading.specs.Loaded.{Renderable}
use Rattle.loading.specs.declared.Loaded.{Loaded}
use Rattle.slips.specs.Slip.{ended, is_equal, gate_for_gate, same_end, checked, circuit_of, check_loaded, Accepts}

-- ---- gate for gate

is_equal_exactly_if : (k : Ordering) → (is_equal k ≡ true) ↔ (k ≡ Equal)
unfolding is_equal
is_equal_exactly_if Less = (λ e. absurd (false≢true e), λ e. absurd (let z : ◌≡◌ {A = ℕ} 0 1 = cc in omega arith))
is_equal_exactly_if Equal = (λ _. refl, λ _. refl)
is_equal_exactly_if Greater = (λ e. absurd (false≢true e), λ e. absurd (let z : ◌≡◌ {A = ℕ} 0 1 = cc in omega arith))

-- two circuits are the same gate for gate exactly if they are equal
pub gate_for_gate_exactly_if : (c d : List Gate) → (gate_for_gate c d ≡ true) ↔ (c ≡ d)
unfolding gate_for_gate
gate_for_gate_exactly_if c d =
    let k = is_equal_exactly_if (dictionary compare_gates c d) in
    let j = lists_equal 0 c 0 d in
    (λ e. (j.0 (same_lines 0 c d ∙ k.0 e)).1, λ e. k.1 (sym (same_lines 0 c d) ∙ j.1 (refl, e)))

pub other_end : (e d : List Gate) → e ≢ d → same_end e d ≡ away OtherEnd 0 0
unfolding same_end require
other_end e d n = go (gate_for_gate e d) refl
  where
    go : (b : Bool) → gate_for_gate e d ≡ b → same_end e d ≡ away OtherEnd 0 0
    go true i = absurd (n ((gate_for_gate_exactly_if e d).0 i))
    go false i = rw i

pub one_end : (d : List Gate) → same_end d d ≡ fine (d, d)
unfolding same_end require
one_end d = rw ((gate_for_gate_exactly_if d d).1 refl)

-- ---- a circuit, a slip and a second circuit

module _ (c : Circuit) (ss : List SlipStep) (d : Circuit) where
  pub different_lines : c.lines ≢ d.lines → checked c ss d ≡ away DifferentLines 0 0
  unfolding checked require
  different_lines n = rw (ne_eqb c.lines d.lines n)

  module _ (e : c.lines ≡ d.lines) where
    pub not_allowed : {l : ℕ} → run ss c.gates ≡ refused_at l → checked c ss d ≡ away NotAllowed 2 l
    unfolding checked require ended
    not_allowed r = rw (eq-eqb c.lines d.lines e, r)

    pub ends : {b : List Gate} → run ss c.gates ≡ ends_at b → checked c ss d ≡ same_end b d.gates
    unfolding checked require ended
    ends r = rw (eq-eqb c.lines d.lines e, r)

-- ---- the ends as codes

-- what the test of two lists of codes tells
told_other : (l m : List ℕ) → true ≡ not (pointwise eqb l m) → l ≢ m
told_other l m h e = absurd (false≢true (sym (ap not ((slice_eq-Decides Decides-eqb l m (pointwise eqb l m) refl).1 e)) ∙ sym h))

told_equal : (l m : List ℕ) → false ≡ not (pointwise eqb l m) → l ≡ m
told_equal l m h = go (pointwise eqb l m) refl h
  where
    go : (b : Bool) → b ≡ pointwise eqb l m → false ≡ not b → l ≡ m
    go true e _ = (slice_eq-Decides Decides-eqb l m true e).0 refl
    go false _ h = absurd (false≢true h)

module _ (codes codes' : List ℕ) (e n : ℕ) (fits : e ≤ length codes) (fits' : n ≤ length codes') (valid : AllCodes 32 (take e codes)) (valid' : AllCodes 32 (take n codes')) where
  pub other_codes : true ≡ not (pointwise eqb (take e codes) (take n codes')) → same_end (gates (take e codes)) (gates (take n codes')) ≡ away OtherEnd 0 0
  other_codes t =
      let o = told_other (take e codes) (take n codes') t in
      other_end (gates (take e codes)) (gates (take n codes')) (λ q. o (sym (code_gates 32 (take e codes) valid) ∙ ap (map code) q ∙ code_gates 32 (take n codes') valid'))

  pub equal_codes : (h : Head) → false ≡ not (pointwise eqb (take e codes) (take n codes')) → Renderable h n codes' → Accepts (same_end (gates (take e codes)) (gates (take n codes'))) codes codes' h n
  equal_codes h t w =
      let q = told_equal (take e codes) (take n codes') t in
      let l : e ≡ n = omega (arith, ap length q, length-take-le e codes fits, length-take-le n codes' fits') in
      let p : take n codes ≡ take n codes' = subst (λ (k : ℕ). take k codes ≡ take n codes') l q in
      record {
        judged = rw (q, p) (one_end (gates (take n codes')));
        renderable = record { narrow = w.narrow; few = w.few; codes = rw p w.codes };
        renderable' = w;
      }

-- ---- circuits and steps as numbers

module _ (g : Loaded) (codes steps : List ℕ) (h : Loaded) (codes' : List ℕ) where
  pub loaded_different : g.head.lines ≢ h.head.lines → check_loaded g codes steps h codes' ≡ away DifferentLines 0 0
  unfolding check_loaded
  loaded_different e = different_lines (circuit_of g codes) (slip_steps steps) (circuit_of h codes') e

  module _ (e : g.head.lines ≡ h.head.lines) where
    pub loaded_not_allowed : {l : ℕ} → run (slip_steps steps) (gates (take g.gates codes)) ≡ refused_at l → check_loaded g codes steps h codes' ≡ away NotAllowed 2 l
    unfolding check_loaded
    loaded_not_allowed r = not_allowed (circuit_of g codes) (slip_steps steps) (circuit_of h codes') e r

    pub loaded_ends : {b : List Gate} → run (slip_steps steps) (gates (take g.gates codes)) ≡ ends_at b → check_loaded g codes steps h codes' ≡ same_end b (gates (take h.gates codes'))
    unfolding check_loaded
    loaded_ends r = ends (circuit_of g codes) (slip_steps steps) (circuit_of h codes') e r

-- what is judged of loaded circuits and steps, by the numbers of lines and the run
pub ruleset loaded_cases = (loaded_different, loaded_not_allowed, loaded_ends)
