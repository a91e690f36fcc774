-- What the job told of two texts, and what was written then, is what the program writes. Assumes nothing.
use mathlib.Core.Path.{◌≡◌, refl, sym, ap, ◌∙◌, subst}
use mathlib.Core.Logic.{◌≢◌}
use mathlib.Core.List.{List, []}
use Prim.Native.Nat.{ℕ}
use native.Mathlib.Omega.{arith}
use Rattle.text.specs.declared.Refusal.{Refusal}
use Rattle.text.specs.Refusals.{number_of}
use Rattle.text.specs.Text.{bytes}
use Rattle.std.specs.declared.cmp.Ordering.{Ordering}
use Rattle.std.specs.declared.cmp.Ordering.TheVariants.{Less, Equal, Greater}
use Rattle.ordering.specs.Comparing.{count_of, Compares}
use Rattle.ordering.proofs.Linked.{reduced_compares}
use Rattle.forms.specs.Forms.{text_turned_away}
use Rattle.habits.specs.Habits.{Judgement, fine, away, Circuit, Answer}
use Rattle.records.specs.declared.DoneTwo.{DoneTwo}
use Rattle.demands.proofs.Numbers.{from_1}
use Rattle.comparison.specs.Compare.{judged, Compared, Compare, Hands}
use Rattle.console.specs.Output.{Fronts, Answers}
use Rattle.printing.proofs.Told.{Told, refused, succeeded, told}
use Rattle.compare.specs.Output.{shown, PrintsBy, Prints}

-- ---- what the job tells of the texts s and t

-- a comparison has no text
textless : (p : Circuit × Circuit) (w : Answer) → Compared p w → w.text ≡ []
unfolding Compared
textless (c, d) w z = ap (λ (y : Answer). y.text) z.4

tells : (s t : List ℕ) (h : DoneTwo) → Hands s 4096 t 4096 h → Told (λ k j. judged s k t j) Compared textless h.outcome
unfolding Compare
tells s t h w = told (λ k j. judged s k t j) Compared textless h w

-- how the circuits compare, by the count that is right
compares : (c d : Circuit) (w : Answer) → Compared (c, d) w → (k : Ordering) × Compares c.lines c.gates d.lines d.gates k × (w.count ≡ count_of k)
unfolding Compared
compares c d w (p, q, i, j, e) = (_, reduced_compares i j, ap (λ (y : Answer). y.count) e)

-- ---- what is written then

-- a refusal with its line and its text number
prints_refusal : (s t : List ℕ) {r : Refusal} {u l : ℕ} → judged s 4096 t 4096 ≡ away r u l → Prints s t (text_turned_away (number_of r) l u)
unfolding Prints PrintsBy
prints_refusal s t {r} {u} {l} q = subst (λ (v : Judgement (Circuit × Circuit)). PrintsBy v (text_turned_away (number_of r) l u)) (sym q) refl

-- the word of how two circuits compare
prints_success : (s t : List ℕ) {c d : Circuit} {k : Ordering} → judged s 4096 t 4096 ≡ fine (c, d) → Compares c.lines c.gates d.lines d.gates k → Prints s t (shown k)
unfolding Prints PrintsBy
prints_success s t {k = k} q z = subst (λ (v : Judgement (Circuit × Circuit)). PrintsBy v (shown k)) (sym q) (k, z, refl)

-- the word of the comparison that has the count n
pub words : (k : Ordering) {n : ℕ} → n ≡ count_of k → (n ≡ 0 → shown k ≡ bytes "(less)\n") × (n ≡ 1 → shown k ≡ bytes "(equal)\n") × (n ≢ 0 → n ≢ 1 → shown k ≡ bytes "(greater)\n")
unfolding count_of
words Less e = (λ _. refl, λ z. absurd (omega (arith, e, z)), λ z _. absurd (z e))
words Equal e = (λ z. absurd (omega (arith, e, z)), λ _. refl, λ _ z. absurd (z e))
words Greater e = (λ z. absurd (omega (arith, e, z)), λ z. absurd (omega (arith, e, z)), λ _ _. refl)

-- the contract of `answer`, by what was handed over and what was then written at the front of the area
module _ (s t : List ℕ) (h : DoneTwo) (hands : Hands s 4096 t 4096 h) {a : List ℕ} {n : ℕ} {b : List ℕ} where
  -- the refusal
  pub refusal_answers : h.outcome.number ≢ 0 → Fronts a n b (text_turned_away h.outcome.number h.outcome.line h.outcome.text) → Answers (Prints s t) a n b
  refusal_answers z f = go (tells s t h hands)
    where
      go : Told (λ k j. judged s k t j) Compared textless h.outcome → Answers (Prints s t) a n b
      go (refused q i j k) = record { written = _; prints = prints_refusal s t q; fronts = rw (i, j, k) at f }
      go (succeeded q w i j) = absurd (z i)

  -- the success
  pub success_answers : h.outcome.number ≡ 0 → ((k : Ordering) → h.outcome.count ≡ count_of k → Fronts a n b (shown k)) → Answers (Prints s t) a n b
  success_answers z f = go (tells s t h hands)
    where
      go : Told (λ k j. judged s k t j) Compared textless h.outcome → Answers (Prints s t) a n b
      go (refused {r} q i j k) = absurd (omega (arith, from_1 r, i, z))
      go (succeeded {a} {w} q z i j) = let (k, x, e) = compares a.0 a.1 w z in record { written = shown k; prints = prints_success s t q x; fronts = f k (j ∙ e) }
