-- What the program writes: for every two texts exactly one thing, and its last byte is 10. Assumes nothing.
use mathlib.Core.Path.{◌≡◌, refl, sym, ap, ◌∙◌}
use mathlib.Core.List.{List}
use Prim.Native.Nat.{ℕ}
use Rattle.text.specs.Refusals.{number_of}
use Rattle.text.specs.Text.{bytes}
use Rattle.gates.proofs.Theorem.{nf, nf_reduced}
use Rattle.std.specs.declared.cmp.Ordering.{Ordering}
use Rattle.std.specs.declared.cmp.Ordering.TheVariants.{Less, Equal, Greater}
use Rattle.ordering.specs.Comparing.{compare_lists}
use Rattle.ordering.proofs.Linked.{reduced_compares, compares_one}
use Rattle.forms.specs.Forms.{text_turned_away}
use Rattle.habits.specs.Habits.{Judgement, fine, away, Circuit}
use Rattle.habits.specs.Demands.{One}
use Rattle.habits.proofs.Yields.{yields_fine}
use Rattle.comparison.specs.Compare.{judged}
use Rattle.comparison.proofs.One.{yields_judged}
use Rattle.writing.proofs.Ended.{Ended}
use Rattle.forms.proofs.Ended.{three_numbers_ended}
use Rattle.compare.specs.Output.{shown, PrintsBy, Prints}

-- ---- exactly one

-- what is written, computed from the normal forms of the circuits
unfoldable pub printed_by : Judgement (Circuit × Circuit) → List ℕ
printed_by (away r u l) = text_turned_away (number_of r) l u
printed_by (fine (c, d)) = shown (compare_lists c.lines (nf c.gates) d.lines (nf d.gates))

-- it is what the program writes, and nothing else is
only : (s t : List ℕ) (v : Judgement (Circuit × Circuit)) → judged s 4096 t 4096 ≡ v → PrintsBy v (printed_by v) × ((w : List ℕ) → PrintsBy v w → w ≡ printed_by v)
unfolding PrintsBy printed_by
only s t (away r u l) q = (refl, λ w e. e)
only s t (fine (c, d)) q =
    let y = yields_fine (yields_judged s 4096 t 4096) q in
    let x = reduced_compares (nf_reduced c.lines c.gates y.0.valid) (nf_reduced d.lines d.gates y.1.valid) in
    let k = (compares_one c.lines c.gates d.lines d.gates y.0.valid y.1.valid).2 in
    ((_, x, refl), λ w z. z.2 ∙ ap shown (sym (k z.0 z.1) ∙ k _ x))

-- so for every two texts the program writes it
pub prints_printed : (s t : List ℕ) → Prints s t (printed_by (judged s 4096 t 4096))
unfolding Prints
prints_printed s t = (only s t (judged s 4096 t 4096) refl).0

-- and exactly one thing is what the program writes
pub prints_one : (s t : List ℕ) → One (Prints s t)
unfolding Prints
prints_one s t = let y = only s t (judged s 4096 t 4096) refl in (printed_by (judged s 4096 t 4096), y.0, y.1)

-- ---- ended by byte 10

-- each word
shown_ended : (k : Ordering) → Ended (shown k)
shown_ended Less = (bytes "(less)", refl)
shown_ended Equal = (bytes "(equal)", refl)
shown_ended Greater = (bytes "(greater)", refl)

-- a refusal too
shows_ended : (v : Judgement (Circuit × Circuit)) (w : List ℕ) → PrintsBy v w → Ended w
unfolding PrintsBy
shows_ended (away r u l) w e = rw e (three_numbers_ended (bytes "(turned-away ") _ l u)
shows_ended (fine (c, d)) w (k, x, e) = rw e (shown_ended k)

-- the last byte that the program writes is 10
pub prints_ended : (s t w : List ℕ) → Prints s t w → Ended w
unfolding Prints
prints_ended s t w p = shows_ended (judged s 4096 t 4096) w p
