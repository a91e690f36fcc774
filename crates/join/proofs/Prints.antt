-- What the program writes: for every two texts exactly one thing, and its last byte is 10. Assumes nothing.
use mathlib.Core.Path.{◌≡◌, refl, ap, ◌∙◌}
use mathlib.Core.List.{List}
use Prim.Native.Nat.{ℕ}
use Rattle.gates.proofs.Theorem.{nf, nf_reduced, reduced_unique}
use Rattle.text.specs.Refusals.{number_of}
use Rattle.text.specs.Text.{bytes, circuit_text}
use Rattle.forms.specs.Forms.{text_turned_away}
use Rattle.forms.proofs.Ended.{three_numbers_ended}
use Rattle.habits.specs.Habits.{Judgement, fine, away, Circuit}
use Rattle.habits.specs.Demands.{One}
use Rattle.habits.proofs.Yields.{yields_fine}
use Rattle.jobs.specs.Jobs.{as_text}
use Rattle.joins.specs.Join.{judged}
use Rattle.joins.proofs.One.{yields_judged}
use Rattle.writing.proofs.Ended.{Ended}
use Rattle.printing.proofs.Prints.{shown_ended}
use Rattle.join.specs.Output.{PrintsBy, Prints}

-- ---- exactly one

-- what is written, computed from the normal form of the join
unfoldable pub printed_by : Judgement Circuit → List ℕ
printed_by (away r u l) = text_turned_away (number_of r) l u
printed_by (fine c) = circuit_text c.lines (nf c.gates)

-- it is what the program writes, and nothing else is
only : (s t : List ℕ) (v : Judgement Circuit) → judged s 4096 t ≡ v → PrintsBy v (printed_by v) × ((w : List ℕ) → PrintsBy v w → w ≡ printed_by v)
unfolding PrintsBy printed_by
only s t (away r u l) q = (refl, λ w e. e)
only s t (fine c) q =
    let x = nf_reduced c.lines c.gates (yields_fine (yields_judged s 4096 t) q).0.valid in
    ((_, x, refl), λ w z. z.2 ∙ ap (circuit_text c.lines) (reduced_unique c.lines z.1 x))

-- so for every two texts the program writes it
pub prints_printed : (s t : List ℕ) → Prints s t (printed_by (judged s 4096 t))
unfolding Prints
prints_printed s t = (only s t (judged s 4096 t) refl).0

-- and exactly one thing is what the program writes
pub prints_one : (s t : List ℕ) → One (Prints s t)
unfolding Prints
prints_one s t = let y = only s t (judged s 4096 t) refl in (printed_by (judged s 4096 t), y.0, y.1)

-- ---- ended by byte 10

shows_ended : (v : Judgement Circuit) (w : List ℕ) → PrintsBy v w → Ended w
unfolding PrintsBy
shows_ended (away r u l) w e = rw e (three_numbers_ended (bytes "(turned-away ") _ l u)
shows_ended (fine c) w (r, x, e) = rw e (shown_ended as_text c.lines r)

-- the last byte that the program writes is 10
pub prints_ended : (s t w : List ℕ) → Prints s t w → Ended w
unfolding Prints
prints_ended s t w p = shows_ended (judged s 4096 t) w p
