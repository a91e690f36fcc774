-- What the program writes: for every text exactly one thing, and its last byte is 10. Assumes nothing.
use Prim.Native.Nat.{ℕ}
use mathlib.Core.Path.{◌≡◌, refl}
use mathlib.Core.List.{List}
use Rattle.gates.proofs.Theorem.{nf, nf_reduced}
use Rattle.text.specs.declared.Kind.TheVariants.{Circuit}
use Rattle.text.specs.Refusals.{number_of}
use Rattle.text.specs.Text.{circuit_text}
use Rattle.text.specs.Judging.{Judged, turned_away, accepted}
use Rattle.writing.specs.Decimal as form
use Rattle.habits.specs.Demands.{One}
use Rattle.jobs.specs.Jobs.{as_text, judged_text}
use Rattle.inversion.specs.Invert.{inverse_judged}
use Rattle.inversion.proofs.Inverted.{inverse_valid}
use Rattle.console.specs.Output.{PrintsBy}
use Rattle.writing.proofs.Ended.{Ended}
use Rattle.printing.proofs.Prints.{printed_one, shows_ended}
use Rattle.invert.specs.Output.{Prints}

-- ---- exactly one

-- what is written, computed from the normal form of the circuit
unfoldable pub printed_by : Judged → List ℕ
printed_by (turned_away r l) = form.turned_away (number_of r) l
printed_by (accepted h c) = circuit_text h.lines (nf c)

-- it is what the program writes
pub prints_printed : (s : List ℕ) → Prints s (printed_by (inverse_judged (judged_text Circuit s 4096)))
unfolding Prints PrintsBy printed_by
prints_printed s = go (inverse_judged (judged_text Circuit s 4096)) refl
  where
    go : (d : Judged) → inverse_judged (judged_text Circuit s 4096) ≡ d → PrintsBy as_text d (printed_by d)
    go (turned_away r l) q = refl
    go (accepted h c) q = (nf c, nf_reduced h.lines c (inverse_valid s 4096 q), refl)

-- and nothing else is
pub prints_one : (s : List ℕ) → One (Prints s)
unfolding Prints
prints_one s = printed_one as_text (inverse_judged (judged_text Circuit s 4096)) (λ h c q. inverse_valid s 4096 q)

-- ---- ended by byte 10

pub prints_ended : (s w : List ℕ) → Prints s w → Ended w
unfolding Prints
prints_ended s w x = shows_ended as_text (inverse_judged (judged_text Circuit s 4096)) w x
