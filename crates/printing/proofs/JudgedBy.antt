-- What the programs over one text write if texts are judged in another way: the definition of now, with the judging of a text for a parameter; and
-- what of it is as it was before orders 4, 5, 6 and 8. Assumes nothing.
use mathlib.Core.Path.{◌≡◌}
use mathlib.Core.List.{List}
use Prim.Native.Nat.{ℕ}
use Rattle.text.specs.declared.Kind.{Kind}
use Rattle.text.specs.declared.Refusal.{Refusal}
use Rattle.text.specs.Judging.{Judged, turned_away}
use Rattle.text.proofs.Unsigned as unsigned
use Rattle.text.proofs.JudgedBy.{NoKeep, Unkept}
use Rattle.text.proofs.Keepless as keepless
use Rattle.text.proofs.Lowest as lowest
use Rattle.text.proofs.WideFirst as wide_first
use Rattle.text.proofs.WideFirst.{MeetsBothAt, became_8, became_same}
use Rattle.jobs.specs.Jobs.{takes}
use Rattle.demands.proofs.JudgedBy.{judged_text, Unchanged, AsNow, text_as_now}
use Rattle.demands.proofs.Signless.{SignlessUnkept, signless_as_now}
use Rattle.demands.proofs.Lowest.{FewUnkept, lowest_as_now}
use Rattle.demands.proofs.Keepless.{keepless_as_now}
use Rattle.demands.proofs.WideFirst.{text_became}
use Rattle.writing.specs.Decimal as form
use Rattle.console.specs.declared.Program.{Program}
use Rattle.console.specs.Output as now
use Rattle.console.specs.Output.{job_of, output_of, PrintsBy}

unfoldable pub Prints : (Kind → List ℕ → Judged) → Program → List ℕ → List ℕ → Type 0
Prints judge p s w = PrintsBy (output_of p) (judged_text judge (takes (job_of p)) s 4096) w

prints_as_now : (judge : Kind → List ℕ → Judged) (Same : List ℕ → Type 0) → AsNow judge Same → (p : Program) (s w : List ℕ) → Unchanged Same (job_of p) s → now.Prints p s w ≡ Prints judge p s w
unfolding now.Prints Prints
prints_as_now judge Same a p s w u = rw (text_as_now judge Same a (job_of p) s 4096 u)

-- before controls had signs: map and quote of every text with neither a keep line nor a minus sign, reduce of every text
pub signless_prints : (p : Program) (s w : List ℕ) → Unchanged SignlessUnkept (job_of p) s → now.Prints p s w ≡ Prints unsigned.judge p s w
signless_prints = prints_as_now unsigned.judge SignlessUnkept signless_as_now

-- when spare lines were the lowest ones: map and quote of every text without a keep line in which no gate has more than four controls, reduce of
-- every text
pub few_controls_print : (p : Program) (s w : List ℕ) → Unchanged FewUnkept (job_of p) s → now.Prints p s w ≡ Prints lowest.judge p s w
few_controls_print = prints_as_now lowest.judge FewUnkept lowest_as_now

-- before there were keep lines: map and quote of every text without one, reduce of every text
pub keepless_prints : (p : Program) (s w : List ℕ) → Unchanged NoKeep (job_of p) s → now.Prints p s w ≡ Prints keepless.judge p s w
keepless_prints = prints_as_now keepless.judge NoKeep keepless_as_now

-- when rule 7 was tried before rule 8: every text without a keep line but one that was turned away at a line that meets both rules, for which `(turned-away 7 l)` was
-- written, and `(turned-away 8 l)` is
module _ (p : Program) (s : List ℕ) (u : Unkept (takes (job_of p)) s) where
  pub wide_first_print : ((r : Refusal) (l : ℕ) → judged_text wide_first.judge (takes (job_of p)) s 4096 ≡ turned_away r l → MeetsBothAt (takes (job_of p)) s l → ⊥) → (w : List ℕ) → now.Prints p s w ≡ Prints wide_first.judge p s w
  unfolding now.Prints Prints
  wide_first_print n w = rw (became_same (text_became (takes (job_of p)) s 4096 u) n)

  pub prints_8 : {r : Refusal} {l : ℕ} → judged_text wide_first.judge (takes (job_of p)) s 4096 ≡ turned_away r l → MeetsBothAt (takes (job_of p)) s l
      → (w : List ℕ) → (Prints wide_first.judge p s w ≡ (w ≡ form.turned_away 7 l)) × (now.Prints p s w ≡ (w ≡ form.turned_away 8 l))
  unfolding now.Prints Prints PrintsBy
  prints_8 e m w = let z = became_8 (text_became (takes (job_of p)) s 4096 u) e m in (rw (e, z.0), rw z.1)
