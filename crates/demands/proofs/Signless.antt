-- Map and reduce say what they said before controls had signs: of every text without a keep line but a cascade with a negated control, which was
-- malformed at its line; so map of every such text without a minus sign, which is judged, expanded and quoted as before, and reduce of every text. Assumes nothing.
use mathlib.Core.Path.{◌≡◌}
use mathlib.Core.Logic.{◌⊎◌, inl, inr}
use lib.ListN.{drop}
use Rattle.text.specs.declared.Kind.TheVariants.{Cascade}
use Rattle.text.specs.Reading.{cut}
use Rattle.text.specs.Judging as judging
use mathlib.Core.List.{List}
use Prim.Native.Nat.{ℕ}
use Rattle.text.proofs.JudgedBy.{NoKeep, Unkept}
use Rattle.text.proofs.Unsigned.{judge}
use Rattle.text.proofs.Signless.{Signless, Changed, changed_only, judged_before, circuits_before}
use Rattle.jobs.specs.Jobs as now
use Rattle.jobs.specs.Jobs.{Job, takes, Entry, Exit}
use Rattle.demands.proofs.JudgedBy.{Says, says_same, Unchanged, AsNow, says_as_now}

-- a cascade with neither a keep line nor a minus sign
abbrev pub SignlessUnkept : List ℕ → Type 0
SignlessUnkept s = NoKeep s × Signless s

pub signless_as_now : AsNow judge SignlessUnkept
signless_as_now = record { cascades = λ s w. judged_before Cascade s w.0 w.1; circuits = circuits_before }

-- number, line, gates, bytes, every record and every byte
pub says_before : (j : Job) (e : Entry) (x : Exit) → Unchanged SignlessUnkept j e.text → now.Says j e x ≡ Says judge j e x
says_before = says_as_now judge SignlessUnkept signless_as_now

-- of every text without a keep line: as before, or the text is a cascade that was malformed at a line with a negated control
pub says_changed_only : (j : Job) (e : Entry) (x : Exit) → Unkept (takes j) e.text → (now.Says j e x ≡ Says judge j e x) ⊎ Changed (takes j) (judge (takes j) e.text) 0 (drop 1 (cut e.text))
says_changed_only j e x u = go (changed_only (takes j) e.text u)
  where
    go : (judging.judge (takes j) e.text ≡ judge (takes j) e.text) ⊎ Changed (takes j) (judge (takes j) e.text) 0 (drop 1 (cut e.text)) → (now.Says j e x ≡ Says judge j e x) ⊎ Changed (takes j) (judge (takes j) e.text) 0 (drop 1 (cut e.text))
    go (inl q) = inl (says_same judge j e x q)
    go (inr w) = inr w
