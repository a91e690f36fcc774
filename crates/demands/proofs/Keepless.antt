-- Map and reduce say what they said before there were keep lines: map of every text whose line 2 is no keep line, reduce of every text.
-- Assumes nothing.
use mathlib.Core.Path.{◌≡◌}
use Rattle.text.specs.declared.Kind.TheVariants.{Cascade}
use Rattle.text.proofs.JudgedBy.{NoKeep}
use Rattle.text.proofs.Keepless.{judge, judged_before, circuits_before}
use Rattle.jobs.specs.Jobs as now
use Rattle.jobs.specs.Jobs.{Job, Entry, Exit}
use Rattle.demands.proofs.JudgedBy.{Says, Unchanged, AsNow, says_as_now}

pub keepless_as_now : AsNow judge NoKeep
keepless_as_now = record { cascades = judged_before Cascade; circuits = circuits_before }

-- "A text without a keep line is judged and answered as before": number, line, gates, bytes, every record and every byte
pub says_before : (j : Job) (e : Entry) (x : Exit) → Unchanged NoKeep j e.text → now.Says j e x ≡ Says judge j e x
says_before = says_as_now judge NoKeep keepless_as_now
