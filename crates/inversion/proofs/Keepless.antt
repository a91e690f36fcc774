-- Invert says of every text what it said before there were keep lines: a keep line was malformed in a circuit text, and is. Assumes nothing.
use Prim.Native.Nat.{ℕ}
use mathlib.Core.Path.{◌≡◌}
use mathlib.Core.List.{List}
use Rattle.text.specs.declared.Kind.{Kind}
use Rattle.text.specs.declared.Kind.TheVariants.{Circuit}
use Rattle.text.specs.Judging.{Judged}
use Rattle.text.proofs.Keepless.{judge, circuits_before}
use Rattle.jobs.specs.Jobs as jobs
use Rattle.jobs.specs.Jobs.{reducing, Entry, Exit, Settled}
use Rattle.demands.proofs.JudgedBy.{judged_text, judged}
use Rattle.inversion.specs.Invert as now
use Rattle.inversion.specs.Invert.{inverse_judged}

-- invert, with the judging of a text for a parameter
unfoldable pub Invert : (Kind → List ℕ → Judged) → Entry → Exit → Type 0
Invert judge e x = Settled reducing e (inverse_judged (judged judge Circuit e)) x

-- number, line, gates, bytes, every record and every byte
pub keepless_invert : (e : Entry) (x : Exit) → now.Invert e x ≡ Invert judge e x
unfolding now.Invert Invert jobs.judged jobs.judged_text judged judged_text
keepless_invert e x = rw (circuits_before e.text)
