-- The refusal that the program writes is one that reduce's program writes for the text, neither 2 nor 10. Assumes nothing.
use Prim.Native.Nat.{ℕ}
use mathlib.Core.Path.{◌≡◌}
use mathlib.Core.Logic.{◌≢◌}
use mathlib.Core.List.{List}
use Rattle.text.specs.declared.Refusal.{Refusal}
use Rattle.text.specs.declared.Kind.TheVariants.{Circuit}
use Rattle.text.specs.Refusals.{number_of}
use Rattle.text.specs.Judging.{turned_away}
use Rattle.jobs.specs.Jobs.{takes, judged_text}
use Rattle.inversion.specs.Invert.{inverse_judged}
use Rattle.inversion.proofs.Inverted.{inverse_away}
use Rattle.console.specs.declared.Program.TheVariants.{Reduce}
use Rattle.printing.proofs.Numbers as printing

pub never_2_or_10 : (s : List ℕ) {r : Refusal} {l : ℕ} → inverse_judged (judged_text Circuit s 4096) ≡ turned_away r l → (number_of r ≢ 2) × (number_of r ≢ 10)
unfolding takes
never_2_or_10 s q = printing.never_2_or_10 Reduce s (inverse_away (judged_text Circuit s 4096) q)
