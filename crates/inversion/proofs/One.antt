-- For every entry there is exactly one exit that the contract of invert allows. Assumes nothing.
use Rattle.text.specs.declared.Kind.TheVariants.{Circuit}
use lib.ListN.{length}
use Rattle.habits.specs.Demands.{One}
use Rattle.jobs.specs.Jobs.{reducing, Entry, judged}
use Rattle.jobs.proofs.One.{settled_one}
use Rattle.inversion.specs.Invert.{inverse_judged, Invert}
use Rattle.inversion.proofs.Inverted.{inverse_valid}

-- the contract binds completely
pub invert_one : (e : Entry) → One (Invert e)
unfolding Invert judged
invert_one e = settled_one reducing e (inverse_judged (judged Circuit e)) (λ h c q. inverse_valid e.text (length e.list) q)
