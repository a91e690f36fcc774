-- `step` looks for the partner, and merges or pushes. Assumes nothing.
use native.Mathlib.Omega.{arith}
use Rattle.merging.proofs.Stepping.{stepped_merged, stepped_pushed}
use Rattle.merging.proofs.Turning.{code_below}
use Rattle.merging.proofs.step.Goals as goal

pub find_partner-requires-clause-n_in_bounds : goal.find_partner-requires-clause-n_in_bounds
find_partner-requires-clause-n_in_bounds c = (omega arith, omega arith, code_below _ c.requires.code)

pub push-requires-clause-n_in_bounds : goal.push-requires-clause-n_in_bounds
push-requires-clause-n_in_bounds c = (omega arith, omega arith, code_below _ c.requires.code)

pub returns-in-Some-clause-stepped : goal.returns-in-Some-clause-stepped
returns-in-Some-clause-stepped c =
    stepped_merged _ _ _ _ (omega arith) c.in-Some.ensures.found _ c.merge.ensures c.requires.codes c.requires.code

pub returns-in-None-clause-stepped : goal.returns-in-None-clause-stepped
returns-in-None-clause-stepped c =
    stepped_pushed _ _ _ (omega arith) _ c.push.ensures.list_after c.requires.codes c.requires.code c.in-None.ensures.found
