-- `lowest` takes the lowest digit of the targets, and then that of the target's row. Assumes nothing.
use native.Mathlib.Omega.{arith}
use Rattle.sites.proofs.Sets.{target_lt, lowest_first}
use Rattle.sites.proofs.lowest.Goals as goal

pub bounds-rows-target : goal.bounds-rows-target
bounds-rows-target c = let p = c.requires in omega (arith, target_lt _ p.sites p.by_index.0 p.by_index.1 p.by_index.2)

pub returns : goal.returns
returns c = let p = c.requires in lowest_first _ p.sites p.by_index.0 p.by_index.1 p.by_index.2
