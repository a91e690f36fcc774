-- `GateStacks::new` makes empty stacks. Assumes nothing.
use Rattle.stacks.specs.Stacks.{by_site, by_target, by_control}
use Rattle.stacks.proofs.Stacking.{stacks_empty}
use Rattle.stacks.proofs.GateStacks.new.Goals as goal

pub returns : goal.returns
returns c l =
    let e = c.requires in
    record {
      of_sites = stacks_empty by_site 1056 l _ _ e.sites.tops e.sites.room;
      of_targets = stacks_empty by_target 33 l _ _ e.targets.tops e.targets.room;
      of_controls = stacks_empty by_control 33 l _ _ e.controls.tops e.controls.room;
    }
