-- 33 zeros are a set. Assumes nothing.
use Rattle.sites.proofs.Sets.{sites_none}
use Rattle.sites.proofs.SiteSet.new.Goals as goal

pub invariant_of-result : goal.invariant_of-result
invariant_of-result c = sites_none
