-- `reduce` merges partners, brings what is left into order, and clears the places of the gates that are gone. Assumes nothing.
use Rattle.reduction.proofs.Steps.{all_shortest, all_reduced}
use Rattle.reduction.proofs.reduce.Goals as goal

pub order-requires-clause-shortest : goal.order-requires-clause-shortest
order-requires-clause-shortest c = all_shortest _ c.requires.all_codes _ _ c.merge_partners-r.ensures

pub returns : goal.returns
returns c =
    let m = c.merge_partners-r in
    let o = c.order in
    all_reduced _ c.requires.all_codes _ _ m.ensures _ m.auto.list o.auto.list o.ensures _ (c.fill.ensures.after (λ y e. e))
