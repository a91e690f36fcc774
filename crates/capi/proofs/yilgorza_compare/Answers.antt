-- `capi::yilgorza_compare` meets its contract, by what is handed over. Assumes nothing.
use Rattle.capi.proofs.Told.{told_two}
use Rattle.capi.proofs.yilgorza_compare.Goals as goal

pub returns : goal.returns
returns c =
    let handed = c.compare_codes-d in
    told_two handed.ensures c.hand_over_two.ensures
