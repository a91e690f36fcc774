-- `capi::yilgorza_invert` meets its contract, by what is handed over. Assumes nothing.
use Rattle.capi.proofs.Told.{told}
use Rattle.capi.proofs.yilgorza_invert.Goals as goal

pub returns : goal.returns
returns c =
    let handed = c.invert_codes-d in
    told handed.ensures c.hand_over.ensures
