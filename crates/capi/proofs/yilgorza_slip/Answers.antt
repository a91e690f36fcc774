-- `capi::yilgorza_slip` meets its contract, by what is handed over. Assumes nothing.
use Rattle.capi.proofs.Told.{told_two}
use Rattle.capi.proofs.yilgorza_slip.Goals as goal

pub returns : goal.returns
returns c =
    let handed = c.slip_codes-d in
    told_two handed.ensures c.hand_over_two.ensures
