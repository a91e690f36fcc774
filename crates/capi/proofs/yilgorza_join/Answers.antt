-- `capi::yilgorza_join` meets its contract, by what is handed over. Assumes nothing.
use Rattle.capi.proofs.Told.{told_text}
use Rattle.capi.proofs.yilgorza_join.Goals as goal

pub returns : goal.returns
returns c =
    let handed = c.join_codes-d in
    told_text handed.ensures c.hand_over.ensures
