-- `capi::answer_text` meets its contract, by what is handed over. Assumes nothing.
use Rattle.capi.proofs.Told.{told}
use Rattle.capi.proofs.answer_text.Goals as goal

pub returns : goal.returns
returns c =
    let handed = c.text_codes-d in
    told handed.ensures c.hand_over.ensures
