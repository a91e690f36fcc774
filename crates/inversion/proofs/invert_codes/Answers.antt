-- `inversion::invert_codes` meets its contract. Assumes nothing.
use Rattle.jobs.proofs.Handed.{answerable}
use Rattle.inversion.proofs.Handed.{loaded_hands}
use Rattle.inversion.proofs.invert_codes.Goals as goal

pub answer_loaded-requires : goal.answer_loaded-requires
answer_loaded-requires c = let x = c.load_inverse-loaded in answerable _ x.new.codes x.result x.ensures

pub returns : goal.returns
returns c =
    let b = c.args in
    let x = c.load_inverse-loaded in
    let y = c.answer_loaded.ensures in
    rw (y.0, y.1) (loaded_hands b.text.now b.answer.now x.new.codes b.room x.result x.auto.codes x.ensures)
