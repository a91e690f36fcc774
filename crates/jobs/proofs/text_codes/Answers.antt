-- `jobs::text_codes` meets its contract. Assumes nothing.
use Rattle.jobs.proofs.Handed.{answerable, loaded_hands}
use Rattle.jobs.proofs.text_codes.Goals as goal

pub answer_loaded-requires : goal.answer_loaded-requires
answer_loaded-requires c = let x = c.load_reduced-reduced in answerable _ x.new.codes x.result x.ensures

pub returns : goal.returns
returns c =
    let b = c.args in
    let x = c.load_reduced-reduced in
    let y = c.answer_loaded.ensures in
    rw (y.0, y.1) (loaded_hands b.kind b.text.now b.answer.now x.new.codes b.room x.result x.auto.codes x.ensures)
