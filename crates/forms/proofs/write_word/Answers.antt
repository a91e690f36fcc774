-- `write_word` writes its bytes at the front. Assumes nothing.
use Rattle.writing.proofs.Bytes.{at_front}
use Rattle.forms.proofs.write_word.Goals as goal

pub returns : goal.returns
returns c = let w = at_front c.put.ensures in record { value = w.0; out_after = w.1 }
