-- `pass_at` exchanges two neighbours that pass. Assumes nothing.
use Rattle.stepping.proofs.OnCodes.{passed}
use Rattle.stepping.proofs.pass_at.Goals as goal

pub returns : goal.returns
returns c =
    let a = c.args in
    rw c.swap.ensures.after (passed a.codes.now a.m a.i a.line c.requires.circuit c.requires.le_i.0 c.requires.le_i.1 c.if-not-pass.ensures)
