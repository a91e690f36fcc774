-- `jobs::put_out` meets its contract: each way on is that of the function it calls. Assumes nothing.
use mathlib.Core.Path.{refl, sym, ◌∙◌}
use lib.ListN.{length}
use Rattle.jobs.specs.Jobs.{output, writes}
use Rattle.jobs.proofs.Handed.{only_quotes, also_writes}
use Rattle.jobs.proofs.put_out.Goals as goal

pub returns-then-quote_only : goal.returns-then-quote_only
returns-then-quote_only c =
    let b = c.args in
    let i = only_quotes (output (writes b.kind) (length b.answer.now)) (sym c.quote_only.ensures ∙ c.if-quote_only.true) in
    rw i (c.succeed.ensures, refl)

pub returns : goal.returns
returns c =
    let b = c.args in
    let i = also_writes (output (writes b.kind) (length b.answer.now)) (sym c.quote_only.ensures ∙ c.if-quote_only.false) in
    rw i c.answer_text.ensures
