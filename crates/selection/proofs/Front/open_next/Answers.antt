-- `open_next` goes by the kind of the next use. Assumes nothing.
use Rattle.selection.proofs.Running.{next_opened}
use Rattle.selection.proofs.Front.open_next.Goals as goal

pub returns-then-line_of-y : goal.returns-then-line_of-y
returns-then-line_of-y c = next_opened c.args.y c.requires.state c.open_run.ensures

pub returns-else-line_of-y : goal.returns-else-line_of-y
returns-else-line_of-y c = next_opened c.args.y c.requires.state c.open_run-else-line_of-y.ensures
