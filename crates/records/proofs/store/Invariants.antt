-- `store` has written the first i records. Assumes nothing.
use Rattle.std.proofs.Common.{◌≡◌, length}
use Rattle.records.specs.Records.{padded}
use Rattle.records.proofs.Lists.{pasted}
use Rattle.records.proofs.store.Given as goal

abbrev pub invariant-loop-i : goal.invariant-loop-i
invariant-loop-i g l = l.list ≡ pasted (padded g.R.Record.of l.codes (length l.initial.list)) l.initial.list l.i
