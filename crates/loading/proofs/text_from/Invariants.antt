-- Between two lines the reader stands in the text that was passed, and the loading at the reader's place and the progress (`Stands`). The place
-- rises in each turn and stays in the text. Assumes nothing.
use Rattle.std.proofs.Common.{length, ◌-◌, ◌≡◌, drop}
use Rattle.text.specs.Judging.{judge}
use Rattle.loading.specs.Loaded.{Stands}
use Rattle.loading.proofs.text_from.Given as goal

abbrev pub invariant-loop-r : goal.invariant-loop-r
invariant-loop-r l = record {
  text : l.r.text ≡ l.fn.r.text;
  same : length l.list ≡ length l.initial.list;
  stands : Stands l.kind (judge l.kind (drop l.fn.r.place l.fn.r.text.now)) l.fn.r.text.now l.r.place l.p l.list;
}

abbrev pub decreases-loop-r : goal.decreases-loop-r
decreases-loop-r l = length l.r.text.now - l.r.place
