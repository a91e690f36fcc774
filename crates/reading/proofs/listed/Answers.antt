-- `reading::listed` meets its contract. Assumes nothing.
use native.Mathlib.Omega.{arith}
use Rattle.text.specs.Text.{bytes}
use Rattle.text.specs.Reading.{list}
use Rattle.gathering.specs.Gathering.{noted_all, gathered}
use Rattle.reading.specs.Seen.{all_gathered}
use Rattle.reading.proofs.Lines.{word_end}
use Rattle.reading.proofs.listed.Goals as goal

pub returns-in-Some : goal.returns-in-Some
unfolding list all_gathered gathered noted_all
returns-in-Some c =
    let a = c.args in
    let h = c.in-Some.ensures in
    let n = word_end a.s.now (bytes ")") a.at c.in-Some.end h.0 c.requires h.2 in
    (rw (h.0, c.no_controls.ensures), (omega (arith, n), h.2))

pub returns : goal.returns
unfolding list
returns c =
    rw (rw c.in_default.is at c.word.ensures) c.gather.ensures
