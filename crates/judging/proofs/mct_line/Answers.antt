-- `judging::mct_line` meets its contract. Assumes nothing.
use lib.ListN.{drop}
use Rattle.text.specs.Reading.{parse}
use Rattle.reading.specs.Seen.{only_mct}
use Rattle.gathering.proofs.Gathered.{negated_few}
use Rattle.tokens.proofs.Places.{told}
use Rattle.rules.specs.Verdicts.{seen_verdict}
use Rattle.judging.proofs.Lines.{mct_lines, line_malformed, line_sound, line_broken, with_gathered_is, with_gathered_none}
use Rattle.judging.proofs.mct_line.Goals as goal

pub returns-in_default : goal.returns-in_default
returns-in_default c =
    let a = c.args in
    let s = drop a.at a.s.now in
    let h = rw c.in_default.is at c.read_mct.ensures in
    record { mct_line_of = λ l e. line_malformed mct_lines a.head a.before l s (with_gathered_none (only_mct (parse s)) h); mct_line_ahead = c.line_number-line.ensures }

pub mct_rules-requires : goal.mct_rules-requires
mct_rules-requires c =
    let a = c.args in
    let g = with_gathered_is (only_mct (parse (drop a.at a.s.now))) c.in-Some.ensures.0 in
    record { le_lines = c.requires.le_lines; total_bound = (c.requires.before_bound.1, negated_few g.0 g.1) }

pub returns-in-Err : goal.returns-in-Err
returns-in-Err c =
    let a = c.args in
    let s = drop a.at a.s.now in
    let g = with_gathered_is (only_mct (parse s)) c.in-Some.ensures.0 in
    record { mct_line_of = λ l e. line_broken mct_lines a.head a.before l s g.2 (told seen_verdict (c.mct_rules.ensures g.0 l g.1 e) c.in-Err.is); mct_line_ahead = c.line_number-line.ensures }

pub returns : goal.returns
returns c =
    let a = c.args in
    let s = drop a.at a.s.now in
    let h = c.in-Some.ensures in
    let g = with_gathered_is (only_mct (parse s)) h.0 in
    record { mct_line_of = (g.0, g.1, λ l e. line_sound mct_lines a.head a.before l s g.2 (told seen_verdict (c.mct_rules.ensures g.0 l g.1 e) c.in_default-mct_rules.is)); mct_line_ahead = h.1 }
