-- `judging::gate_line` meets its contract. Assumes nothing.
use lib.ListN.{drop}
use Rattle.tokens.proofs.Places.{told}
use Rattle.rules.specs.Verdicts.{seen_verdict}
use Rattle.judging.proofs.Lines.{gate_lines, line_malformed, line_sound, line_broken}
use Rattle.judging.proofs.gate_line.Goals as goal

pub returns-in_default : goal.returns-in_default
returns-in_default c =
    let a = c.args in
    let h = rw c.in_default.is at c.read_gate.ensures in
    record { gate_line_of = λ l e. line_malformed gate_lines a.head a.before l (drop a.at a.s.now) h; gate_line_ahead = c.line_number-line.ensures }

pub returns-in-Err : goal.returns-in-Err
returns-in-Err c =
    let a = c.args in
    let h = c.in-Some.ensures in
    record { gate_line_of = λ l e. line_broken gate_lines a.head a.before l (drop a.at a.s.now) h.0 (told seen_verdict (c.gate_rules.ensures l e) c.in-Err.is); gate_line_ahead = c.line_number-line.ensures }

pub returns : goal.returns
returns c =
    let a = c.args in
    let h = c.in-Some.ensures in
    record { gate_line_of = λ l e. line_sound gate_lines a.head a.before l (drop a.at a.s.now) h.0 (told seen_verdict (c.gate_rules.ensures l e) c.in_default-gate_rules.is); gate_line_ahead = h.1 }
