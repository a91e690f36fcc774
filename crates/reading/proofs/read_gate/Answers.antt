-- `reading::read_gate` meets its contract. Assumes nothing.
use lib.ListN.{drop}
use Rattle.reading.proofs.Lines.{gate_is}
use Rattle.reading.proofs.read_gate.Goals as goal

pub returns-in-Some : goal.returns-in-Some
returns-in-Some c =
    let a = c.args in
    let i = c.in-Some.ensures in
    (rw (gate_is (drop a.at a.s.now), i.0), i.1)

pub returns-in-Some-powered_line : goal.returns-in-Some-powered_line
returns-in-Some-powered_line c =
    let a = c.args in
    let i = rw c.in_default.is at c.delimited_number.ensures in
    let j = c.in-Some-powered_line.ensures in
    (rw (gate_is (drop a.at a.s.now), i, j.0), j.1)

pub returns-in-Some-powered_line-2 : goal.returns-in-Some-powered_line-2
returns-in-Some-powered_line-2 c =
    let a = c.args in
    let i = rw c.in_default.is at c.delimited_number.ensures in
    let j = rw c.in_default-powered_line.is at c.powered_line.ensures in
    let k = c.in-Some-powered_line-2.ensures in
    (rw (gate_is (drop a.at a.s.now), i, j, k.0), k.1)

pub returns : goal.returns
returns c =
    let a = c.args in
    let i = rw c.in_default.is at c.delimited_number.ensures in
    let j = rw c.in_default-powered_line.is at c.powered_line.ensures in
    let k = rw c.in_default-powered_line-2.is at c.powered_line-2.ensures in
    rw (gate_is (drop a.at a.s.now), i, j, k) c.powered_line-3.ensures
