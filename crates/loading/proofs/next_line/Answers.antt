-- `loading::next_line` meets its contract. Assumes nothing.
use Rattle.loading.proofs.Loading.{ready, moves}
use Rattle.loading.proofs.next_line.Goals as goal

pub next_of_cascade-requires : goal.next_of_cascade-requires
next_of_cascade-requires c = ready c.requires c.in-Cascade.is

pub next_gate-requires : goal.next_gate-requires
next_gate-requires c = ready c.requires c.in-Circuit.is

pub returns-in-Cascade : goal.returns-in-Cascade
returns-in-Cascade c =
    moves c.requires c.next_of_cascade.result c.next_of_cascade.new.list c.in-Cascade.is c.next_of_cascade.ensures

pub returns-in-Circuit : goal.returns-in-Circuit
returns-in-Circuit c =
    moves c.requires c.next_gate.result c.next_gate.new.list c.in-Circuit.is c.next_gate.ensures
