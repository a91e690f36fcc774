-- `loading::next_gate` meets its contract. Assumes nothing.
use mathlib.Core.Path.{refl, sym, ◌∙◌}
use native.Mathlib.Omega.{arith}
use Rattle.std.proofs.lemmas.Result.{err_from_is_err_and}
use Rattle.text.specs.Judging.{gates}
use Rattle.loading.proofs.Loading.{ready_gate, gate_lines, circuit_count, refused, room_left, gate_taken}
use Rattle.loading.proofs.next_gate.Goals as goal

pub gate_line-requires : goal.gate_line-requires
gate_line-requires c = let w = ready_gate c.requires in record { at_in_bounds = omega (arith, w.more); before_bound = w.sound.few }

pub returns-in_err-gate : goal.returns-in_err-gate
returns-in_err-gate c =
    let w = ready_gate c.requires in
    let e = c.in_err-gate.ensures in
    let p = err_from_is_err_and c.from_residual.result c.from_residual.ensures.1 in
    rw (p.1, p.2) (sym (gate_lines c.requires) ∙ refused w (e.gate_line_of _ (circuit_count w)) e.gate_line_ahead)

pub bounds-list-n : goal.bounds-list-n
unfolding gates
bounds-list-n c = let w = ready_gate c.requires in omega (arith, room_left w (c.in_ok-gate.ensures.gate_line_of _ (circuit_count w)), w.room)

pub returns : goal.returns
returns c =
    let w = ready_gate c.requires in
    let e = c.in_ok-gate.ensures in
    rw (c.encode.ensures, ← gate_lines c.requires) (gate_taken w (e.gate_line_of _ (circuit_count w)) refl e.gate_line_ahead)
