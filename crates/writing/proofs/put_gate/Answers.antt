-- `put_gate` writes a gate's line; by lengths there is room for a powered gate's. Assumes nothing.
use native.Mathlib.Omega.{arith}
use Rattle.writing.proofs.Lines.{not_parts, powered_parts, length_two}
use Rattle.writing.proofs.put_gate.Goals as goal

pub put_one-requires : goal.put_one-requires
put_one-requires c =
    rw (not_parts c.in-Not.is c.requires.proper).1 at c.requires.g_in_bounds

pub put_powered-requires-clause-t_in_bounds : goal.put_powered-requires-clause-t_in_bounds
put_powered-requires-clause-t_in_bounds c =
    let w = powered_parts c.in-Powered.is c.requires.proper in
    simp length_two (omega (arith, simp length_two at (rw w.line at c.requires.g_in_bounds)))

pub returns-in-Not : goal.returns-in-Not
returns-in-Not c =
    rw (not_parts c.in-Not.is c.requires.proper).1 c.put_one.ensures

pub returns-in-Powered : goal.returns-in-Powered
returns-in-Powered c =
    rw (powered_parts c.in-Powered.is c.requires.proper).line c.put_powered.ensures
