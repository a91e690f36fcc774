-- `gate_length` is the length of a gate's line. Assumes nothing.
use mathlib.Core.Path.{ap}
use native.Mathlib.Omega.{arith}
use lib.ListN.{length}
use Rattle.text.specs.Text.{bytes, word}
use Rattle.writing.proofs.Lines.{not_parts, powered_parts, length_one, length_two}
use Rattle.writing.proofs.gate_length.Goals as goal

pub returns-in-Not : goal.returns-in-Not
returns-in-Not c =
    let w = (not_parts c.in-Not.is c.requires).1 in
    (omega (arith, ap length w, length_one (bytes "(not ") c.in-Not.t), omega arith)

pub returns-in-Powered : goal.returns-in-Powered
returns-in-Powered c =
    let w = (powered_parts c.in-Powered.is c.requires).line in
    (omega (arith, ap length w, length_two (word c.in-Powered.p) c.in-Powered.c c.in-Powered.t), omega arith)
