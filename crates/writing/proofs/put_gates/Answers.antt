-- `put_gates` writes a line for each code. The invariant: the lines of the codes done are written, and the other bytes are as they were.
-- Assumes nothing.
use Prim.Native.Nat.{◌+◌}
use native.Mathlib.Omega.{arith}
use native.Mathlib.Nat.{le_refl}
use Rattle.gates.proofs.Codes.{below}
use Rattle.gates.proofs.CodeLists.{code_at}
use Rattle.writing.proofs.Bytes.{nothing, both}
use Rattle.writing.proofs.Lines.{code_proper, no_lines, more_lines, lines_all, lines_length}
use Rattle.writing.proofs.put_gates.Goals as goal

pub loop-code-init : goal.loop-code-init
loop-code-init c = let a = c.args in rw no_lines (nothing a.out.now a.at)

pub decode-requires : goal.decode-requires
decode-requires c = below (le_refl 32) (code_at 32 c.args.codes.now c.loop-code.code-index 0 (omega arith) c.requires.all_codes)

pub put_gate-next-requires : goal.put_gate-next-requires
put_gate-next-requires c =
    let L = c.args.codes.now in
    let i = c.loop-code.code-index in record { proper = rw c.decode.ensures (code_proper _ (code_at 32 L i 0 (omega arith) c.requires.all_codes)); g_in_bounds = rw c.decode.ensures (omega (arith, lines_length i L (omega arith), lines_all (i + 1) L)) }

pub loop-code-preserved : goal.loop-code-preserved
loop-code-preserved c =
    let L = c.args.codes.now in
    let i = c.loop-code.code-index in
    both (more_lines i L (omega arith)) (omega (arith, lines_all (i + 1) L)) c.loop-code.invariant (rw c.decode.ensures at c.put_gate-next.ensures)
