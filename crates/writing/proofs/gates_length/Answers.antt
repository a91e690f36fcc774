-- `gates_length` sums the lengths of the lines. The invariant: the total is the length of the lines of the codes so far, at most 16 for each.
-- Assumes nothing.
use mathlib.Core.Path.{sym, ap}
use native.Mathlib.Omega.{arith}
use native.Mathlib.Nat.{le_refl}
use lib.ListN.{length}
use Rattle.gates.proofs.Codes.{below}
use Rattle.gates.proofs.CodeLists.{code_at}
use Rattle.writing.proofs.Lines.{code_proper, no_lines, lines_length}
use Rattle.writing.proofs.gates_length.Goals as goal

pub loop-code-init : goal.loop-code-init
loop-code-init c = (sym (ap length no_lines), omega arith)

pub decode-requires : goal.decode-requires
decode-requires c = below (le_refl 32) (code_at 32 c.args.codes.now c.loop-code.code-index 0 (omega arith) c.requires.1)

pub gate_length-total-requires : goal.gate_length-total-requires
gate_length-total-requires c = rw c.decode.ensures (code_proper _ (code_at 32 c.args.codes.now c.loop-code.code-index 0 (omega arith) c.requires.1))

pub loop-code-preserved : goal.loop-code-preserved
loop-code-preserved c =
    let e = rw c.decode.ensures at c.gate_length-total.ensures.0 in
    (omega (arith, e, lines_length c.loop-code.code-index c.args.codes.now (omega arith)), omega arith)
