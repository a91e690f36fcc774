-- `select` notes the next uses, opens the first runs and takes the gates. Assumes nothing.
use native.Mathlib.Omega.{arith}
use mathlib.Core.Path.{sym, ap, ◌∙◌}
use lib.ListN.{length, take}
use lib.Seq.{take-length}
use Rattle.selection.proofs.Ordering.{rest_codes, start_numbers, start_left, start_state}
use Rattle.selection.proofs.select.Goals as goal

pub note_uses-requires-clause-by_index : goal.note_uses-requires-clause-by_index
note_uses-requires-clause-by_index c = start_left c.args.left.now c.requires.left_bound c.requires.all_codes

pub open_all-requires-clause-shortest : goal.open_all-requires-clause-shortest
open_all-requires-clause-shortest c = rw (rest_codes c.args.left.now c.requires.all_codes) c.requires.shortest

pub open_all-requires-clause-state : goal.open_all-requires-clause-state
open_all-requires-clause-state c =
    let n = start_numbers c.args.left.now c.requires.left_bound c.requires.all_codes in
    rw c.new.ensures (start_state n (omega arith) (omega arith) c.note_uses.ensures)

pub take_all-requires-clause-rest_value : goal.take_all-requires-clause-rest_value
take_all-requires-clause-rest_value c =
    let left = c.args.left.now in
    let e = c.requires.left_value in
    (omega (arith, ap (λ x. length x) e), rest_codes left c.requires.all_codes ∙ sym (take-length left) ∙ ap (λ x. take (length left) x) e)
