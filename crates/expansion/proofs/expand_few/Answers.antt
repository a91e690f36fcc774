-- `expand_few` writes a NOT, one gate or five. Assumes nothing.
use mathlib.Core.Path.{◌≡◌, ap, ◌∙◌}
use mathlib.Core.List.{[]}
use native.Mathlib.Omega.{arith}
use lib.ListN.{length, get_or}
use Rattle.expansion.proofs.Few.{no_control, one_control, two_controls, length_toffoli}
use Rattle.expansion.proofs.expand_few.Goals as goal

pub put-requires : goal.put-requires
put-requires c = let a = c.args in omega (arith, c.requires.target_in_bounds, ap length (no_control [] a.controls.now a.target (omega arith)))

pub returns-in-empty : goal.returns-in-empty
returns-in-empty c = let a = c.args in let k : length a.controls.now ≡ 0 = omega arith in rw (no_control [] a.controls.now a.target k) c.put.ensures

pub put-requires-in-len1 : goal.put-requires-in-len1
put-requires-in-len1 c = let a = c.args in omega (arith, c.requires.target_in_bounds, ap length (one_control [] a.controls.now a.target (omega arith)))

pub returns-in-len1 : goal.returns-in-len1
returns-in-len1 c = let a = c.args in let k : length a.controls.now ≡ 1 = omega arith in rw (one_control [] a.controls.now a.target k) c.put-in-len1.ensures

pub toffoli-requires : goal.toffoli-requires
toffoli-requires c =
    let l = c.args.controls.now in
    omega (arith, c.requires.target_in_bounds, ap length (two_controls [] l c.args.target (omega arith)) ∙ length_toffoli (get_or l 0 0) (get_or l 1 0) c.args.target)

pub returns-in-len2-up : goal.returns-in-len2-up
returns-in-len2-up c = let a = c.args in let k : length a.controls.now ≡ 2 = omega arith in rw (two_controls [] a.controls.now a.target k) c.toffoli.ensures
