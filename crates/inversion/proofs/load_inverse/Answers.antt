-- `inversion::load_inverse` meets its contract. Assumes nothing.
use mathlib.Core.Path.{◌≡◌, ◌∙◌}
use mathlib.Core.List.{◌++◌}
use native.Mathlib.Omega.{arith}
use native.Mathlib.Nat.{le_refl}
use lib.ListN.{length, take, drop, length-append}
use lib.Seq.{take_at, length-take-le}
use Rattle.std.proofs.lemmas.Result.{err_from_is_err_and}
use Rattle.composition.specs.Composition.{inverse_codes}
use Rattle.composition.proofs.Composed.{all_codes_inverse}
use Rattle.inversion.proofs.Handed.{inverts, refuses}
use Rattle.inversion.proofs.load_inverse.Goals as goal

pub returns-in_err-loaded : goal.returns-in_err-loaded
returns-in_err-loaded c =
    let p = err_from_is_err_and c.from_residual.result c.from_residual.ensures.1 in
    rw (p.1, p.2) (refuses c.in_err-loaded.ensures)

pub reduce_loaded-requires : goal.reduce_loaded-requires
reduce_loaded-requires c =
    let w = c.in_ok-loaded.ensures.renderable in
    let m = c.in_ok-loaded.loaded.gates in
    let codes = c.load_text.new.codes in
    let i = c.invert in
    let n : length i.new.list ≡ m = i.auto.list ∙ length-take-le m codes (omega (arith, w.few, c.load_text.auto.codes, c.requires)) in
    let e : take m (i.new.list ++ drop m codes) ≡ inverse_codes (take m codes) = take_at i.new.list (drop m codes) m n ∙ i.ensures in
    record {
      loaded_in_bounds = omega (arith, n, length-append i.new.list (drop m codes));
      renderable = record { narrow = w.narrow; few = w.few; codes = rw e (all_codes_inverse 32 _ (le_refl 32) w.codes) };
    }

pub returns : goal.returns
returns c =
    let b = c.args in
    let w = c.in_ok-loaded.ensures in
    let m = c.in_ok-loaded.loaded.gates in
    let codes = c.load_text.new.codes in
    let i = c.invert in
    let y = c.reduce_loaded.ensures in
    let n : length i.new.list ≡ m = i.auto.list ∙ length-take-le m codes (omega (arith, w.renderable.few, c.load_text.auto.codes, c.requires)) in
    rw y.head (inverts b.text.now b.room w (take_at i.new.list (drop m codes) m n ∙ i.ensures) y.reduced)
