-- `expand_with` writes the expansion of a gate with spares: its four smaller circuits and the gates between them, one after the other.
-- Assumes nothing.
use mathlib.Core.Path.{ap}
use mathlib.Core.List.{List}
use Prim.Native.Nat.{ℕ, ◌≤◌}
use native.Mathlib.Omega.{arith}
use native.Mathlib.Nat.{le_refl}
use lib.ListN.{length}
use lib.Seq.{slice}
use borrow.Author.Rules.{rules}
use Rattle.gates.specs.declared.Gate.{Gate}
use Rattle.gates.specs.Circuit.{AllValid}
use Rattle.gates.specs.Inverse.{inverse}
use Rattle.gates.specs.Code.{gates}
use Rattle.gates.proofs.Inverses.{length_inverse}
use Rattle.cascades.specs.Expansion.{joined, expand_with, first_spare}
use Rattle.spares.specs.Spares.{listed}
use Rattle.expansion.specs.Written.{Written}
use Rattle.expansion.proofs.Circuits.{spared_fits, spared_codes}
use Rattle.expansion.proofs.Writing.{both, later}
use Rattle.expansion.proofs.Inverting.{inverse_of}
use Rattle.expansion.proofs.Halves.{spare_there, split}
use Rattle.expansion.proofs.Few.{any_spares}
use Rattle.expansion.proofs.+expand_with.Goals as goal

-- the inverse of gates that still stand in the list
inverse_later : {x y : List Gate} {l m n o : List ℕ} {i j k e : ℕ} → AllValid 32 x → Written x l i m j → i ≤ length l → Written y m j n k → j ≤ length m → Written (inverse (gates (slice i j n))) n k o e → Written (inverse x) n k o e
inverse_later {x = x} f w h u k v = inverse_of 32 x _ (le_refl 32) f (later w h u k) v

pub expand_few-requires-clause-target_in_bounds : goal.expand_few-requires-clause-target_in_bounds
expand_few-requires-clause-target_in_bounds t c = omega (arith, ap length (any_spares (listed c.args.spares) c.args.controls.now c.args.target (omega arith)))

pub returns-then-k-lt3 : goal.returns-then-k-lt3
returns-then-k-lt3 t c = rw (any_spares (listed c.args.spares) c.args.controls.now c.args.target (omega arith)) c.expand_few.ensures

pub m0_spares-for_m0-requires : goal.m0_spares-for_m0-requires
m0_spares-for_m0-requires t c =
    let w = spare_there (search rules) (omega arith) c.requires.spares_of in
    (w.0, omega (arith, c.split_at.ensures.back_len))

pub m1_spares-for_m1-requires : goal.m1_spares-for_m1-requires
m1_spares-for_m1-requires t c =
    let w = spare_there (search rules) (omega arith) c.requires.spares_of in
    (w.0, omega (arith, c.split_at.ensures.front_len))

pub put-m0-requires : goal.put-m0-requires
put-m0-requires t c =
    let w = split (search rules) (omega arith) c.requires.spares_of c.half.ensures c.split_at.ensures.front c.split_at.ensures.back c.as_slice.ensures c.m0_spares-for_m0.ensures c.m1_spares-for_m1.ensures in
    omega arith

pub expand_with-m0_end-requires : goal.expand_with-m0_end-requires
expand_with-m0_end-requires t c =
    let w = split (search rules) (omega arith) c.requires.spares_of c.half.ensures c.split_at.ensures.front c.split_at.ensures.back c.as_slice.ensures c.m0_spares-for_m0.ensures c.m1_spares-for_m1.ensures in
    (omega arith, (w.first, omega arith))

pub put-m1-requires : goal.put-m1-requires
put-m1-requires t c =
    let w = split (search rules) (omega arith) c.requires.spares_of c.half.ensures c.split_at.ensures.front c.split_at.ensures.back c.as_slice.ensures c.m0_spares-for_m0.ensures c.m1_spares-for_m1.ensures in
    omega arith

pub expand_with-m1_end-requires : goal.expand_with-m1_end-requires
expand_with-m1_end-requires t c =
    let w = split (search rules) (omega arith) c.requires.spares_of c.half.ensures c.split_at.ensures.front c.split_at.ensures.back c.as_slice.ensures c.m0_spares-for_m0.ensures c.m1_spares-for_m1.ensures in
    (omega arith, (w.second, omega arith))

pub put-m2-requires : goal.put-m2-requires
put-m2-requires t c =
    let w = split (search rules) (omega arith) c.requires.spares_of c.half.ensures c.split_at.ensures.front c.split_at.ensures.back c.as_slice.ensures c.m0_spares-for_m0.ensures c.m1_spares-for_m1.ensures in
    omega arith

pub invert-m2_end-requires-clause-from_le_to : goal.invert-m2_end-requires-clause-from_le_to
invert-m2_end-requires-clause-from_le_to t c =
    let w = split (search rules) (omega arith) c.requires.spares_of c.half.ensures c.split_at.ensures.front c.split_at.ensures.back c.as_slice.ensures c.m0_spares-for_m0.ensures c.m1_spares-for_m1.ensures in
    (omega arith, omega arith, omega arith)

pub invert-m2_end-requires-clause-all_codes : goal.invert-m2_end-requires-clause-all_codes
invert-m2_end-requires-clause-all_codes t c =
    let w = split (search rules) (omega arith) c.requires.spares_of c.half.ensures c.split_at.ensures.front c.split_at.ensures.back c.as_slice.ensures c.m0_spares-for_m0.ensures c.m1_spares-for_m1.ensures in
    let between = both c.put-m1.ensures (both c.expand_with-m1_end.ensures c.put-m2.ensures) in
    rw (later c.expand_with-m0_end.ensures (omega arith) between (omega arith)) (spared_codes w.first.spared)

pub put-m3-requires : goal.put-m3-requires
put-m3-requires t c =
    let w = split (search rules) (omega arith) c.requires.spares_of c.half.ensures c.split_at.ensures.front c.split_at.ensures.back c.as_slice.ensures c.m0_spares-for_m0.ensures c.m1_spares-for_m1.ensures in
    let between = both c.put-m1.ensures (both c.expand_with-m1_end.ensures c.put-m2.ensures) in
    let m2 = inverse_later (spared_fits w.first.spared) c.expand_with-m0_end.ensures (omega arith) between (omega arith) c.invert-m2_end.ensures in
    omega (arith, length_inverse (expand_with (listed c.m0_spares-for_m0.result) c.split_at.result.0.now (first_spare c.as_slice.result.now)))

pub invert-requires-clause-from_le_to : goal.invert-requires-clause-from_le_to
invert-requires-clause-from_le_to t c =
    let w = split (search rules) (omega arith) c.requires.spares_of c.half.ensures c.split_at.ensures.front c.split_at.ensures.back c.as_slice.ensures c.m0_spares-for_m0.ensures c.m1_spares-for_m1.ensures in
    let between = both c.put-m1.ensures (both c.expand_with-m1_end.ensures c.put-m2.ensures) in
    let m2 = inverse_later (spared_fits w.first.spared) c.expand_with-m0_end.ensures (omega arith) between (omega arith) c.invert-m2_end.ensures in
    (omega arith, omega arith, omega (arith, length_inverse (expand_with (listed c.m0_spares-for_m0.result) c.split_at.result.0.now (first_spare c.as_slice.result.now))))

pub invert-requires-clause-all_codes : goal.invert-requires-clause-all_codes
invert-requires-clause-all_codes t c =
    let w = split (search rules) (omega arith) c.requires.spares_of c.half.ensures c.split_at.ensures.front c.split_at.ensures.back c.as_slice.ensures c.m0_spares-for_m0.ensures c.m1_spares-for_m1.ensures in
    let between = both c.put-m2.ensures (both c.invert-m2_end.ensures c.put-m3.ensures) in
    rw (later c.expand_with-m1_end.ensures (omega arith) between (omega arith)) (spared_codes w.second.spared)

pub returns : goal.returns
unfolding joined
returns t c =
    let w = split (search rules) (omega arith) c.requires.spares_of c.half.ensures c.split_at.ensures.front c.split_at.ensures.back c.as_slice.ensures c.m0_spares-for_m0.ensures c.m1_spares-for_m1.ensures in
    let m0 = c.expand_with-m0_end.ensures in
    let m1 = c.expand_with-m1_end.ensures in
    let m2 = inverse_later (spared_fits w.first.spared) m0 (omega arith) (both c.put-m1.ensures (both m1 c.put-m2.ensures)) (omega arith) c.invert-m2_end.ensures in
    let m3 = inverse_later (spared_fits w.second.spared) m1 (omega arith) (both c.put-m2.ensures (both m2 c.put-m3.ensures)) (omega arith) c.invert.ensures in
    rw w.whole (both c.put-m0.ensures (both m0 (both c.put-m1.ensures (both m1 (both c.put-m2.ensures (both m2 (both c.put-m3.ensures m3)))))))
