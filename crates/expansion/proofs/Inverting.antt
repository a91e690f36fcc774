-- The inverse of a circuit, on the numbers of its gates. Assumes nothing.
use mathlib.Core.Path.{◌≡◌, ap, ◌∙◌}
use mathlib.Core.List.{List, map}
use Prim.Native.Nat.{ℕ, suc, ◌+◌, ◌-◌, ◌≤◌, ◌<◌}
use native.Mathlib.Omega.{arith}
use lib.ListN.{length, get_or, take, set}
use lib.Seq.{slice, slice-cons, slice_empty, length-slice, get_or-take, get_or-drop}
use Rattle.gates.specs.declared.Gate.{Gate}
use Rattle.gates.specs.Circuit.{AllValid}
use Rattle.gates.specs.Inverse.{inverse, inverted}
use Rattle.gates.specs.Code.{code, gate, gates, Code, AllCodes}
use Rattle.gates.proofs.CodeLists.{code_at, gates_code}
use Rattle.cascades.specs.Expansion.{◌⨾◌}
use Rattle.expansion.specs.Written.{Written}
use Rattle.expansion.proofs.Writing.{none, one, both}

-- each number from `from` up to `to` is that of a gate
pub code_in : (n : ℕ) (from to : ℕ) (l : List ℕ) (i : ℕ) → from ≤ i → i < to → to ≤ length l → AllCodes n (slice from to l) → Code n (get_or l i 0)
code_in n from to l i a b h w =
    let e : from + (i - from) ≡ i = omega arith in
    let q : get_or (slice from to l) (i - from) 0 ≡ get_or l i 0 = get_or-drop from (take to l) (i - from) 0 ∙ ap (λ (k : ℕ). get_or (take to l) k 0) e ∙ get_or-take to l i 0 b in
    rw q at (code_at n (slice from to l) (i - from) 0 (omega (arith, length-slice from to l h)) w)

-- ---- the copy, from the last gate to the first

-- before the gate at i: the gates from i + 1 up to `to` are inverted
pub invert_start : (l : List ℕ) (to at : ℕ) → Written (inverse (gates (slice to to l))) l at l at
unfolding inverse
invert_start l to at = rw (slice_empty to l) (none l at)

pub invert_step : (l m : List ℕ) (i to at next : ℕ) → i < to → to ≤ length l → next < length m → Written (inverse (gates (slice (suc i) to l))) l at m next → Written (inverse (gates (slice i to l))) l at (set m next (code (inverted (gate (get_or l i 0))))) (next + 1)
unfolding inverse ◌⨾◌
invert_step l m i to at next a b h w = rw (slice-cons i to l 0 a b) (both w (one (inverted (gate (get_or l i 0))) m next h))

-- the inverse of what was read is that of the circuit whose numbers stand there
pub inverse_of : (n : ℕ) (c : List Gate) (x : List ℕ) {l m : List ℕ} {i j : ℕ} → n ≤ 32 → AllValid n c → x ≡ map code c → Written (inverse (gates x)) l i m j → Written (inverse c) l i m j
inverse_of n c x few v e w = let q : gates x ≡ c = ap (λ (y : List ℕ). gates y) e ∙ gates_code n c few v in rw q at w
