-- The longest circuit text: 11 bytes for line 1, and 11 for each gate. Assumes nothing.
use mathlib.Core.Bool.{Bool, true, false, cond}
use mathlib.Core.List.{List, [], ◌∷◌, ◌++◌, map}
use Prim.Native.Nat.{ℕ, zero, suc, ◌+◌, ◌*◌, ◌/◌, ◌%◌, ◌≤◌}
use native.Mathlib.Omega.{arith}
use lib.Dec.{ltb}
use lib.ListN.{length, length-append}
use Rattle.gates.specs.declared.Gate.{Gate}
use Rattle.gates.specs.declared.Gate.TheVariants.{Not, Powered}
use Rattle.text.specs.Text.{lines, gate, bytes, digits, one, two, word, render, rendered, circuit_text}

digits_length : (n : ℕ) → length (digits n) ≤ 2
unfolding digits
digits_length n = go (ltb n 10)
  where
    go : (b : Bool) → length (cond b ((48 + n) ∷ []) ((48 + n / 10) ∷ (48 + n % 10) ∷ [])) ≤ 2
    go true = omega arith
    go false = omega arith

word_length : (p : ℕ) → length (word p) ≤ 4
unfolding word
word_length zero = omega arith
word_length (suc zero) = omega arith
word_length (suc (suc zero)) = omega arith
word_length (suc (suc (suc p))) = omega arith

one_length : (t : ℕ) → length (one t) ≤ 4
unfolding one
one_length t = omega (arith, length-append (digits t) (bytes ")\n"), digits_length t)

lines_length : (n : ℕ) → length (render (lines n)) ≤ 11
unfolding render
lines_length n = omega (arith, one_length n)

gate_length : (g : Gate) → length (render (gate g)) ≤ 11
unfolding render two
gate_length (Not t) = omega (arith, one_length t)
gate_length (Powered p c t) = omega (arith, length-append (word p) (digits c ++ (bytes " " ++ one t)), word_length p, length-append (digits c) (bytes " " ++ one t), digits_length c, one_length t)

gates_length : (c : List Gate) → length (rendered (map gate c)) ≤ 11 * length c
unfolding rendered
gates_length [] = omega arith
gates_length (g ∷ c) = omega (arith, length-append (render (gate g)) (rendered (map gate c)), gate_length g, gates_length c)

pub text_length : (n : ℕ) (c : List Gate) → length (circuit_text n c) ≤ 11 + 11 * length c
unfolding circuit_text rendered
text_length n c = omega (arith, length-append (render (lines n)) (rendered (map gate c)), lines_length n, gates_length c)
