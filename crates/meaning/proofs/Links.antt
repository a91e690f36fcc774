-- Linked circuits have the same matrix, so a reduced list has the matrix of its circuit. Assumes nothing.
use mathlib.Core.Path.{◌≡◌, refl, sym}
use mathlib.Core.Logic.{◌≢◌}
use mathlib.Core.List.{List, [], ◌∷◌, ◌++◌, append_assoc}
use Prim.Native.Nat.{ℕ, zero, suc, ◌+◌, ◌%◌, ◌<◌}
use native.Mathlib.Omega.{arith}
use Rattle.gates.specs.declared.Gate.{Gate}
use Rattle.gates.specs.declared.Gate.TheVariants.{Powered}
use Rattle.gates.specs.Circuit.{powered, Valid, valid_powered, AllValid, Rewrite, pass, merge, cancel, Step, step, Linked, done, forth, back}
use Rattle.gates.specs.Reduced.{Reduced}
use Rattle.gates.proofs.Reach.{all_valid_left, all_valid_right}
use Rattle.meaning.specs.State.{basis, SameAmplitude, SameMatrix, SameOnStates}
use Rattle.meaning.proofs.SameMatrix.{same_refl, same_sym, same_trans, same_between, pass_same, compose_same, vanish_same, not_not_same}

-- ---- one step

sum_same : (p q c t : ℕ) → p < 4 → q < 4 → c ≢ t → (m : ℕ) → (p + q) % 4 ≡ m → SameOnStates (Powered p c t ∷ Powered q c t ∷ []) (powered m c t)
unfolding powered
sum_same p q c t h k d zero e = vanish_same p q c t h k d e
sum_same p q c t h k d (suc m) e = rw e at (compose_same p q c t h k d)

merge_same : (n p q c t : ℕ) → Valid n (Powered p c t) → Valid n (Powered q c t) → SameOnStates (Powered p c t ∷ Powered q c t ∷ []) (powered ((p + q) % 4) c t)
merge_same n p q c t (valid_powered a b d e i) (valid_powered a' b' d' e' i') = sum_same p q c t (omega arith) (omega arith) i ((p + q) % 4) refl

rewrite_same : (n : ℕ) {x y : List Gate} → AllValid n x → Rewrite x y → SameOnStates x y
rewrite_same n f (pass {g} {h} p) = pass_same g h p
rewrite_same n f (merge p q c t) = merge_same n p q c t f.0 f.1.0
rewrite_same n f (cancel t) = not_not_same t

step_same : (n : ℕ) {c d : List Gate} → Step n c d → SameOnStates c d
step_same n (step u w {x} {y} l f k) =
    rw (append_assoc u x w, append_assoc u y w)
    (same_between u w x y (rewrite_same n (all_valid_right n u x (all_valid_left n (u ++ x) w f)) l))

-- ---- chains

-- linked circuits do the same to every state
pub linked_states : (n : ℕ) {c d : List Gate} → Linked n c d → SameOnStates c d
linked_states n {c} done = same_refl c
linked_states n {c} {d = e} (forth {d = d} s r) = same_trans c d e (step_same n s) (linked_states n r)
linked_states n {c} {d = e} (back {d = d} s r) = same_trans c d e (same_sym d c (step_same n s)) (linked_states n r)

-- circuits that do the same to every state have the same matrix
pub states_matrix : (n : ℕ) (a b : List Gate) → SameOnStates a b → SameMatrix n a b
unfolding SameMatrix SameOnStates
states_matrix n a b e y x = e (basis n y) x

pub same_matrix_sym : (n : ℕ) (a b : List Gate) → SameMatrix n a b → SameMatrix n b a
unfolding SameMatrix SameAmplitude
same_matrix_sym n a b e y x = sym (e y x)

-- linked circuits have the same matrix
pub linked_matrix : (n : ℕ) {c d : List Gate} → Linked n c d → SameMatrix n c d
linked_matrix n {c} {d} l = states_matrix n c d (linked_states n l)

-- a reduced list has the matrix of its circuit
pub reduced_matrix : (n : ℕ) {c r : List Gate} → Reduced n c r → SameMatrix n c r
reduced_matrix n w = linked_matrix n w.linked
