-- The starts from patterns decide all states: circuits on n lines with the same matrix do the same to every state. For a state of n lines is a sum
-- of starts, a run is linear, and a circuit on n lines leaves the lines beyond them alone. Assumes nothing.
use mathlib.Core.Path.{◌≡◌, refl, sym, ◌∙◌, ap, fun_ext}
use mathlib.Core.Logic.{◌≢◌, ◌↔◌}
use mathlib.Core.Bool.{Bool, true, false, not, cond}
use mathlib.Core.List.{List, [], ◌∷◌}
use Prim.Native.Nat.{ℕ, zero, suc, ◌^◌, ◌≤◌, ◌<◌}
use native.Mathlib.Omega.{arith}
use native.Mathlib.Decide.{ℕ_discrete}
use lib.Dec.{T, ltb, ltb→lt, nltb→le}
use Rattle.gates.specs.declared.Gate.{Gate}
use Rattle.gates.specs.Circuit.{Valid, valid_not, valid_powered, AllValid}
use Rattle.meaning.specs.Amplitude.{Amplitude, one, nought, ◌⊕◌, ◌⊗◌, doubled}
use Rattle.meaning.specs.Pattern.{Pattern, flip, agree, pattern, number}
use Rattle.meaning.specs.State.{State, basis, apply, run, powered_gates, SameAmplitude, SameMatrix, SameOnStates}
use Rattle.meaning.proofs.Mixing.{times_one, times_nought, nought_times, plus_nought, nought_plus, doubled_nought, doubled_⊕, doubled_times}
use Rattle.meaning.proofs.Flips.{flip_other}
use Rattle.meaning.proofs.Patterns.{agree_is, agree_sym, number_below, pattern_number, one_number}
use Rattle.meaning.proofs.Runs.{apply_not, apply_mix, run_times, run_sum}
use Rattle.meaning.proofs.Lines.{OfLines}
use Rattle.meaning.proofs.Links.{states_matrix}

-- ---- sums

-- f 0 + f 1 + .. + f (m - 1)
unfoldable total : ℕ → (ℕ → Amplitude) → Amplitude
total zero f = nought
total (suc m) f = total m f ⊕ f m

total_none : (m : ℕ) (f : ℕ → Amplitude) → ((k : ℕ) → k < m → f k ≡ nought) → total m f ≡ nought
unfolding total
total_none zero f h = refl
total_none (suc m) f h = rw (total_none m f (λ k l. h k (omega arith)), h m (omega arith)) (plus_nought nought)

-- one of the amplitudes may be other than 0
total_one : (m j : ℕ) (f : ℕ → Amplitude) → j < m → ((k : ℕ) → k < m → k ≢ j → f k ≡ nought) → total m f ≡ f j
unfolding total
total_one zero j f h r = absurd (omega arith)
total_one (suc m) j f h r = go (ℕ_discrete m j) (λ l. total_one m j f l (λ k q. r k (omega arith)))
  where
    go : Dec (m ≡ j) → (j < m → total m f ≡ f j) → total m f ⊕ f m ≡ f j
    go (yes e) rest = rw (total_none m f (λ k l. r k (omega arith) (omega arith)), e) (nought_plus (f j))
    go (no e) rest = rw (rest (omega arith), r m (omega arith) e) (plus_nought (f j))

doubled_total : (p m : ℕ) (f : ℕ → Amplitude) → doubled p (total m f) ≡ total m (λ k. doubled p (f k))
unfolding total
doubled_total p zero f = doubled_nought p
doubled_total p (suc m) f = doubled_⊕ p (total m f) (f m) ∙ rw (doubled_total p m f)

run_nought : (c : List Gate) → run c (λ x. nought) ≡ (λ x. nought)
run_nought c = ap (run c) (fun_ext λ x. sym (nought_times nought)) ∙ run_times nought c (λ x. nought) ∙ fun_ext λ x. nought_times (run c (λ y. nought) x)

-- a run is linear
run_total : (c : List Gate) (m : ℕ) (a : ℕ → Amplitude) (φ : ℕ → State) → run c (λ x. total m (λ k. a k ⊗ φ k x)) ≡ (λ x. total m (λ k. a k ⊗ run c (φ k) x))
unfolding total
run_total c zero a φ = run_nought c
run_total c (suc m) a φ =
    run_sum c (λ x. total m (λ k. a k ⊗ φ k x)) (λ x. a m ⊗ φ m x)
    ∙ fun_ext λ x. rw (run_total c m a φ, run_times (a m) c (φ m))

module _ (n : ℕ) where
  -- ---- a state of n lines is the sum of the starts, each times its pattern's amplitude

  share : (φ : State) (x : Pattern) → ℕ → Amplitude
  share φ x k = φ (pattern k) ⊗ basis n (pattern k) x

  own_share : (φ : State) → OfLines n φ → (x : Pattern) → share φ x (number n x) ≡ φ x
  unfolding share basis OfLines
  own_share φ h x = rw (agree_sym n (pattern (number n x)) x (pattern_number n x)) (times_one (φ (pattern (number n x))) ∙ h (pattern (number n x)) x (pattern_number n x))

  no_share : (φ : State) (x : Pattern) (k : ℕ) → k < 2 ^ n → k ≢ number n x → share φ x k ≡ nought
  unfolding share basis
  no_share φ x k l d = go (agree n x (pattern k)) refl
    where
      go : (b : Bool) → agree n x (pattern k) ≡ b → φ (pattern k) ⊗ cond b one nought ≡ nought
      go true e = absurd (d (one_number n x k l (agree_sym n x (pattern k) e)))
      go false e = times_nought (φ (pattern k))

  sum_of_starts : (φ : State) → OfLines n φ → φ ≡ (λ x. total (2 ^ n) (λ k. φ (pattern k) ⊗ basis n (pattern k) x))
  unfolding share
  sum_of_starts φ h = fun_ext λ x. sym (total_one (2 ^ n) (number n x) (share φ x) (number_below n x) (no_share φ x) ∙ own_share φ h x)

  of_lines_same : (a b : List Gate) → SameMatrix n a b → (φ : State) → OfLines n φ → (x : Pattern) → SameAmplitude a b φ x
  unfolding SameMatrix SameAmplitude
  of_lines_same a b e φ h x = side a (powered_gates b) ∙ ap (total (2 ^ n)) (fun_ext λ k. ap (λ u. φ (pattern k) ⊗ u) (e (pattern k) x)) ∙ sym (side b (powered_gates a))
    where
      side : (c : List Gate) (p : ℕ) → doubled p (run c φ x) ≡ total (2 ^ n) (λ k. φ (pattern k) ⊗ doubled p (run c (basis n (pattern k)) x))
      side c p =
          ap (λ (ψ : State). doubled p (run c ψ x)) (sum_of_starts φ h)
          ∙ ap (λ (ψ : State). doubled p (ψ x)) (run_total c (2 ^ n) (λ k. φ (pattern k)) (λ k. basis n (pattern k)))
          ∙ doubled_total p (2 ^ n) (λ k. φ (pattern k) ⊗ run c (basis n (pattern k)) x)
          ∙ ap (total (2 ^ n)) (fun_ext λ k. doubled_times p (φ (pattern k)) (run c (basis n (pattern k)) x))

  -- ---- lines beyond the n

  -- w has the bits of z beyond the n lines
  abbrev Beyond : Pattern → Pattern → Type 0
  Beyond z w = (i : ℕ) → n ≤ i → w i ≡ z i

  flip_beyond : (t : ℕ) (z w : Pattern) → t < n → Beyond z w → Beyond z (flip t w)
  flip_beyond t z w l h i k = flip_other t i w (omega arith) ∙ h i k

  -- a circuit on n lines brings no amplitude from patterns with other bits beyond them
  apply_beyond : {g : Gate} → Valid n g → (z : Pattern) (ψ φ : State) → ((w : Pattern) → Beyond z w → ψ w ≡ φ w) → (w : Pattern) → Beyond z w → apply g ψ w ≡ apply g φ w
  apply_beyond (valid_not {t} l) z ψ φ h w k = rw (apply_not t ψ w, apply_not t φ w) (h (flip t w) (flip_beyond t z w l k))
  apply_beyond (valid_powered {p} {c} {t} a b l m d) z ψ φ h w k = rw (apply_mix p c t ψ w, apply_mix p c t φ w, h w k, h (flip t w) (flip_beyond t z w m k))

  run_beyond : (c : List Gate) → AllValid n c → (z : Pattern) (ψ φ : State) → ((w : Pattern) → Beyond z w → ψ w ≡ φ w) → (w : Pattern) → Beyond z w → run c ψ w ≡ run c φ w
  unfolding run
  run_beyond [] f z ψ φ h w k = h w k
  run_beyond (g ∷ c) f z ψ φ h w k = run_beyond c f.1 z (apply g ψ) (apply g φ) (apply_beyond f.0 z ψ φ h) w k

  -- the n lines of w, with z beyond them
  over : Pattern → Pattern → Pattern
  over z w i = cond (ltb i n) (w i) (z i)

  over_agree : (z w w' : Pattern) → agree n w w' ≡ true → over z w ≡ over z w'
  unfolding over
  over_agree z w w' e = fun_ext λ i. go i (ltb i n) (ltb→lt i n)
    where
      go : (i : ℕ) (b : Bool) → (T b → i < n) → cond b (w i) (z i) ≡ cond b (w' i) (z i)
      go i true h = agree_is n w w' e i (h tt)
      go i false h = refl

  over_beyond : (z w : Pattern) → Beyond z w → over z w ≡ w
  unfolding over
  over_beyond z w k = fun_ext λ i. go i (ltb i n) (nltb→le i n)
    where
      go : (i : ℕ) (b : Bool) → (T (not b) → n ≤ i) → cond b (w i) (z i) ≡ w i
      go i true h = refl
      go i false h = sym (k i (h tt))

  -- a state with the lines beyond the n held at z is one of n lines, and a run reads the same from it
  held : Pattern → State → State
  held z ψ w = ψ (over z w)

  held_of_lines : (z : Pattern) (ψ : State) → OfLines n (held z ψ)
  unfolding OfLines held
  held_of_lines z ψ w w' e = ap ψ (over_agree z w w' e)

  run_held : (c : List Gate) → AllValid n c → (ψ : State) (x : Pattern) → run c ψ x ≡ run c (held x ψ) x
  unfolding held
  run_held c f ψ x = run_beyond c f x ψ (held x ψ) (λ w k. ap ψ (sym (over_beyond x w k))) x (λ i k. refl)

  -- ---- the two forms of the same matrix

  pub matrix_states : (a b : List Gate) → AllValid n a → AllValid n b → SameMatrix n a b → SameOnStates a b
  unfolding SameOnStates SameAmplitude
  matrix_states a b f g e ψ x = rw (run_held a f ψ x, run_held b g ψ x) (of_lines_same a b e (held x ψ) (held_of_lines x ψ) x)

  pub same_matrix_states : (a b : List Gate) → AllValid n a → AllValid n b → SameMatrix n a b ↔ SameOnStates a b
  same_matrix_states a b f g = (matrix_states a b f g, states_matrix n a b)
