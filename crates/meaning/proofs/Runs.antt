-- Laws of runs: a run is linear, powers of one control and target add, gates that pass may change places, and the inverse of a circuit undoes it.
-- Assumes nothing.
use mathlib.Core.Path.{◌≡◌, refl, sym, ◌∙◌, ap, fun_ext}
use mathlib.Core.Logic.{◌≢◌}
use mathlib.Core.Bool.{Bool, true, false, cond}
use mathlib.Core.List.{List, [], ◌∷◌, ◌++◌}
use Prim.Native.Nat.{ℕ, ◌+◌, ◌-◌, ◌<◌, ◌%◌}
use native.Mathlib.Omega.{arith}
use Rattle.gates.specs.declared.Gate.{Gate}
use Rattle.gates.specs.declared.Gate.TheVariants.{Not, Powered}
use Rattle.gates.specs.Circuit.{target, slot, Valid, valid_not, valid_powered, AllValid, Passes}
use Rattle.gates.specs.Inverse.{inverted, inverse}
use Rattle.meaning.specs.Amplitude.{Amplitude, ◌⊕◌, ◌⊗◌, doubled, mix}
use Rattle.meaning.specs.Pattern.{Pattern, flip}
use Rattle.meaning.specs.State.{State, apply, run, powered_gates}
use Rattle.meaning.proofs.Mixing.{mix_times, mix_sum, mix_swap, mix_mix, mix_zero, doubled_mix, doubled_add, cancel}
use Rattle.meaning.proofs.Flips.{flip_other, flip_flip, flip_comm}

-- 2^m times a state
abbrev pub scaled : ℕ → State → State
scaled m ψ x = doubled m (ψ x)

-- the power that a gate has at a pattern whose control bit is b
abbrev pub power : Bool → ℕ → ℕ
power b p = cond b p 0

pub power_small : (b : Bool) (p : ℕ) → p < 4 → power b p < 4
power_small true p h = h
power_small false p h = omega arith

-- ---- one gate

-- a powered gate is a power everywhere: power 0, which doubles, where the control is 0
pub apply_mix : (p c t : ℕ) (ψ : State) (x : Pattern) → apply (Powered p c t) ψ x ≡ mix (power (x c) p) (ψ x) (ψ (flip t x))
unfolding apply
apply_mix p c t ψ x = go (x c)
  where
    go : (b : Bool) → cond b (mix p (ψ x) (ψ (flip t x))) (ψ x ⊕ ψ x) ≡ mix (power b p) (ψ x) (ψ (flip t x))
    go true = refl
    go false = sym (mix_zero (ψ x) (ψ (flip t x)))

pub apply_not : (t : ℕ) (ψ : State) (x : Pattern) → apply (Not t) ψ x ≡ ψ (flip t x)
unfolding apply
apply_not t ψ x = refl

-- ---- circuits

pub run_append : (a b : List Gate) (ψ : State) → run (a ++ b) ψ ≡ run b (run a ψ)
unfolding run
run_append [] b ψ = refl
run_append (g ∷ a) b ψ = run_append a b (apply g ψ)

pub powered_append : (a b : List Gate) → powered_gates (a ++ b) ≡ powered_gates a + powered_gates b
unfolding powered_gates
powered_append [] b = omega arith
powered_append (Not t ∷ a) b = powered_append a b
powered_append (Powered p c t ∷ a) b = omega (arith, powered_append a b)

-- ---- a run is linear

pub apply_scaled : (m : ℕ) (g : Gate) (ψ : State) → apply g (scaled m ψ) ≡ scaled m (apply g ψ)
apply_scaled m (Not t) ψ = unfold apply in refl
apply_scaled m (Powered p c t) ψ = fun_ext λ x. simp (apply_mix, doubled_mix)

pub run_scaled : (m : ℕ) (gs : List Gate) (ψ : State) → run gs (scaled m ψ) ≡ scaled m (run gs ψ)
unfolding run
run_scaled m [] ψ = refl
run_scaled m (g ∷ gs) ψ = rw (apply_scaled m g ψ) (run_scaled m gs (apply g ψ))

-- a state times an amplitude, and the sum of two states
pub apply_times : (k : Amplitude) (g : Gate) (ψ : State) → apply g (λ x. k ⊗ ψ x) ≡ (λ x. k ⊗ apply g ψ x)
apply_times k (Not t) ψ = unfold apply in refl
apply_times k (Powered p c t) ψ = fun_ext λ x. simp (apply_mix, mix_times)

pub run_times : (k : Amplitude) (gs : List Gate) (ψ : State) → run gs (λ x. k ⊗ ψ x) ≡ (λ x. k ⊗ run gs ψ x)
unfolding run
run_times k [] ψ = refl
run_times k (g ∷ gs) ψ = rw (apply_times k g ψ) (run_times k gs (apply g ψ))

pub apply_sum : (g : Gate) (ψ φ : State) → apply g (λ x. ψ x ⊕ φ x) ≡ (λ x. apply g ψ x ⊕ apply g φ x)
apply_sum (Not t) ψ φ = unfold apply in refl
apply_sum (Powered p c t) ψ φ = fun_ext λ x. simp (apply_mix, mix_sum)

pub run_sum : (gs : List Gate) (ψ φ : State) → run gs (λ x. ψ x ⊕ φ x) ≡ (λ x. run gs ψ x ⊕ run gs φ x)
unfolding run
run_sum [] ψ φ = refl
run_sum (g ∷ gs) ψ φ = rw (apply_sum g ψ φ) (run_sum gs (apply g ψ) (apply g φ))

-- ---- two gates

-- two powers of one control and target are their sum modulo 4, doubled
pub compose : (p q c t : ℕ) → p < 4 → q < 4 → c ≢ t → (ψ : State) → run (Powered p c t ∷ Powered q c t ∷ []) ψ ≡ scaled 1 (run (Powered ((p + q) % 4) c t ∷ []) ψ)
unfolding run doubled
compose p q c t h k n ψ = fun_ext λ x. simp (apply_mix, flip_flip, flip_other t c x n) (go x (x c))
  where
    go : (x : Pattern) (b : Bool) → mix (power b q) (mix (power b p) (ψ x) (ψ (flip t x))) (mix (power b p) (ψ (flip t x)) (ψ x)) ≡ mix (power b ((p + q) % 4)) (ψ x) (ψ (flip t x)) ⊕ mix (power b ((p + q) % 4)) (ψ x) (ψ (flip t x))
    go x true = mix_mix p q h k (ψ x) (ψ (flip t x))
    go x false = mix_mix 0 0 (omega arith) (omega arith) (ψ x) (ψ (flip t x))

-- gates that pass may change places
pub pass : (g h : Gate) → Passes g h → (ψ : State) → run (g ∷ h ∷ []) ψ ≡ run (h ∷ g ∷ []) ψ
unfolding run target slot
pass (Not t) (Not u) e ψ = fun_ext λ x. unfold apply in ap ψ (flip_comm t u x)
pass (Not t) (Powered q d u) e ψ = fun_ext λ x. let n : d ≢ t = omega (arith, e.there) in
    simp (apply_mix, apply_not, flip_other t d x n, flip_comm t u x)
pass (Powered p c t) (Not u) e ψ = fun_ext λ x. let n : c ≢ u = omega (arith, e.back) in
    simp (apply_mix, apply_not, flip_other u c x n, flip_comm u t x)
pass (Powered p c t) (Powered q d u) e ψ = fun_ext λ x. let n : d ≢ t = omega (arith, e.there) in let m : c ≢ u = omega (arith, e.back) in
    simp (apply_mix, flip_other t d x n, flip_other u c x m, flip_comm u t x)
    (mix_swap (power (x c) p) (power (x d) q) (ψ x) (ψ (flip t x)) (ψ (flip u x)) (ψ (flip t (flip u x))))

-- ---- the inverse

pub powered_inverse : (a : List Gate) → powered_gates (inverse a) ≡ powered_gates a
unfolding powered_gates inverse inverted
powered_inverse [] = refl
powered_inverse (Not t ∷ a) = omega (arith, powered_append (inverse a) (Not t ∷ []), powered_inverse a)
powered_inverse (Powered p c t ∷ a) = omega (arith, powered_append (inverse a) (Powered ((4 - p) % 4) c t ∷ []), powered_inverse a)

pub scaled_scaled : (m k n : ℕ) (ψ : State) → m + k ≡ n → scaled m (scaled k ψ) ≡ scaled n ψ
scaled_scaled m k n ψ e = fun_ext λ x. sym (doubled_add m k (ψ x)) ∙ rw e

pub power_zero : (c t : ℕ) (ψ : State) → apply (Powered 0 c t) ψ ≡ scaled 1 ψ
unfolding apply doubled
power_zero c t ψ = fun_ext λ x. go x (x c)
  where
    go : (x : Pattern) (b : Bool) → cond b (mix 0 (ψ x) (ψ (flip t x))) (ψ x ⊕ ψ x) ≡ ψ x ⊕ ψ x
    go x true = mix_zero (ψ x) (ψ (flip t x))
    go x false = refl

-- a gate and its inverse
back : (n : ℕ) (g : Gate) → Valid n g → (ψ : State) → apply (inverted g) (apply g ψ) ≡ scaled (powered_gates (g ∷ []) + powered_gates (g ∷ [])) ψ
unfolding powered_gates inverted run
back n _ (valid_not {t} h) ψ = fun_ext λ x. unfold apply doubled in ap ψ (flip_flip t x)
back n _ (valid_powered {p} {c} {t} a b h k d) ψ = let q : ℕ = (4 - p) % 4 in let e : (p + q) % 4 ≡ 0 = omega arith in
    compose p q c t (omega arith) (omega arith) d ψ ∙ rw (e, power_zero c t ψ) (scaled_scaled 1 1 2 ψ refl)

-- a circuit and its inverse do nothing: 4^m is left of the doublings
pub run_inverse : (n : ℕ) (a : List Gate) → AllValid n a → (ψ : State) → run (inverse a) (run a ψ) ≡ scaled (powered_gates a + powered_gates a) ψ
unfolding run inverse powered_gates doubled
run_inverse n [] f ψ = refl
run_inverse n (g ∷ a) f ψ =
    run_append (inverse a) (inverted g ∷ []) (run a (apply g ψ))
    ∙ rw (run_inverse n a f.1 (apply g ψ), apply_scaled (powered_gates a + powered_gates a) (inverted g) (apply g ψ), back n g f.0 ψ)
    (scaled_scaled (powered_gates a + powered_gates a) (powered_gates (g ∷ []) + powered_gates (g ∷ [])) (powered_gates (g ∷ a) + powered_gates (g ∷ a)) ψ (omega (arith, powered_append (g ∷ []) a)))

-- a circuit whose matrix moves each pattern to another: f of a pattern is where its amplitude is from
unfoldable pub Acts : List Gate → (Pattern → Pattern) → Type 0
Acts a f = (ψ : State) (x : Pattern) → run a ψ x ≡ doubled (powered_gates a) (ψ (f x))

-- an involution's circuit acts as its inverse does
pub acts_inverse : (n : ℕ) (a : List Gate) (f : Pattern → Pattern) → AllValid n a → Acts a f → ((x : Pattern) → f (f x) ≡ x) → Acts (inverse a) f
unfolding Acts
acts_inverse n a f h k e ψ x = cancel m _ _ (ap (λ (φ : State). φ x) there_and_back ∙ rw (powered_inverse a) (doubled_add m m (ψ (f x))))
  where
    m : ℕ
    m = powered_gates a

    forth : run a (λ y. ψ (f y)) ≡ scaled m ψ
    forth = fun_ext λ y. k (λ z. ψ (f z)) y ∙ rw (e y)

    there_and_back : scaled m (run (inverse a) ψ) ≡ scaled (m + m) (λ y. ψ (f y))
    there_and_back = sym (run_scaled m (inverse a) ψ) ∙ ap (run (inverse a)) (sym forth) ∙ run_inverse n a h (λ y. ψ (f y))
