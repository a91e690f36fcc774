-- The parts of an expansion act as mct gates do: the gates for no control, one and two, and the eight parts that make a gate with three or more
-- controls from two smaller ones. Assumes nothing.
use mathlib.Core.Path.{◌≡◌, refl, sym, ◌∙◌}
use mathlib.Core.Logic.{◌≢◌}
use mathlib.Core.Bool.{Bool, true, false, cond, ◌&&◌, and-true}
use mathlib.Core.List.{List, [], ◌∷◌, ◌++◌}
use Prim.Native.Nat.{ℕ, suc, ◌+◌, ◌<◌, ◌%◌}
use native.Mathlib.Omega.{arith}
use native.Mathlib.Nat.{add_comm}
use borrow.Author.Tests.{ne_eqb}
use Rattle.gates.specs.declared.Gate.{Gate}
use Rattle.gates.specs.declared.Gate.TheVariants.{Not, Powered}
use Rattle.gates.specs.Inverse.{inverse}
use Rattle.meaning.specs.Amplitude.{Amplitude, ◌⊕◌, doubled, mix}
use Rattle.meaning.specs.Pattern.{Pattern, flip, holds, mct, has}
use Rattle.meaning.specs.State.{State, apply, run, powered_gates}
use Rattle.meaning.proofs.Mixing.{mix_mix, mix_zero, mix_two, twice_mix, doubled_⊕, doubled_mix, doubled_add, halved}
use Rattle.meaning.proofs.Flips.{flip_other, flip_flip, toggle, mct_at, holds_mct, holds_append, mct_flip, mct_mct, mct_four}
use Rattle.meaning.proofs.Runs.{power, power_small, apply_mix, run_append, powered_append, Acts}
use Rattle.cascades.specs.Expansion.{cn, ◌⨾◌, toffoli, joined}

-- twice the state φ at x and at x with t flipped: 2^k times what twice the q-th power makes of a and b, and of b and a
record At (t : ℕ) (φ : State) (x : Pattern) (k q : ℕ) (a b : Amplitude) : Type 0 where
  here : φ x ⊕ φ x ≡ doubled k (mix q a b)
  there : φ (flip t x) ⊕ φ (flip t x) ≡ doubled k (mix q b a)

at_start : (t : ℕ) (ψ : State) (x : Pattern) → At t ψ x 0 0 (ψ x) (ψ (flip t x))
unfolding doubled
at_start t ψ x = record { here = sym (mix_zero _ _); there = sym (mix_zero _ _) }

power_step : (r k q : ℕ) (u v a b : Amplitude) → r < 4 → q < 4 → u ⊕ u ≡ doubled k (mix q a b) → v ⊕ v ≡ doubled k (mix q b a) → mix r u v ⊕ mix r u v ≡ doubled (suc k) (mix ((q + r) % 4) a b)
unfolding doubled
power_step r k q u v a b h l e f = sym (twice_mix r u v) ∙ rw (e, f, doubled_mix r k (mix q a b) (mix q b a), mix_mix q r l h a b, doubled_⊕)

at_power : (p s : ℕ) {t : ℕ} {φ : State} {x : Pattern} {k q : ℕ} {a b : Amplitude} → p < 4 → q < 4 → s ≢ t → At t φ x k q a b → At t (apply (Powered p s t) φ) x (suc k) ((q + power (x s) p) % 4) a b
at_power p s {t} {φ} {x} {k} {q} {a} {b} h l n w =
    record {
      here = rw apply_mix (power_step (power (x s) p) k q (φ x) (φ (flip t x)) a b (power_small (x s) p h) l w.here w.there);
      there = rw (apply_mix, flip_flip, flip_other t s x n) (power_step (power (x s) p) k q (φ (flip t x)) (φ x) b a (power_small (x s) p h) l w.there w.here);
    }

at_move : (c : List Gate) (f : Pattern → Pattern) (x : Pattern) {t : ℕ} {φ : State} {k q : ℕ} {a b : Amplitude} → Acts c f → f (flip t x) ≡ flip t (f x) → At t φ (f x) k q a b → At t (run c φ) x (powered_gates c + k) q a b
unfolding Acts
at_move c f x {t} {φ} {k} {q} {a} {b} h e w =
    record {
      here = rw (h φ x, ← doubled_⊕ (powered_gates c) (φ (f x)) (φ (f x)), w.here, doubled_add);
      there = rw (h φ (flip t x), e, ← doubled_⊕ (powered_gates c) (φ (flip t (f x))) (φ (flip t (f x))), w.there, doubled_add);
    }

at_end : (c : Bool) {t : ℕ} {φ : State} {x : Pattern} {k q : ℕ} {a b : Amplitude} → q ≡ cond c 2 0 → At t φ x k q a b → φ x ≡ doubled k (cond c b a)
at_end true {φ = φ} {x} {k} {q} {a} {b} e w = halved _ _ (w.here ∙ rw (e, mix_two, doubled_⊕))
at_end false {φ = φ} {x} {k} {q} {a} {b} e w = halved _ _ (w.here ∙ rw (e, mix_zero, doubled_⊕))

-- no control, one, two
pub not_acts : (t : ℕ) → Acts (Not t ∷ []) (mct [] t)
unfolding Acts run apply powered_gates doubled mct holds
not_acts t ψ x = refl

pub cnot_acts : (a t : ℕ) → Acts (Powered 2 a t ∷ []) (mct (a ∷ []) t)
unfolding Acts run apply powered_gates doubled mct holds
cnot_acts a t ψ x = rw (and-true (x a)) (go (x a))
  where
    go : (h : Bool) → cond h (mix 2 (ψ x) (ψ (flip t x))) (ψ x ⊕ ψ x) ≡ ψ (cond h (flip t x) x) ⊕ ψ (cond h (flip t x) x)
    go true = mix_two (ψ x) (ψ (flip t x))
    go false = refl

single : (a c : ℕ) → c ≢ a → has c (a ∷ []) ≡ false
unfolding has
single a c n = rw (ne_eqb c a n)

two_powers : (a b : Bool) → (((0 + power b 1) % 4 + power (toggle a b) 3) % 4 + power a 1) % 4 ≡ cond (a && b) 2 0
two_powers true true = refl
two_powers true false = refl
two_powers false true = refl
two_powers false false = refl

mct_cond : (cs : List ℕ) (t : ℕ) (ψ : State) (x : Pattern) → cond (holds cs x) (ψ (flip t x)) (ψ x) ≡ ψ (mct cs t x)
unfolding mct
mct_cond cs t ψ x = go (holds cs x)
  where
    go : (h : Bool) → cond h (ψ (flip t x)) (ψ x) ≡ ψ (cond h (flip t x) x)
    go true = refl
    go false = refl

pub run_then : (a b : List Gate) (ψ : State) → run (a ⨾ b) ψ ≡ run b (run a ψ)
unfolding ◌⨾◌
run_then a b ψ = run_append a b ψ

pub powered_then : (a b : List Gate) → powered_gates (a ⨾ b) ≡ powered_gates a + powered_gates b
unfolding ◌⨾◌
powered_then a b = powered_append a b

-- one circuit, then another: the amplitude at x comes from g x, and there from f (g x)
pub acts_then : (a b : List Gate) (f g : Pattern → Pattern) → Acts a f → Acts b g → Acts (a ⨾ b) (λ x. f (g x))
unfolding Acts
acts_then a b f g k h ψ x =
    rw (run_then a b ψ, h (run a ψ) x, k ψ (g x), ← doubled_add (powered_gates b) (powered_gates a) (ψ (f (g x))), powered_then a b, add_comm (powered_gates a) (powered_gates b))

run_one : (g : Gate) (ψ : State) → run (g ∷ []) ψ ≡ apply g ψ
unfolding run
run_one g ψ = refl

powered_one : (p c t : ℕ) → powered_gates (Powered p c t ∷ []) ≡ 1
unfolding powered_gates
powered_one p c t = refl

holds_one : (a : ℕ) (x : Pattern) → holds (a ∷ []) x ≡ x a
unfolding holds
holds_one a x = and-true (x a)

holds_two : (a b : ℕ) (x : Pattern) → holds (a ∷ b ∷ []) x ≡ (x a && x b)
unfolding holds
holds_two a b x = rw (and-true (x b))

two_run : (a b t : ℕ) (ψ : State) → run (toffoli a b t) ψ ≡ apply (Powered 1 a t) (run (cn a b) (apply (Powered 3 b t) (run (cn a b) (apply (Powered 1 b t) ψ))))
two_run a b t ψ = simp (run_one, run_then)

two_powered : (a b t : ℕ) → powered_gates (toffoli a b t) ≡ suc (powered_gates (cn a b) + suc (powered_gates (cn a b) + 1))
two_powered a b t = simp (powered_one, powered_then)

pub two_acts : (a b t : ℕ) → a ≢ b → a ≢ t → b ≢ t → Acts (toffoli a b t) (mct (a ∷ b ∷ []) t)
unfolding Acts
two_acts a b t nab nat nbt ψ x =
    let f : Pattern → Pattern = mct (a ∷ []) b in
    let t_free : has t (a ∷ []) ≡ false = single a t (λ e. nat (sym e)) in
    let twice : f (f x) ≡ x = mct_mct (a ∷ []) b x (single a b (λ e. nab (sym e))) in
    let w1 = at_power 1 b (omega arith) (omega arith) nbt (at_start t ψ (f (f x))) in
    let w2 = at_move (cn a b) f (f x) (cnot_acts a b) (mct_flip t (a ∷ []) b (f x) t_free) w1 in
    let w3 = at_power 3 b (omega arith) (omega arith) nbt w2 in
    let w4 = at_move (cn a b) f x (cnot_acts a b) (mct_flip t (a ∷ []) b x t_free) w3 in
    let w5 = at_power 1 a (omega arith) (omega arith) nat w4 in
    rw (two_run a b t ψ, two_powered a b t)
    (at_end (holds (a ∷ b ∷ []) x) (rw (twice, mct_at (a ∷ []) b x, holds_one a x, holds_two a b x) (two_powers (x a) (x b))) w5
    ∙ rw (twice, mct_cond (a ∷ b ∷ []) t ψ x))

-- three and more: the four powers on t, by the bit of s and whether each half of the controls holds
four_powers : (b h k : Bool) → ((((0 + power b 1) % 4 + power (toggle k (toggle h (toggle k b))) 3) % 4 + power (toggle h (toggle k b)) 1) % 4 + power (toggle k b) 3) % 4 ≡ cond (h && k) 2 0
four_powers true true true = refl
four_powers true true false = refl
four_powers true false true = refl
four_powers true false false = refl
four_powers false true true = refl
four_powers false true false = refl
four_powers false false true = refl
four_powers false false false = refl

joined_run : (s t : ℕ) (m l : List Gate) (ψ : State) → run (joined s t m l) ψ ≡ run (inverse l) (apply (Powered 3 s t) (run (inverse m) (apply (Powered 1 s t) (run l (apply (Powered 3 s t) (run m (apply (Powered 1 s t) ψ)))))))
unfolding joined
joined_run s t m l ψ = simp (run_one, run_then)

joined_powered : (s t : ℕ) (m l : List Gate) → powered_gates (joined s t m l) ≡ powered_gates (inverse l) + suc (powered_gates (inverse m) + suc (powered_gates l + suc (powered_gates m + 1)))
unfolding joined
joined_powered s t m l = simp (powered_one, powered_then) (omega arith)

module _ (s t : ℕ) (c d : List ℕ) (m l : List Gate) (n : s ≢ t) (sc : has s c ≡ false) (sd : has s d ≡ false) (tc : has t c ≡ false) (td : has t d ≡ false) where
  pub joined_acts : Acts m (mct c s) → Acts l (mct d s) → Acts (inverse m) (mct c s) → Acts (inverse l) (mct d s) → Acts (joined s t m l) (mct (c ++ d) t)
  unfolding Acts
  joined_acts am al bm bl ψ x =
      let f : Pattern → Pattern = mct c s in
      let g : Pattern → Pattern = mct d s in
      let four : f (g (f (g x))) ≡ x = mct_four c d s x sc sd in
      let w1 = at_power 1 s (omega arith) (omega arith) n (at_start t ψ (f (g (f (g x))))) in
      let w2 = at_move m f (g (f (g x))) am (mct_flip t c s (g (f (g x))) tc) w1 in
      let w3 = at_power 3 s (omega arith) (omega arith) n w2 in
      let w4 = at_move l g (f (g x)) al (mct_flip t d s (f (g x)) td) w3 in
      let w5 = at_power 1 s (omega arith) (omega arith) n w4 in
      let w6 = at_move (inverse m) f (g x) bm (mct_flip t c s (g x) tc) w5 in
      let w7 = at_power 3 s (omega arith) (omega arith) n w6 in
      let w8 = at_move (inverse l) g x bl (mct_flip t d s x td) w7 in
      rw (joined_run s t m l ψ, joined_powered s t m l)
      (at_end (holds (c ++ d) x) (rw (four, holds_append c d x) (simp (mct_at, holds_mct) (four_powers (x s) (holds c x) (holds d x)))) w8
      ∙ rw (four, mct_cond (c ++ d) t ψ x))
