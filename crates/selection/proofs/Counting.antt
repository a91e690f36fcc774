-- How many gates on a line are left before a place. Assumes nothing.
use mathlib.Core.Path.{◌≡◌, refl, sym, ap, ◌∙◌}
use mathlib.Core.Logic.{◌≢◌}
use mathlib.Core.List.{List, [], ◌∷◌}
use Prim.Native.Nat.{ℕ, zero, suc, ◌+◌, ◌≤◌, ◌<◌}
use native.Mathlib.Omega.{arith}
use native.Mathlib.Decide.{ℕ_discrete}
use lib.ListN.{get_or, set}
use Rattle.selection.specs.declared.Kind.{Kind}
use Rattle.selection.specs.declared.Kind.TheVariants.{Target, Control}
use Rattle.selection.specs.Places.{line}
use Rattle.selection.specs.Runs.{Off, Uses, either, use_of, number}

-- ---- one number

either_none : {A B : Type 0} (d : Dec A) (e : Dec B) → (A → ⊥) → (B → ⊥) → either d e ≡ 0
unfolding either
either_none (yes a) e f g = absurd (f a)
either_none (no a) (yes b) f g = absurd (g b)
either_none (no a) (no b) f g = refl

either_first : {A B : Type 0} (d : Dec A) (e : Dec B) → A → either d e ≡ 1
unfolding either
either_first (yes a) e x = refl
either_first (no a) e x = absurd (a x)

either_second : {A B : Type 0} (d : Dec A) (e : Dec B) → B → either d e ≡ 1
unfolding either
either_second (yes a) e x = refl
either_second (no a) (yes b) x = refl
either_second (no a) (no b) x = absurd (b x)

either_few : {A B : Type 0} (d : Dec A) (e : Dec B) → either d e ≤ 1
unfolding either
either_few (yes a) e = omega arith
either_few (no a) (yes b) = omega arith
either_few (no a) (no b) = omega arith

pub use_none : (y k : ℕ) → (k ≢ 0 → Off k y) → use_of y k ≡ 0
unfolding use_of
use_none y zero f = refl
use_none y (suc k) f = let o = f (λ e. omega arith) in either_none (ℕ_discrete (line Target (suc k)) y) (ℕ_discrete (line Control (suc k)) y) (o Target) (o Control)

pub use_one : (y k : ℕ) (b : Kind) → k ≢ 0 → line b k ≡ y → use_of y k ≡ 1
unfolding use_of
use_one y zero b d e = absurd (d refl)
use_one y (suc k) Target d e = either_first (ℕ_discrete (line Target (suc k)) y) (ℕ_discrete (line Control (suc k)) y) e
use_one y (suc k) Control d e = either_second (ℕ_discrete (line Target (suc k)) y) (ℕ_discrete (line Control (suc k)) y) e

either_some : {A B : Type 0} (d : Dec A) (e : Dec B) {X : Type 0} → either d e ≢ 0 → (A → X) → (B → X) → X
unfolding either
either_some (yes a) e n f g = f a
either_some (no a) (yes b) n f g = g b
either_some (no a) (no b) n f g = absurd (n refl)

use_some : (y k : ℕ) → use_of y k ≢ 0 → (k ≢ 0) × (b : Kind) × (line b k ≡ y)
unfolding use_of
use_some y zero n = absurd (n refl)
use_some y (suc k) n = either_some (ℕ_discrete (line Target (suc k)) y) (ℕ_discrete (line Control (suc k)) y) n (λ e. ((λ z. omega arith), Target, e)) (λ e. ((λ z. omega arith), Control, e))

use_few : (y k : ℕ) → use_of y k ≤ 1
unfolding use_of
use_few y zero = omega arith
use_few y (suc k) = either_few (ℕ_discrete (line Target (suc k)) y) (ℕ_discrete (line Control (suc k)) y)

-- ---- the numbers before a place

pub number_none : (y : ℕ) (l : List ℕ) → number y l 0 ≡ 0
unfolding number
number_none y [] = refl
number_none y (k ∷ l) = refl

pub number_more : (y : ℕ) (l : List ℕ) (h : ℕ) → number y l (suc h) ≡ number y l h + use_of y (get_or l h 0)
unfolding number use_of
number_more y [] h = refl
number_more y (k ∷ l) zero = omega (arith, number_none y l)
number_more y (k ∷ l) (suc h) = omega (arith, number_more y l h)

pub number_few : (y : ℕ) (l : List ℕ) (h : ℕ) → number y l h ≤ h
number_few y l zero = omega (arith, number_none y l)
number_few y l (suc h) = omega (arith, number_more y l h, number_few y l h, use_few y (get_or l h 0))

-- no use of the line from p on before q
pub number_gap : (y : ℕ) (l : List ℕ) (p d : ℕ) → ((j : ℕ) → p ≤ j → j < p + d → get_or l j 0 ≢ 0 → Off (get_or l j 0) y) → number y l (p + d) ≡ number y l p
number_gap y l p zero f = let e : p + 0 ≡ p = omega arith in ap (λ (x : ℕ). number y l x) e
number_gap y l p (suc d) f =
    let e : p + suc d ≡ suc (p + d) = omega arith in
    let z : use_of y (get_or l (p + d) 0) ≡ 0 = use_none y (get_or l (p + d) 0) (f (p + d) (omega arith) (omega arith)) in
    omega (arith, ap (λ (x : ℕ). number y l x) e, number_more y l (p + d), z, number_gap y l p d (λ j a b. f j a (omega arith)))

-- a use before h counts
pub number_some : (y : ℕ) (l : List ℕ) (h j : ℕ) (b : Kind) → j < h → get_or l j 0 ≢ 0 → line b (get_or l j 0) ≡ y → 1 ≤ number y l h
number_some y l zero j b a d e = absurd (omega arith)
number_some y l (suc h) j b a d e = go (λ c. number_some y l h j b c d e) (ℕ_discrete j h)
  where
    go : (j < h → 1 ≤ number y l h) → Dec (j ≡ h) → 1 ≤ number y l (suc h)
    go f (yes q) = omega (arith, number_more y l h, use_one y (get_or l h 0) b (rw q at d) (rw q at e))
    go f (no q) = omega (arith, number_more y l h, f (omega arith))

-- what counts is a use
pub number_use : (y : ℕ) (l : List ℕ) (h : ℕ) → number y l h ≢ 0 → (j : ℕ) × (j < h) × Uses l y j
number_use y l zero n = absurd (n (number_none y l))
number_use y l (suc h) n = go (number_use y l h) (ℕ_discrete (use_of y (get_or l h 0)) 0)
  where
    go : (number y l h ≢ 0 → (j : ℕ) × (j < h) × Uses l y j) → Dec (use_of y (get_or l h 0) ≡ 0) → (j : ℕ) × (j < suc h) × Uses l y j
    go f (yes e) = let u = f (λ z. n (omega (arith, number_more y l h))) in (u.0, omega (arith, u.1), u.2)
    go f (no e) = let u = use_some y (get_or l h 0) e in (h, omega arith, record { left = u.0; kind = u.1; own = u.2 })

-- ---- a gate taken

pub number_taken : (y : ℕ) (l : List ℕ) (p h : ℕ) → p < h → number y l h ≡ number y (set l p 0) h + use_of y (get_or l p 0)
unfolding number use_of
number_taken y [] p h a = refl
number_taken y (k ∷ l) p zero a = absurd (omega arith)
number_taken y (k ∷ l) zero (suc h) a = omega arith
number_taken y (k ∷ l) (suc p) (suc h) a = omega (arith, number_taken y l p h (omega arith))

pub number_kept : (y : ℕ) (l : List ℕ) (p h : ℕ) → h ≤ p → number y (set l p 0) h ≡ number y l h
unfolding number
number_kept y [] p h a = refl
number_kept y (k ∷ l) p zero a = number_none y (set (k ∷ l) p 0) ∙ sym (number_none y (k ∷ l))
number_kept y (k ∷ l) zero (suc h) a = absurd (omega arith)
number_kept y (k ∷ l) (suc p) (suc h) a = omega (arith, number_kept y l p h (omega arith))
