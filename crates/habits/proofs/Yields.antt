-- What judging can yield: which refusals, and what holds where nothing is refused. One law for each way of judging. Assumes nothing.
use Prim.Native.Nat.{ℕ, ◌≤◌}
use mathlib.Core.Path.{◌≡◌, refl, sym, subst}
use mathlib.Core.Bool.{Bool, true, false}
use mathlib.Core.List.{List}
use native.Mathlib.Omega.{arith}
use Rattle.meaning.specs.Pattern.{has}
use Rattle.text.specs.declared.Refusal.{Refusal}
use Rattle.text.specs.Refusals.{number_of}
use Rattle.text.specs.Judging.{Found}
use Rattle.habits.specs.Habits.{Judgement, fine, away, ◌then◌, passes, require, taken}
use Rattle.habits.specs.Demands.{Sized, numbers, textless}
use Rattle.habits.proofs.Rules.{Sizes, too_long, too_few, passing, sizes}

-- ---- two judgements that are equal

pub fine_is : {A : Type 0} {a b : A} → fine a ≡ fine b → a ≡ b
fine_is e = cc

pub away_is : {A : Type 0} {r q : Refusal} {t l u k : ℕ} → ◌≡◌ {A = Judgement A} (away r t l) (away q u k) → (r ≡ q) × (t ≡ u) × (l ≡ k)
away_is e = (cc, cc, cc)

pub away_fine : {A : Type 0} {r : Refusal} {t l : ℕ} {a : A} → away r t l ≡ fine a → ⊥
away_fine e = let z : ◌≡◌ {A = ℕ} 0 1 = cc in omega arith

-- ---- what can be judged

-- each refusal is in P, and each value is in Q
pub data Yields {A : Type 0} (P : Refusal → ℕ → ℕ → Type 0) (Q : A → Type 0) : Judgement A → Type 0 where
  refuses : {r : Refusal} {t l : ℕ} → P r t l → Yields P Q (away r t l)
  ends : {a : A} → Q a → Yields P Q (fine a)

-- what comes next is judged of what was read
pub yields_then : {A B : Type 0} {P : Refusal → ℕ → ℕ → Type 0} {Q : A → Type 0} {R : B → Type 0} {v : Judgement A} {f : A → Judgement B} → Yields P Q v → ((a : A) → Q a → Yields P R (f a)) → Yields P R (v then f)
yields_then (refuses p) k = refuses p
yields_then (ends {a} h) k = k a h

-- what follows from it holds of what was read too
pub yields_follows : {A : Type 0} {P : Refusal → ℕ → ℕ → Type 0} {Q R : A → Type 0} {v : Judgement A} → Yields P Q v → ((a : A) → Q a → R a) → Yields P R v
yields_follows (refuses p) k = refuses p
yields_follows (ends {a} h) k = ends (k a h)

-- what holds of each value holds of the one that was read
pub yields_fine : {A : Type 0} {P : Refusal → ℕ → ℕ → Type 0} {Q : A → Type 0} {v : Judgement A} {a : A} → Yields P Q v → v ≡ fine a → Q a
yields_fine (refuses p) e = absurd (away_fine e)
yields_fine {Q = Q} (ends h) e = subst Q (fine_is e) h

-- what holds of each refusal holds of the one that was given
pub yields_away : {A : Type 0} {P : Refusal → ℕ → ℕ → Type 0} {Q : A → Type 0} {v : Judgement A} {r : Refusal} {t l : ℕ} → Yields P Q v → v ≡ away r t l → P r t l
yields_away (refuses p) e = let d = away_is e in rw (← d.0, ← d.1, ← d.2) p
yields_away (ends h) e = absurd (away_fine (sym e))

-- a rule of the job's own: its refusal, or that it holds
pub yields_require : {P : Refusal → ℕ → ℕ → Type 0} (b : Bool) (r : Refusal) (t l : ℕ) → P r t l → Yields P (λ _. b ≡ true) (require b r t l)
unfolding require
yields_require true r t l p = ends refl
yields_require false r t l p = refuses p

-- ---- the refusals of a job over so many texts, with these numbers of its own

pub data Regular (own : List ℕ) (texts : ℕ) (r : Refusal) (t l : ℕ) : Type 0 where
  -- by a rule or a line of a text; 1 and 2 have line 0
  of_text : has (number_of r) (numbers own) ≡ true → textless (number_of r) ≡ false → 1 ≤ t → t ≤ texts → (number_of r ≤ 2 → l ≡ 0) → Regular own texts r t l
  -- 11 and 13, which are no text's
  of_none : has (number_of r) (numbers own) ≡ true → textless (number_of r) ≡ true → 11 ≤ number_of r → t ≡ 0 → l ≡ 0 → Regular own texts r t l

-- of the text of number t: what its lines yield, and what rules 1 and 2 let pass
pub yields_taken : (own : List ℕ) (texts t : ℕ) → 1 ≤ t → t ≤ texts → {A : Type 0} {Q : A → Type 0} (s rooms : List ℕ) {v : Judgement A} → Yields (Regular own texts) Q v → Yields (Regular own texts) (λ a. Q a × Sized s rooms) (taken t s rooms v)
unfolding taken passes has numbers textless
yields_taken own texts t low high {A} {Q} s rooms {v} y = go (sizes s rooms)
  where
    go : {f : Found} → Sizes s rooms f → Yields (Regular own texts) (λ a. Q a × Sized s rooms) (passes f t 0 then λ _. v)
    go (too_long h) = refuses (of_text refl refl low high (λ _. refl))
    go (too_few h l) = refuses (of_text refl refl low high (λ _. refl))
    go (passing z) = yields_follows y (λ a h. (h, z))
