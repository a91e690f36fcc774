-- What remains of a list in which removed gates keep their places, part by part. Assumes nothing.
use mathlib.Core.Path.{◌≡◌, refl, sym, ap, ◌∙◌}
use mathlib.Core.List.{List, [], ◌∷◌, ◌++◌, append-nil, append_assoc}
use Prim.Native.Nat.{ℕ, zero, suc, ◌+◌, ◌%◌, ◌≤◌, ◌<◌}
use native.Mathlib.Omega.{arith}
use native.Mathlib.Decide.{dec_lt}
use lib.ListN.{length, take, get_or}
use lib.Seq.{take-suc}
use Rattle.gates.specs.Code.{Code, AllCodes}
use Rattle.stacks.specs.Remaining.{picked, kept, remaining}

pub kept_none : (x : ℕ) → x % 4 ≡ 0 → kept x ≡ []
unfolding kept picked
kept_none x e = rw e

pub kept_one : (x : ℕ) → 1 ≤ x % 4 → kept x ≡ x ∷ []
unfolding kept picked
kept_one x = go (x % 4)
  where
    go : (p : ℕ) → 1 ≤ p → picked p x ≡ x ∷ []
    go zero h = absurd (omega arith)
    go (suc p) h = refl

-- removed, or still there
pub data Place (x : ℕ) : Type 0 where
  removed : x % 4 ≡ 0 → kept x ≡ [] → Place x
  there : 1 ≤ x % 4 → kept x ≡ x ∷ [] → Place x

pub place : (x : ℕ) → Place x
place x = go (dec_lt 0 (x % 4))
  where
    go : Dec (0 < x % 4) → Place x
    go (yes h) = there (omega arith) (kept_one x (omega arith))
    go (no h) = removed (omega arith) (kept_none x (omega arith))

pub remaining_cons : (x : ℕ) (l : List ℕ) → remaining (x ∷ l) ≡ kept x ++ remaining l
unfolding remaining
remaining_cons x l = refl

pub remaining_nil : remaining [] ≡ []
unfolding remaining
remaining_nil = refl

pub remaining_removed : (x : ℕ) (l : List ℕ) → kept x ≡ [] → remaining (x ∷ l) ≡ remaining l
remaining_removed x l e = remaining_cons x l ∙ ap (λ (k : List ℕ). k ++ remaining l) e

pub remaining_there : (x : ℕ) (l : List ℕ) → kept x ≡ x ∷ [] → remaining (x ∷ l) ≡ x ∷ remaining l
remaining_there x l e = remaining_cons x l ∙ ap (λ (k : List ℕ). k ++ remaining l) e

pub remaining_append : (u v : List ℕ) → remaining (u ++ v) ≡ remaining u ++ remaining v
remaining_append [] v = rw remaining_nil
remaining_append (x ∷ u) v = remaining_cons x (u ++ v) ∙ ap (λ (k : List ℕ). kept x ++ k) (remaining_append u v) ∙ sym (append_assoc (kept x) (remaining u) (remaining v)) ∙ ap (λ (k : List ℕ). k ++ remaining v) (sym (remaining_cons x u))

-- each of them is a number of a gate
pub all_remaining : (l : List ℕ) (n : ℕ) → n ≤ length l → ((j : ℕ) → j < n → 1 ≤ get_or l j 0 % 4 → Code 32 (get_or l j 0)) → AllCodes 32 (remaining (take n l))
all_remaining l zero h f = rw remaining_nil tt
all_remaining [] (suc n) h f = absurd (omega arith)
all_remaining (x ∷ l) (suc n) h f = go (all_remaining l n (omega arith) (λ j a. f (suc j) (omega arith))) (place x)
  where
    go : AllCodes 32 (remaining (take n l)) → Place x → AllCodes 32 (remaining (x ∷ take n l))
    go ih (removed a e) = rw (remaining_removed x (take n l) e) ih
    go ih (there a e) = rw (remaining_there x (take n l) e) (f 0 (omega arith) a, ih)

remaining_one : (x : ℕ) → remaining (x ∷ []) ≡ kept x
remaining_one x = remaining_cons x [] ∙ ap (λ (k : List ℕ). kept x ++ k) remaining_nil ∙ append-nil (kept x)

-- one more place
pub remaining_suc : (l : List ℕ) (n : ℕ) → n < length l → remaining (take (n + 1) l) ≡ remaining (take n l) ++ kept (get_or l n 0)
remaining_suc l n h =
    let e : n + 1 ≡ suc n = omega arith in
    ap (λ (k : ℕ). remaining (take k l)) e ∙ ap remaining (take-suc l n 0 h) ∙ remaining_append (take n l) (get_or l n 0 ∷ []) ∙ ap (λ (k : List ℕ). remaining (take n l) ++ k) (remaining_one (get_or l n 0))
