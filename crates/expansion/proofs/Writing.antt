-- Laws of gates that are written one circuit after the other. Assumes nothing.
use mathlib.Core.Path.{◌≡◌, refl, sym, ap, ◌∙◌}
use mathlib.Core.List.{List, [], ◌∷◌, map, map-append, append_assoc, append-nil}
use Prim.Native.Nat.{ℕ, ◌+◌, ◌-◌, ◌≤◌, ◌<◌}
use native.Mathlib.Omega.{arith}
use native.Mathlib.Numerals.{add-one}
use lib.ListN.{length, get_or, take, drop, set, length-append}
use lib.Seq.{length-take-le, take-suc-set, drop-set-lt, drop-drop, take-take, take-append-le, drop_at, get_or-take, slice}
use Rattle.gates.specs.declared.Gate.{Gate}
use Rattle.gates.specs.Code.{code}
use Rattle.cascades.specs.Expansion.{◌⨾◌}
use Rattle.expansion.specs.Written.{Written}

-- no gate, and one
pub none : (l : List ℕ) (i : ℕ) → Written [] l i l i
none l i = record { count = omega arith; front = sym (append-nil (take i l)); rest = refl }

pub one : (g : Gate) (l : List ℕ) (i : ℕ) → i < length l → Written (g ∷ []) l i (set l i (code g)) (i + 1)
one g l i h = record { count = omega arith; front = rw (add-one i) (take-suc-set l i (code g) h); rest = drop-set-lt (i + 1) l i (code g) (omega arith) }

-- one circuit, then another
pub both : {a b : List Gate} {l m n : List ℕ} {i j k : ℕ} → Written a l i m j → Written b m j n k → Written (a ⨾ b) l i n k
unfolding ◌⨾◌
both {a} {b} {l} {m} {n} {i} {j} {k} w u =
    let e : j + (k - j) ≡ k = omega arith in
    record {
      count = omega (arith, length-append a b);
      front = u.front ∙ rw (w.front, map-append code a b) (append_assoc (take i l) (map code a) (map code b));
      rest = u.rest ∙ rw (← e) (sym (drop-drop (k - j) j m) ∙ ap (drop (k - j)) w.rest ∙ drop-drop (k - j) j l);
    }

-- ---- what stands before them, and what was written

pub before : {a : List Gate} {l m : List ℕ} {i j : ℕ} → Written a l i m j → i ≤ length l → (k : ℕ) → k ≤ i → take k m ≡ take k l
before {a} {l} {m} {i} {j} w h k s =
    sym (take-take k j m (omega arith))
    ∙ ap (take k) w.front
    ∙ take-append-le k (take i l) (map code a) (omega (arith, length-take-le i l h))
    ∙ take-take k i l s

pub read : {a : List Gate} {l m : List ℕ} {i j : ℕ} → Written a l i m j → i ≤ length l → slice i j m ≡ map code a
read {a} {l} {m} {i} {j} w h = ap (drop i) w.front ∙ drop_at (take i l) (map code a) i (length-take-le i l h)

pub before_at : {a : List Gate} {l m : List ℕ} {i j : ℕ} → Written a l i m j → i ≤ length l → (k : ℕ) → k < i → get_or m k 0 ≡ get_or l k 0
before_at {a} {l} {m} {i} {j} w h k s = sym (get_or-take i m k 0 s) ∙ ap (λ (x : List ℕ). get_or x k 0) (before w h i (omega arith)) ∙ get_or-take i l k 0 s

-- what was written stands there after the next circuit
pub later : {a b : List Gate} {l m n : List ℕ} {i j k : ℕ} → Written a l i m j → i ≤ length l → Written b m j n k → j ≤ length m → slice i j n ≡ map code a
later {i = i} {j = j} w h u s = ap (drop i) (before u s j (omega arith)) ∙ read w h
