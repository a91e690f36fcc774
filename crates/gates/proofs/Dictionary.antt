-- The dictionary order is an order; and pushing gates gives a shorter circuit, or one as long that is not after them.
-- Assumes nothing.
use mathlib.Core.Path.{◌≡◌, refl, ap, sym, ◌∙◌}
use mathlib.Core.List.{List, [], ◌∷◌, ◌++◌, append-nil, append_assoc}
use Prim.Native.Nat.{suc, ◌<◌}
use native.Mathlib.Omega.{arith}
use lib.ListN.{length, length-append}
use Rattle.gates.specs.declared.Gate.{Gate}
use Rattle.gates.specs.Order.{Earlier, by_target, by_control, by_power, ◌≼◌, none, less, same}
use Rattle.gates.specs.Sites.{Less, low, tie}
use Rattle.gates.proofs.Pushing.{Turn, meets, enters, stays, turn, push, pushes}
use Rattle.gates.proofs.Merge.{merged_elim}
use Rattle.gates.proofs.Push.{push_nil, push_meets, push_enters, push_stays}

-- ---- the order of gates

earlier_trans : {g h k : Gate} → Earlier g h → Earlier h k → Earlier g k
earlier_trans (by_target l) (by_target m) = by_target (omega arith)
earlier_trans (by_target l) (by_control e m) = by_target (omega arith)
earlier_trans (by_target l) (by_power e f m) = by_target (omega arith)
earlier_trans (by_control e l) (by_target m) = by_target (omega arith)
earlier_trans (by_control e l) (by_control f m) = by_control (omega arith) (omega arith)
earlier_trans (by_control e l) (by_power f h m) = by_control (omega arith) (omega arith)
earlier_trans (by_power e f l) (by_target m) = by_target (omega arith)
earlier_trans (by_power e f l) (by_control h m) = by_control (omega arith) (omega arith)
earlier_trans (by_power e f l) (by_power h i m) = by_power (omega arith) (omega arith) (omega arith)

earlier_irrefl : {g : Gate} → Earlier g g → ⊥
earlier_irrefl (by_target l) = omega arith
earlier_irrefl (by_control e l) = omega arith
earlier_irrefl (by_power e f l) = omega arith

-- the order of sites is part of it
earlier_less : {g h : Gate} → Less g h → Earlier g h
earlier_less (low l) = by_target (omega arith)
earlier_less (tie e l) = by_control (omega arith) (omega arith)

-- ---- the dictionary order

pub ≼_refl : (c : List Gate) → c ≼ c
≼_refl [] = none
≼_refl (g ∷ c) = same (≼_refl c)

pub ≼_trans : {c d e : List Gate} → c ≼ d → d ≼ e → c ≼ e
≼_trans none q = none
≼_trans (less l) (less m) = less (earlier_trans l m)
≼_trans (less l) (same q) = less l
≼_trans (same p) (less m) = less m
≼_trans (same p) (same q) = same (≼_trans p q)

-- the first gate of a list, and the others
first_of_list : Gate → List Gate → Gate
first_of_list g [] = g
first_of_list g (h ∷ c) = h

others : List Gate → List Gate
others [] = []
others (g ∷ c) = c

same_first : {g h : Gate} {c d : List Gate} → (g ∷ c) ≡ (h ∷ d) → g ≡ h
unfolding first_of_list
same_first {g = g} e = ap (first_of_list g) e

same_others : {g h : Gate} {c d : List Gate} → (g ∷ c) ≡ (h ∷ d) → c ≡ d
unfolding others
same_others e = ap others e

empty_not : {g : Gate} {c : List Gate} → [] ≡ (g ∷ c) → ⊥
empty_not e = grind (arith, e)

-- of two lists, each not after the other, where what stands on each side is only known to be equal
between : {c d e f : List Gate} → c ≼ d → e ≼ f → c ≡ f → d ≡ e → c ≡ d
between none none i j = sym j
between none (less m) i j = absurd (empty_not i)
between none (same q) i j = absurd (empty_not i)
between (less l) none i j = absurd (empty_not (sym j))
between (less l) (less m) i j = absurd (earlier_irrefl (earlier_trans l (rw (same_first j, same_first i) m)))
between (less l) (same q) i j = absurd (earlier_irrefl (rw (same_first i ∙ sym (same_first j)) at l))
between (same p) none i j = absurd (empty_not (sym j))
between (same p) (less m) i j = absurd (earlier_irrefl (rw (sym (same_first j) ∙ same_first i) at m))
between (same {g} p) (same q) i j = ap (λ w. g ∷ w) (between p q (same_others i) (same_others j))

pub ≼_antisym : {c d : List Gate} → c ≼ d → d ≼ c → c ≡ d
≼_antisym p q = between p q refl refl

pub ≼_append : {c d : List Gate} (e : List Gate) → c ≼ d → length c ≡ length d → (c ++ e) ≼ (d ++ e)
≼_append {d = []} e none h = ≼_refl e
≼_append {d = g ∷ d} e none h = absurd (omega arith)
≼_append e (less l) h = less l
≼_append e (same p) h = same (≼_append e p (omega arith))

-- ---- what a push does to it

-- r is shorter than c; or as long, and not after it
pub data Small (r c : List Gate) : Type 0 where
  shorter : length r < length c → Small r c
  sorted : length r ≡ length c → r ≼ c → Small r c

pub small_push : (v : List Gate) (g : Gate) → Small (push v g) (v ++ (g ∷ []))
small_push [] g = rw push_nil (sorted refl (≼_refl _))
small_push (a ∷ v) g = go (small_push v g) (turn a v g)
  where
    long : length (v ++ (g ∷ [])) ≡ suc (length v)
    long = length-append v (g ∷ []) ∙ omega arith

    go : Small (push v g) (v ++ (g ∷ [])) → Turn a v g → Small (push (a ∷ v) g) (a ∷ (v ++ (g ∷ [])))
    go ih (meets f s) = rw (push_meets f s) (merged_elim (λ w. Small w (a ∷ (v ++ (g ∷ [])))) a g v (shorter (omega (arith, long))) (λ x t. shorter (omega (arith, long))))
    go ih (enters f p l) = rw (push_enters f p l) (sorted (omega (arith, long)) (less (earlier_less l)))
    go (shorter h) (stays m i) = rw (push_stays m i) (shorter (omega arith))
    go (sorted h k) (stays m i) = rw (push_stays m i) (sorted (omega arith) (same k))

small_append : {r c : List Gate} (e : List Gate) → Small r c → Small (r ++ e) (c ++ e)
small_append {r} {c} e (shorter h) = shorter (omega (arith, length-append r e, length-append c e))
small_append {r} {c} e (sorted h k) = sorted (omega (arith, length-append r e, length-append c e)) (≼_append e k h)

small_trans : {r c d : List Gate} → Small r c → Small c d → Small r d
small_trans (shorter h) (shorter k) = shorter (omega arith)
small_trans (shorter h) (sorted k l) = shorter (omega arith)
small_trans (sorted h l) (shorter k) = shorter (omega arith)
small_trans (sorted h l) (sorted k m) = sorted (omega arith) (≼_trans l m)

pub small_pushes : (v c : List Gate) → Small (pushes v c) (v ++ c)
small_pushes v [] = rw append-nil (sorted refl (≼_refl v))
small_pushes v (g ∷ c) = small_trans (small_pushes (push v g) c) (rw (append_assoc v (g ∷ []) c) at (small_append c (small_push v g)))
