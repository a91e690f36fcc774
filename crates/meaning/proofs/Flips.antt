-- Laws of patterns: a flipped bit, the controls of a gate, and the mct gate on a pattern. Assumes nothing.
use mathlib.Core.Path.{◌≡◌, refl, sym, ◌∙◌, fun_ext}
use mathlib.Core.Logic.{◌≢◌}
use mathlib.Core.Bool.{Bool, true, false, not, cond, ◌&&◌, ◌||◌, true≢false, false≢true, and_assoc, or_assoc, not-not}
use mathlib.Core.List.{List, [], ◌∷◌, ◌++◌}
use Prim.Native.Nat.{ℕ}
use lib.Dec.{eqb}
use borrow.Author.Tests.{eq-eqb, ne_eqb, eqb-false, not-true}
use Rattle.meaning.specs.Pattern.{Pattern, flip, holds, mct, has, distinct}

-- ---- a flipped bit

pub flip_at : (t : ℕ) (x : Pattern) → flip t x t ≡ not (x t)
unfolding flip
flip_at t x = rw (eq-eqb t t refl)

pub flip_other : (t i : ℕ) (x : Pattern) → i ≢ t → flip t x i ≡ x i
unfolding flip
flip_other t i x h = rw (ne_eqb i t h)

pub flip_flip : (t : ℕ) (x : Pattern) → flip t (flip t x) ≡ x
unfolding flip
flip_flip t x = fun_ext λ i. go (eqb i t) (x i)
  where
    go : (p b : Bool) → cond p (not (cond p (not b) b)) (cond p (not b) b) ≡ b
    go true b = not-not b
    go false b = refl

pub flip_comm : (s t : ℕ) (x : Pattern) → flip s (flip t x) ≡ flip t (flip s x)
unfolding flip
flip_comm s t x = fun_ext λ i. go (eqb i s) (eqb i t) (x i)
  where
    go : (p q b : Bool) → cond p (not (cond q (not b) b)) (cond q (not b) b) ≡ cond q (not (cond p (not b) b)) (cond p (not b) b)
    go true true b = refl
    go true false b = refl
    go false true b = refl
    go false false b = refl

-- ---- lists of lines

-- both parts of a disjunction that fails
pub neither : (a b : Bool) → (a || b) ≡ false → (a ≡ false) × (b ≡ false)
neither true b e = absurd (true≢false e)
neither false b e = (refl, e)

pub both : (a b : Bool) → (a && b) ≡ true → (a ≡ true) × (b ≡ true)
both true b e = (refl, e)
both false b e = absurd (false≢true e)

-- b, flipped if c
abbrev pub toggle : Bool → Bool → Bool
toggle c b = cond c (not b) b

pub holds_append : (a b : List ℕ) (x : Pattern) → holds (a ++ b) x ≡ (holds a x && holds b x)
unfolding holds
holds_append [] b x = refl
holds_append (c ∷ a) b x = rw (holds_append a b x) (sym (and_assoc (x c) (holds a x) (holds b x)))

pub has_append : (j : ℕ) (a b : List ℕ) → has j (a ++ b) ≡ (has j a || has j b)
unfolding has
has_append j [] b = refl
has_append j (c ∷ a) b = rw (has_append j a b) (sym (or_assoc (eqb j c) (has j a) (has j b)))

pub distinct_append : (a b : List ℕ) → distinct (a ++ b) ≡ true → (distinct a ≡ true) × (distinct b ≡ true)
unfolding distinct
distinct_append [] b e = (refl, e)
distinct_append (c ∷ a) b e = let two = both (not (has c (a ++ b))) (distinct (a ++ b)) e in
    let rest = distinct_append a b two.1 in
    let fresh : has c a ≡ false = (neither (has c a) (has c b) (sym (has_append c a b) ∙ not-true (has c (a ++ b)) two.0)).0 in
    (rw (fresh, rest.0), rest.1)

-- ---- the mct gate

pub holds_flip : (t : ℕ) (cs : List ℕ) (x : Pattern) → has t cs ≡ false → holds cs (flip t x) ≡ holds cs x
unfolding holds has
holds_flip t [] x e = refl
holds_flip t (c ∷ cs) x e = let n = neither (eqb t c) (has t cs) e in
    rw (holds_flip t cs x n.1, flip_other t c x (λ h. eqb-false t c n.0 (sym h)))

pub mct_flip : (u : ℕ) (cs : List ℕ) (t : ℕ) (x : Pattern) → has u cs ≡ false → mct cs t (flip u x) ≡ flip u (mct cs t x)
unfolding mct
mct_flip u cs t x e = rw (holds_flip u cs x e) (go (holds cs x))
  where
    go : (h : Bool) → cond h (flip t (flip u x)) (flip u x) ≡ flip u (cond h (flip t x) x)
    go true = flip_comm t u x
    go false = refl

pub holds_mct : (cs ds : List ℕ) (t : ℕ) (x : Pattern) → has t cs ≡ false → holds cs (mct ds t x) ≡ holds cs x
unfolding mct
holds_mct cs ds t x e = go (holds ds x)
  where
    go : (h : Bool) → holds cs (cond h (flip t x) x) ≡ holds cs x
    go true = holds_flip t cs x e
    go false = refl

pub mct_at : (cs : List ℕ) (t : ℕ) (x : Pattern) → mct cs t x t ≡ toggle (holds cs x) (x t)
unfolding mct
mct_at cs t x = go (holds cs x)
  where
    go : (h : Bool) → cond h (flip t x) x t ≡ toggle h (x t)
    go true = flip_at t x
    go false = refl

-- x with the bit of t flipped if h
flip_if : Bool → ℕ → Pattern → Pattern
flip_if h t x = cond h (flip t x) x

mct_is : (cs : List ℕ) (t : ℕ) (x : Pattern) → mct cs t x ≡ flip_if (holds cs x) t x
unfolding mct flip_if
mct_is cs t x = refl

holds_flip_if : (h : Bool) (cs : List ℕ) (t : ℕ) (x : Pattern) → has t cs ≡ false → holds cs (flip_if h t x) ≡ holds cs x
unfolding flip_if
holds_flip_if true cs t x e = holds_flip t cs x e
holds_flip_if false cs t x e = refl

flip_if_twice : (h : Bool) (t : ℕ) (x : Pattern) → flip_if h t (flip_if h t x) ≡ x
unfolding flip_if
flip_if_twice true t x = flip_flip t x
flip_if_twice false t x = refl

flip_if_comm : (h k : Bool) (s t : ℕ) (x : Pattern) → flip_if h s (flip_if k t x) ≡ flip_if k t (flip_if h s x)
unfolding flip_if
flip_if_comm true true s t x = flip_comm s t x
flip_if_comm true false s t x = refl
flip_if_comm false true s t x = refl
flip_if_comm false false s t x = refl

pub mct_mct : (cs : List ℕ) (t : ℕ) (x : Pattern) → has t cs ≡ false → mct cs t (mct cs t x) ≡ x
mct_mct cs t x e = simp (mct_is, holds_flip_if, flip_if_twice)

-- two gates on one target with other controls, each twice in turn, do nothing
pub mct_four : (cs ds : List ℕ) (t : ℕ) (x : Pattern) → has t cs ≡ false → has t ds ≡ false → mct cs t (mct ds t (mct cs t (mct ds t x))) ≡ x
mct_four cs ds t x e f = simp (mct_is, holds_flip_if) (rw (flip_if_comm (holds ds x) (holds cs x) t t _) (simp flip_if_twice))
