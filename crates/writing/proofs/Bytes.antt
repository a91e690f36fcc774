-- Laws of writing bytes into lent bytes: one byte, and two writes one after the other. Assumes nothing.
use mathlib.Core.Path.{◌≡◌, refl, sym, ap, ◌∙◌}
use mathlib.Core.List.{List, [], ◌∷◌, ◌++◌, append_assoc}
use Prim.Native.Nat.{ℕ, ◌+◌, ◌≤◌, ◌<◌}
use native.Mathlib.Nat.{add-zero}
use native.Mathlib.Numerals.{add-one}
use native.Mathlib.Omega.{arith}
use lib.ListN.{length, take, drop, set, length-append, take-append-drop}
use lib.Seq.{length-take-le, take_at, drop_at, drop-drop, set_split}
use Rattle.writing.specs.Written.{written, Puts}

-- nothing
pub nothing : (l : List ℕ) (at : ℕ) → Puts l l at at []
unfolding written
nothing l at = record { place = sym (add-zero at); bytes = rw (add-zero at) (sym (take-append-drop at l)) }

-- one byte
pub one_byte : (l : List ℕ) (at b : ℕ) → at < length l → Puts l (set l at b) at (at + 1) (b ∷ [])
unfolding written
one_byte l at b h = record { place = refl; bytes = rw add-one (set_split l at b h) }

-- at the front
pub at_front : {l m w : List ℕ} {n : ℕ} → Puts l m 0 n w → (n ≡ length w) × (m ≡ w ++ drop n l)
unfolding written
at_front {l} {m} {w} {n} a = let e : n ≡ length w = omega arith in let f : 0 + length w ≡ n = omega arith in (e, rw f at a.bytes)

-- two writes, the second behind the first, are the write of both
pub both : {l m n : List ℕ} {at p q : ℕ} {u v w : List ℕ} → w ≡ u ++ v → at + length w ≤ length l → Puts l m at p u → Puts m n p q v → Puts l n at q w
unfolding written
both {l} {m} {n} {at} {p} {q} {u} {v} {w} e h a b =
    let k = ap length e ∙ length-append u v in
    let f : length (take at l) ≡ at = length-take-le at l (omega arith) in
    let g : length (take at l ++ u) ≡ p = length-append (take at l) u ∙ omega arith in
    let j : p + length v ≡ at + length w = omega arith in
    let o : m ≡ (take at l ++ u) ++ drop p l = a.bytes ∙ rw (sym a.place) (sym (append_assoc (take at l) u (drop p l))) in
    let t : take p m ≡ take at l ++ u = rw o (take_at (take at l ++ u) (drop p l) p g) in
    let d : drop p m ≡ drop p l = rw o (drop_at (take at l ++ u) (drop p l) p g) in
    let r : drop (p + length v) m ≡ drop (at + length w) l =
    sym (drop-drop (length v) p m) ∙ ap (λ (x : List ℕ). drop (length v) x) d ∙ drop-drop (length v) p l ∙ ap (λ (i : ℕ). drop i l) j in
    record { place = omega arith; bytes = b.bytes ∙ rw (t, r) (rw e (simp append_assoc)) }
