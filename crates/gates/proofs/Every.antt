-- What holds of each element of a list holds of each element of its parts, and of two lists joined. Assumes nothing.
use mathlib.Core.List.{List, [], ◌∷◌, ◌++◌, map}
use Prim.Native.Nat.{ℕ, zero, suc, ◌<◌}
use native.Mathlib.Omega.{arith}
use lib.ListN.{length, take, drop, get_or}
use Rattle.gates.specs.Every.{Every}

module _ {A : Type 0} (P : A → Type 0) where
  pub every_append : (l m : List A) → Every P l → Every P m → Every P (l ++ m)
  every_append [] m h k = k
  every_append (x ∷ l) m h k = (h.0, every_append l m h.1 k)

  pub every_left : (l m : List A) → Every P (l ++ m) → Every P l
  every_left [] m h = tt
  every_left (x ∷ l) m h = (h.0, every_left l m h.1)

  pub every_right : (l m : List A) → Every P (l ++ m) → Every P m
  every_right [] m h = h
  every_right (x ∷ l) m h = every_right l m h.1

  pub every_take : (i : ℕ) (l : List A) → Every P l → Every P (take i l)
  every_take zero l h = tt
  every_take (suc i) [] h = tt
  every_take (suc i) (x ∷ l) h = (h.0, every_take i l h.1)

  pub every_drop : (i : ℕ) (l : List A) → Every P l → Every P (drop i l)
  every_drop zero l h = h
  every_drop (suc i) [] h = tt
  every_drop (suc i) (x ∷ l) h = every_drop i l h.1

  pub every_at : (l : List A) (i : ℕ) (d : A) → i < length l → Every P l → P (get_or l i d)
  every_at [] i d b h = absurd (omega arith)
  every_at (x ∷ l) zero d b h = h.0
  every_at (x ∷ l) (suc i) d b h = every_at l i d (omega arith) h.1

-- what follows from it holds of each element too, or of what a function makes of it
pub every_follows : {A : Type 0} (P Q : A → Type 0) → ((x : A) → P x → Q x) → (l : List A) → Every P l → Every Q l
every_follows P Q f [] h = tt
every_follows P Q f (x ∷ l) h = (f x h.0, every_follows P Q f l h.1)

pub every_map : {A B : Type 0} (P : A → Type 0) (Q : B → Type 0) (f : A → B) → ((x : A) → P x → Q (f x)) → (l : List A) → Every P l → Every Q (map f l)
every_map P Q f g [] h = tt
every_map P Q f g (x ∷ l) h = (g x h.0, every_map P Q f g l h.1)
