-- Chains of passes over gates with places: a gate slides past gates that it passes; and two gates of one site that a chain brings side by side
-- had only gates between them that they pass. Assumes nothing.
use mathlib.Core.List.{List, [], ◌∷◌, ◌++◌}
use Prim.Native.Nat.{ℕ, suc}
use Rattle.gates.specs.declared.Gate.{Gate}
use Rattle.gates.specs.Circuit.{Passes}
use Rattle.gates.specs.Sites.{Same, Free, free_nil, free_cons}
use Rattle.gates.proofs.Sites.{same_sym, passes_sym, passes_same_right}
use Rattle.partners.specs.Partner.{Placed, with_places, Moves, still, swap}

-- ---- chains

pub moves_trans : {l m o : List Placed} → Moves l m → Moves m o → Moves l o
moves_trans still k = k
moves_trans (swap u x y v p r) k = swap u x y v p (moves_trans r k)

pub moves_cons : {l m : List Placed} (z : Placed) → Moves l m → Moves (z ∷ l) (z ∷ m)
moves_cons z still = still
moves_cons z (swap u x y v p r) = swap (z ∷ u) x y v p (moves_cons z r)

-- a gate goes left past all that it passes
pub slide : (y : Placed) (j : ℕ) {v : List Gate} → Free y.gate v → Moves (with_places j v ++ y ∷ []) (y ∷ with_places j v)
slide y j free_nil = still
slide y j (free_cons {a} {v} p f) =
    let x : Placed = record { place = j; gate = a } in
    moves_trans (moves_cons x (slide y (suc j) f)) (swap [] x y (with_places (suc j) v) (passes_sym p) still)

-- ---- what stands between two gates

-- z passes every gate before it
pub data Open (z : Placed) : List Placed → Type 0 where
  at_front : {v : List Placed} → Open z (z ∷ v)
  past : {x : Placed} {v : List Placed} → Passes z.gate x.gate → Open z v → Open z (x ∷ v)

-- x and y, in either order, and the second of them passes every gate between them
pub data Near (x y : Placed) : List Placed → Type 0 where
  first : {v : List Placed} → Open y v → Near x y (x ∷ v)
  second : {v : List Placed} → Open x v → Near x y (y ∷ v)
  further : {z : Placed} {v : List Placed} → Near x y v → Near x y (z ∷ v)

-- side by side
pub near_neighbours : {x y : Placed} (u v : List Placed) → Near x y (u ++ x ∷ y ∷ v)
near_neighbours [] v = first at_front
near_neighbours (z ∷ u) v = further (near_neighbours u v)

-- a pass keeps that
open_swap : {z : Placed} (u : List Placed) (a b : Placed) (v : List Placed) → Passes a.gate b.gate → Open z (u ++ a ∷ b ∷ v) → Open z (u ++ b ∷ a ∷ v)
open_swap [] a b v p at_front = past p at_front
open_swap [] a b v p (past q at_front) = at_front
open_swap [] a b v p (past q (past r o)) = past r (past q o)
open_swap (c ∷ u) a b v p at_front = at_front
open_swap (c ∷ u) a b v p (past q o) = past q (open_swap u a b v p o)

near_swap : {x y : Placed} (u : List Placed) (a b : Placed) (v : List Placed) → Same x.gate y.gate → Passes a.gate b.gate → Near x y (u ++ a ∷ b ∷ v) → Near x y (u ++ b ∷ a ∷ v)
near_swap [] a b v s p (first at_front) = second at_front
near_swap [] a b v s p (first (past q o)) = further (first o)
near_swap [] a b v s p (second at_front) = first at_front
near_swap [] a b v s p (second (past q o)) = further (second o)
near_swap [] a b v s p (further (first o)) = first (past (passes_sym (passes_same_right s p)) o)
near_swap [] a b v s p (further (second o)) = second (past (passes_sym (passes_same_right (same_sym s) p)) o)
near_swap [] a b v s p (further (further n)) = further (further n)
near_swap (c ∷ u) a b v s p (first o) = first (open_swap u a b v p o)
near_swap (c ∷ u) a b v s p (second o) = second (open_swap u a b v p o)
near_swap (c ∷ u) a b v s p (further n) = further (near_swap u a b v s p n)

-- so a chain that brings them side by side found them so
pub near_moves : {x y : Placed} {l m : List Placed} → Same x.gate y.gate → Moves l m → Near x y m → Near x y l
near_moves s still n = n
near_moves s (swap u a b v p r) n = near_swap u b a v s (passes_sym p) (near_moves s r n)
