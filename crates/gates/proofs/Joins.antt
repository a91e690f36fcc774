-- Reduced lists of joined circuits: reducing the parts first, however they are grouped, changes nothing, and a join has at most as many gates
-- as its parts. Assumes nothing.
use mathlib.Core.Path.{◌≡◌, refl, sym, ap}
use mathlib.Core.List.{List, [], ◌∷◌, ◌++◌, map, flatten}
use Prim.Native.Nat.{ℕ, zero, ◌+◌, ◌≤◌}
use native.Mathlib.Omega.{arith}
use lib.ListN.{length, length-append}
use Rattle.gates.specs.declared.Gate.{Gate}
use Rattle.gates.specs.Circuit.{AllValid, Linked, done}
use Rattle.gates.specs.Reduced.{Reduced}
use Rattle.gates.proofs.Pushing.{push, pushes}
use Rattle.gates.proofs.Reach.{all_valid_append, all_valid_left, all_valid_right}
use Rattle.gates.proofs.Chains.{linked_join}
use Rattle.gates.proofs.Theorem.{nf, pushes_append, linked_nf, nf_linked, nf_reduced}
use Rattle.gates.proofs.ReducedLists.{reduced_linked, reduced_fewest}

-- ---- gate by gate

pub nf_nil : nf [] ≡ []
unfolding nf
nf_nil = refl

-- the gates of d pushed onto the reduced list of c
pub nf_append : (c d : List Gate) → nf (c ++ d) ≡ pushes (nf c) d
unfolding nf
nf_append c d = pushes_append [] c d

pub nf_snoc : (c : List Gate) (g : Gate) → nf (c ++ (g ∷ [])) ≡ push (nf c) g
nf_snoc c g = nf_append c (g ∷ [])

-- ---- two circuits

module _ (n : ℕ) where
  -- the reduced list of a join is that of the join of reduced lists
  pub reduced_join : {c d r s t : List Gate} → AllValid n c → AllValid n d → Reduced n c r → Reduced n d s → Reduced n (c ++ d) t → Reduced n (r ++ s) t
  reduced_join f h x y z = reduced_linked n (linked_join f h x.linked y.linked) z

  pub nf_join : (c d : List Gate) → AllValid n c → AllValid n d → nf (c ++ d) ≡ nf (nf c ++ nf d)
  nf_join c d f h = linked_nf n (linked_join f h (nf_linked n c f) (nf_linked n d h))

  -- it has at most as many gates as the two have together
  pub length_nf_join : (c d : List Gate) → AllValid n c → AllValid n d → length (nf (c ++ d)) ≤ length (nf c) + length (nf d)
  length_nf_join c d f h =
      let l = reduced_fewest n (nf_reduced n (c ++ d) (all_valid_append n c d f h)) (linked_join f h (nf_linked n c f) (nf_linked n d h)) in
      omega (arith, length-append (nf c) (nf d))

  -- ---- any number of circuits

  -- each of the circuits is valid
  abbrev pub EachValid : List (List Gate) → Type 0
  EachValid [] = Unit {0}
  EachValid (c ∷ cs) = AllValid n c × EachValid cs

  pub each_valid_flatten : (cs : List (List Gate)) → EachValid cs → AllValid n (flatten cs)
  unfolding flatten
  each_valid_flatten [] f = tt
  each_valid_flatten (c ∷ cs) f = all_valid_append n c (flatten cs) f.0 (each_valid_flatten cs f.1)

  linked_flatten : (cs : List (List Gate)) → EachValid cs → Linked n (flatten cs) (flatten (map nf cs))
  unfolding flatten
  linked_flatten [] f = done
  linked_flatten (c ∷ cs) f = linked_join f.0 (each_valid_flatten cs f.1) (nf_linked n c f.0) (linked_flatten cs f.1)

  -- the reduced list of a join is that of the join of the reduced lists
  pub nf_flatten : (cs : List (List Gate)) → EachValid cs → nf (flatten cs) ≡ nf (flatten (map nf cs))
  nf_flatten cs f = linked_nf n (linked_flatten cs f)

  -- it has at most as many gates as all of them have together
  abbrev pub total : List (List Gate) → ℕ
  total [] = zero
  total (c ∷ cs) = length c + total cs

  pub length_nf_flatten : (cs : List (List Gate)) → EachValid cs → length (nf (flatten cs)) ≤ total (map nf cs)
  unfolding flatten
  length_nf_flatten [] f = omega (arith, ap length nf_nil)
  length_nf_flatten (c ∷ cs) f = omega (arith, length_nf_join c (flatten cs) f.0 (each_valid_flatten cs f.1), length_nf_flatten cs f.1)

-- ---- any grouping

-- circuits in order, joined two by two in some grouping
pub data Grouping : Type 0 where
  piece : List Gate → Grouping
  join : Grouping → Grouping → Grouping

-- their plain join
abbrev pub plain : Grouping → List Gate
plain (piece c) = c
plain (join a b) = plain a ++ plain b

-- each of them reduced, and each join reduced again
abbrev pub stepwise : Grouping → List Gate
stepwise (piece c) = nf c
stepwise (join a b) = nf (stepwise a ++ stepwise b)

-- however circuits are grouped, reducing the pieces and the joins gives the reduced list of the plain join
pub stepwise_nf : (n : ℕ) (a : Grouping) → AllValid n (plain a) → stepwise a ≡ nf (plain a)
stepwise_nf n (piece c) f = refl
stepwise_nf n (join a b) f =
    let h = all_valid_left n (plain a) (plain b) f in
    let k = all_valid_right n (plain a) (plain b) f in
    rw (stepwise_nf n a h, stepwise_nf n b k) (sym (nf_join n (plain a) (plain b) h k))
