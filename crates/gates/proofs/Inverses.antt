-- The inverse of a circuit: it undoes the circuit by steps, is undone by another inverse, and respects links and so reduced lists.
-- Assumes nothing.
use mathlib.Core.Path.{◌≡◌, refl, sym, ap, ◌∙◌}
use mathlib.Core.List.{List, [], ◌∷◌, ◌++◌, append-nil, append_assoc}
use Prim.Native.Nat.{ℕ, zero, suc, ◌+◌, ◌-◌, ◌%◌, ◌≤◌, ◌<◌}
use native.Mathlib.Nat.{mod-add-mod, add-mod-mod}
use native.Mathlib.Omega.{arith}
use lib.ListN.{length, length-append}
use Rattle.gates.specs.declared.Gate.{Gate}
use Rattle.gates.specs.declared.Gate.TheVariants.{Not, Powered}
use Rattle.gates.specs.Circuit.{target, slot, power, powered, Valid, valid_not, valid_powered, AllValid, Passes, Rewrite, pass, merge, cancel, Step, step, Linked, done, forth, back}
use Rattle.gates.specs.Reduced.{Reduced}
use Rattle.gates.specs.Inverse.{inverted, inverse}
use Rattle.gates.specs.Sites.{Same}
use Rattle.gates.proofs.Pushing.{merged}
use Rattle.gates.proofs.Sites.{passes_sym, passes_same, passes_same_right}
use Rattle.gates.proofs.Merge.{powered_one, merged_rewrite}
use Rattle.gates.proofs.Reach.{all_valid_append, all_valid_left, all_valid_right}
use Rattle.gates.proofs.Chains.{linked_trans, linked_context}
use Rattle.gates.proofs.Theorem.{nf, linked_nf}
use Rattle.gates.proofs.ReducedLists.{reduced_linked, reduced_fewest}
use Rattle.gates.proofs.Joins.{nf_nil}

-- ---- one gate

same_inverted : (g : Gate) → Same g (inverted g)
unfolding target slot inverted
same_inverted (Not t) = record { targets = refl; controls = refl }
same_inverted (Powered p c t) = record { targets = refl; controls = refl }

-- the powers of a gate and its inverse make 4
pub power_inverted : {n : ℕ} {g : Gate} → Valid n g → (power g + power (inverted g)) % 4 ≡ 0
unfolding power inverted
power_inverted (valid_not h) = refl
power_inverted (valid_powered a b i j d) = omega arith

merged_inverted : {n : ℕ} {g : Gate} → Valid n g → merged g (inverted g) ≡ []
unfolding merged power powered
merged_inverted (valid_not h) = refl
merged_inverted (valid_powered {p} {c} {t} a b i j d) = let e = power_inverted (valid_powered {p = p} a b i j d) in rw e

-- so the two vanish
undone : {n : ℕ} {g : Gate} → Valid n g → Rewrite (g ∷ inverted g ∷ []) []
undone {g = g} v = rw (merged_inverted v) at (merged_rewrite (same_inverted g))

passes_inverted : {g h : Gate} → Passes g h → Passes (inverted g) (inverted h)
passes_inverted {g} {h} p = passes_same (same_inverted g) (passes_same_right (same_inverted h) p)

pub valid_inverted : {n : ℕ} {g : Gate} → Valid n g → Valid n (inverted g)
unfolding inverted
valid_inverted (valid_not h) = valid_not h
valid_inverted (valid_powered {p} a b i j d) = valid_powered {p = (4 - p) % 4} (omega arith) (omega arith) i j d

pub inverted_inverted : {n : ℕ} {g : Gate} → Valid n g → inverted (inverted g) ≡ g
unfolding inverted
inverted_inverted (valid_not h) = refl
inverted_inverted (valid_powered {p} {c} {t} a b i j d) = let e : (4 - (4 - p) % 4) % 4 ≡ p = omega arith in ap (λ (q : ℕ). Powered q c t) e

-- ---- the list

pub inverse_append : (c d : List Gate) → inverse (c ++ d) ≡ inverse d ++ inverse c
unfolding inverse
inverse_append [] d = sym (append-nil (inverse d))
inverse_append (g ∷ c) d = ap (λ w. w ++ (inverted g ∷ [])) (inverse_append c d) ∙ append_assoc (inverse d) (inverse c) (inverted g ∷ [])

pub length_inverse : (c : List Gate) → length (inverse c) ≡ length c
unfolding inverse
length_inverse [] = refl
length_inverse (g ∷ c) = length-append (inverse c) (inverted g ∷ []) ∙ omega (arith, length_inverse c)

module _ (n : ℕ) where
  pub all_valid_inverse : (c : List Gate) → AllValid n c → AllValid n (inverse c)
  unfolding inverse
  all_valid_inverse [] f = tt
  all_valid_inverse (g ∷ c) f = all_valid_append n (inverse c) (inverted g ∷ []) (all_valid_inverse c f.1) (valid_inverted f.0, tt)

  pub inverse_inverse : (c : List Gate) → AllValid n c → inverse (inverse c) ≡ c
  unfolding inverse
  inverse_inverse [] f = refl
  inverse_inverse (g ∷ c) f = inverse_append (inverse c) (inverted g ∷ []) ∙ rw (inverted_inverted f.0, inverse_inverse c f.1)

-- ---- links

power_small : {n p c t : ℕ} → Valid n (Powered p c t) → p ≤ 3
power_small (valid_powered a b i j d) = b

-- inverse powers sum to the inverse of the sum
sum_inverted : (p q : ℕ) → p ≤ 3 → q ≤ 3 → ((4 - q) % 4 + (4 - p) % 4) % 4 ≡ (4 - (p + q) % 4) % 4
sum_inverted p q h k =
    let e : 4 - q + (4 - p) ≡ 8 - (p + q) = omega arith in
    rw (mod-add-mod, add-mod-mod, e) (omega arith)

-- the inverse of a merge is the merge of the inverses
inverse_powered : (p q c t : ℕ) → p ≤ 3 → q ≤ 3 → inverse (powered ((p + q) % 4) c t) ≡ powered (((4 - q) % 4 + (4 - p) % 4) % 4) c t
unfolding inverse inverted powered
inverse_powered p q c t h k = rw (sum_inverted p q h k) (go ((p + q) % 4) (omega arith))
  where
    go : (m : ℕ) → m < 4 → inverse (powered m c t) ≡ powered ((4 - m) % 4) c t
    go zero l = refl
    go (suc m) l = sym (powered_one ((4 - suc m) % 4) c t (omega arith))

rewrite_inverse : (n : ℕ) {x y : List Gate} → AllValid n x → Rewrite x y → Rewrite (inverse x) (inverse y)
unfolding inverse inverted
rewrite_inverse n f (pass p) = pass (passes_sym (passes_inverted p))
rewrite_inverse n f (merge p q c t) = rw (inverse_powered p q c t (power_small f.0) (power_small f.1.0)) (merge ((4 - q) % 4) ((4 - p) % 4) c t)
rewrite_inverse n f (cancel t) = cancel t

inverse_around : (u x v : List Gate) → inverse (u ++ x ++ v) ≡ inverse v ++ inverse x ++ inverse u
inverse_around u x v = inverse_append (u ++ x) v ∙ ap (λ w. inverse v ++ w) (inverse_append u x) ∙ sym (append_assoc (inverse v) (inverse x) (inverse u))

module _ {n : ℕ} where
  step_inverse : {c d : List Gate} → Step n c d → Step n (inverse c) (inverse d)
  step_inverse (step u v {x} {y} w f k) =
      let valid_x = all_valid_right n u x (all_valid_left n (u ++ x) v f) in
      rw (inverse_around u x v, inverse_around u y v)
      (step (inverse v) (inverse u) (rewrite_inverse n valid_x w) (rw (inverse_around u x v) at (all_valid_inverse n (u ++ x ++ v) f)) (rw (inverse_around u y v) at (all_valid_inverse n (u ++ y ++ v) k)))

  -- the inverses of linked circuits are linked
  pub linked_inverse : {c d : List Gate} → Linked n c d → Linked n (inverse c) (inverse d)
  linked_inverse done = done
  linked_inverse (forth s l) = forth (step_inverse s) (linked_inverse l)
  linked_inverse (back s l) = back (step_inverse s) (linked_inverse l)

  -- a circuit and its inverse, either way round, are linked to no gates
  pub linked_undone : (c : List Gate) → AllValid n c → Linked n (c ++ inverse c) []
  unfolding inverse
  linked_undone [] f = done
  linked_undone (g ∷ c) f =
      let h = valid_inverted f.0 in
      linked_trans (rw (append_assoc c (inverse c) (inverted g ∷ [])) at (linked_context (g ∷ []) (inverted g ∷ []) (f.0, tt) (h, tt) (linked_undone c f.1)))
      (forth (step [] [] (undone f.0) (f.0, (h, tt)) tt) done)

  pub linked_redone : (c : List Gate) → AllValid n c → Linked n (inverse c ++ c) []
  linked_redone c f = rw (inverse_inverse n c f) at (linked_undone (inverse c) (all_valid_inverse n c f))

-- ---- reduced lists

module _ (n : ℕ) where
  -- the inverse's reduced list is that of the reduced list's inverse
  pub reduced_inverse : {c r s : List Gate} → Reduced n c r → Reduced n (inverse c) s → Reduced n (inverse r) s
  reduced_inverse x y = reduced_linked n (linked_inverse x.linked) y

  -- it has as many gates as the circuit's
  pub length_reduced_inverse : {c r s : List Gate} → AllValid n c → Reduced n c r → Reduced n (inverse c) s → length r ≡ length s
  length_reduced_inverse {c} {r} {s} f x y =
      let there : Linked n c (inverse s) = rw (inverse_inverse n c f) at (linked_inverse y.linked) in
      let a = reduced_fewest n y (linked_inverse x.linked) in
      let b = reduced_fewest n x there in
      omega (arith, length_inverse r, length_inverse s)

  -- a circuit joined with its inverse, either way round, reduces to no gates
  pub nf_undone : (c : List Gate) → AllValid n c → nf (c ++ inverse c) ≡ []
  nf_undone c f = linked_nf n (linked_undone c f) ∙ nf_nil

  pub nf_redone : (c : List Gate) → AllValid n c → nf (inverse c ++ c) ≡ []
  nf_redone c f = linked_nf n (linked_redone c f) ∙ nf_nil
