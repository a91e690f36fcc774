-- The proof of the theorem of reduced lists: the gates of a circuit, pushed one after the other, make its reduced list. ReducedLists has the
-- results in document 01's terms.
-- Assumes nothing.
use mathlib.Core.Path.{◌≡◌, refl, sym, ap, ◌∙◌}
use mathlib.Core.Logic.{◌↔◌}
use mathlib.Core.List.{List, [], ◌∷◌, ◌++◌}
use Prim.Native.Nat.{ℕ, ◌≤◌}
use native.Mathlib.Omega.{arith}
use lib.ListN.{length}
use Rattle.gates.specs.declared.Gate.{Gate}
use Rattle.gates.specs.declared.Gate.TheVariants.{Not}
use Rattle.gates.specs.Circuit.{Passes, Valid, AllValid, Rewrite, pass, merge, cancel, Step, step, Linked, done, forth, back, Reaches}
use Rattle.gates.specs.Order.{◌≼◌}
use Rattle.gates.specs.Reduced.{Reduced}
use Rattle.gates.proofs.Pushing.{push, pushes, Normal, normal_nil}
use Rattle.gates.proofs.Sites.{Order, before, level, after, order, same_refl, same_sym, less_irrefl}
use Rattle.gates.proofs.Merge.{merged_comm, merged_powered, merged_not, merged_same}
use Rattle.gates.proofs.Normal.{normal_push, commute}
use Rattle.gates.proofs.Same.{again}
use Rattle.gates.proofs.Dictionary.{≼_antisym, Small, shorter, sorted, small_pushes}
use Rattle.gates.proofs.Reach.{all_valid_left, all_valid_right, pushes_reach, reaches_all_valid}
use Rattle.gates.proofs.Chains.{reaches_linked, linked_trans, linked_sym}

-- the normal form of a circuit: its gates pushed one after the other
unfoldable pub nf : List Gate → List Gate
nf c = pushes [] c

pub pushes_append : (v c d : List Gate) → pushes v (c ++ d) ≡ pushes (pushes v c) d
pushes_append v [] d = refl
pushes_append v (g ∷ c) d = pushes_append (push v g) c d

-- it is no longer than the circuit, and not after it where it is as long
pub small_nf : (c : List Gate) → Small (nf c) c
unfolding nf
small_nf c = small_pushes [] c

pub normal_pushes : {v : List Gate} (c : List Gate) → Normal v → Normal (pushes v c)
normal_pushes [] w = w
normal_pushes {v} (g ∷ c) w = normal_pushes {v = push v g} c (normal_push g w)

module _ (n : ℕ) where
  -- ---- a step leaves the normal form as it was

  -- a pass
  pass_pushes : {v : List Gate} {g h : Gate} → Normal v → AllValid n v → Valid n g → Valid n h → Passes g h → push (push v g) h ≡ push (push v h) g
  pass_pushes {v} {g} {h} w f vg vh p = go (order g h)
    where
      go : Order g h → push (push v g) h ≡ push (push v h) g
      go (before l) = commute w p (λ s. less_irrefl s l)
      go (level s) = again w f vg vh s ∙ ap (λ k. pushes v k) (merged_comm s) ∙ sym (again w f vh vg (same_sym s))
      go (after l) = commute w p (λ s. less_irrefl (same_sym s) l)

  -- any step
  rewrite_pushes : {v x y : List Gate} → Normal v → AllValid n v → AllValid n x → Rewrite x y → pushes v x ≡ pushes v y
  rewrite_pushes w f k (pass p) = pass_pushes w f k.0 k.1.0 p
  rewrite_pushes {v} w f k (merge p q c t) = again w f k.0 k.1.0 (merged_same p q c t) ∙ ap (λ k. pushes v k) (merged_powered p q c t)
  rewrite_pushes {v} w f k (cancel t) = again w f k.0 k.1.0 (same_refl (Not t)) ∙ ap (λ k. pushes v k) (merged_not t t)

  pub all_valid_nf : (c : List Gate) → AllValid n c → AllValid n (nf c)
  unfolding nf
  all_valid_nf c f = reaches_all_valid n (pushes_reach n [] c tt f) f

  step_nf : {c d : List Gate} → Step n c d → nf c ≡ nf d
  unfolding nf
  step_nf (step u v {x} {y} l f k) =
      let fux : AllValid n (u ++ x) = all_valid_left n (u ++ x) v f in
      let e : pushes (nf u) x ≡ pushes (nf u) y = rewrite_pushes (normal_pushes u normal_nil) (all_valid_nf u (all_valid_left n u x fux)) (all_valid_right n u x fux) l in
      pushes_append [] (u ++ x) v ∙ ap (λ w. pushes w v) (pushes_append [] u x ∙ e ∙ sym (pushes_append [] u y)) ∙ sym (pushes_append [] (u ++ y) v)

  -- linked circuits have one normal form
  pub linked_nf : {c d : List Gate} → Linked n c d → nf c ≡ nf d
  linked_nf done = refl
  linked_nf (forth s r) = step_nf s ∙ linked_nf r
  linked_nf (back s r) = sym (step_nf s) ∙ linked_nf r

  -- ---- the theorem

  pub nf_reached : (c : List Gate) → AllValid n c → Reaches n c (nf c)
  unfolding nf
  nf_reached c f = pushes_reach n [] c tt f

  pub nf_linked : (c : List Gate) → AllValid n c → Linked n c (nf c)
  nf_linked c f = reaches_linked (nf_reached c f)

  pub nf_reduced : (c : List Gate) → AllValid n c → Reduced n c (nf c)
  nf_reduced c f = record { linked = nf_linked c f; fewest = λ d l. short d (linked_nf l) (small_nf d); first = λ d l e. lead d (linked_nf l) e (small_nf d) }
    where
      short : (d : List Gate) → nf c ≡ nf d → Small (nf d) d → length (nf c) ≤ length d
      short d e (shorter h) = rw e (omega arith)
      short d e (sorted h k) = rw e (omega arith)

      lead : (d : List Gate) → nf c ≡ nf d → length (nf c) ≡ length d → Small (nf d) d → nf c ≼ d
      lead d e i (shorter h) = absurd (omega (arith, ap length e))
      lead d e i (sorted h k) = rw e k

  -- circuits are linked exactly if they have one normal form
  pub same_nf : (c d : List Gate) → AllValid n c → AllValid n d → Linked n c d ↔ (nf c ≡ nf d)
  same_nf c d f h = (λ l. linked_nf l, λ e. linked_trans (nf_linked c f) (rw e (linked_sym (nf_linked d h))))

  pub reduced_unique : {c r s : List Gate} → Reduced n c r → Reduced n c s → r ≡ s
  reduced_unique {c} {r} {s} x y =
      let e : length r ≤ length s = x.fewest s y.linked in
      let f : length s ≤ length r = y.fewest r x.linked in
      ≼_antisym (x.first s y.linked (omega arith)) (y.first r x.linked (omega arith))
