-- Circuits with the fewest gates: what is left without the first gate is one, and no gate has two partners in one. Assumes nothing.
use mathlib.Core.Path.{◌≡◌, refl, ap}
use mathlib.Core.List.{List, [], ◌∷◌, ◌++◌}
use Prim.Native.Nat.{ℕ, suc, ◌≤◌}
use native.Mathlib.Omega.{arith}
use lib.ListN.{length}
use Rattle.gates.specs.declared.Gate.{Gate}
use Rattle.gates.specs.Circuit.{AllValid, pass, Step, step, Linked, done, forth}
use Rattle.gates.specs.Reduced.{Reduced}
use Rattle.gates.specs.Sites.{Same, Free, free_cons}
use Rattle.gates.proofs.Pushing.{merged}
use Rattle.gates.proofs.Sites.{same_sym, same_trans, passes_sym, passes_same_right}
use Rattle.gates.proofs.Merge.{merged_elim, merged_rewrite, all_valid_merged}
use Rattle.gates.proofs.Reach.{all_valid_append}
use Rattle.gates.proofs.Chains.{linked_trans, linked_before, linked_all_valid}
use Rattle.partners.specs.Shortest.{Shortest}
use Rattle.partners.proofs.Partners.{Partner, here, later, partner_same}

module _ (n : ℕ) where
  pub shortest_nil : Shortest n []
  shortest_nil = record { valid = tt; fewest = λ d l. omega arith }

  -- a reduced list is one
  pub reduced_shortest : {c r : List Gate} → AllValid n c → Reduced n c r → Shortest n r
  reduced_shortest f x = record { valid = linked_all_valid x.linked f; fewest = λ d l. (let k = x.fewest d (linked_trans x.linked l) in omega arith) }

  -- so is every circuit linked to one that is as short
  pub shortest_linked : {c d : List Gate} → Shortest n c → Linked n c d → length d ≤ length c → Shortest n d
  shortest_linked w l h = record { valid = linked_all_valid l w.valid; fewest = λ e m. (let k = w.fewest e (linked_trans l m) in omega arith) }

  -- and what is left of one without its first gate
  pub shortest_tail : {a : Gate} {v : List Gate} → Shortest n (a ∷ v) → Shortest n v
  shortest_tail {a} {v} w = record { valid = w.valid.1; fewest = λ d l. (let k = w.fewest (a ∷ d) (linked_before (a ∷ []) (w.valid.0, tt) l) in omega arith) }

  -- ---- at most one partner

  -- v with its gate b in front
  record Fetched (b : Gate) (v : List Gate) : Type 0 where
    others : List Gate
    linked : Linked n v (b ∷ others)
    size : length v ≡ suc (length others)

  -- a partner comes to the front if g passes all
  fetched : {g b : Gate} {v : List Gate} {j : ℕ} → AllValid n v → Free g v → Partner g b v j → Fetched b v
  fetched h f (here {v} s k) = record { others = v; linked = done; size = refl }
  fetched {b = b} h (free_cons q f) (later {b = x} p) =
      let w = fetched h.1 f p in
      let k = linked_all_valid w.linked h.1 in
      record {
        others = x ∷ w.others;
        linked = linked_trans (linked_before (x ∷ []) (h.0, tt) w.linked)
            (forth (step [] w.others (pass (passes_same_right (same_sym (partner_same p)) (passes_sym q))) (h.0, (k.0, k.1)) (k.0, (h.0, k.1))) done);
        size = omega (arith, w.size);
      }

  -- and merges with another one there: so there is none in a shortest circuit
  no_two : {g a b : Gate} {v : List Gate} {j : ℕ} → Shortest n (a ∷ v) → Same a g → Free g v → Partner g b v j → ⊥
  no_two {g} {a} {b} {v} w s f p =
      let r = fetched w.valid.1 f p in
      let u : List Gate = r.others in
      let k = linked_all_valid r.linked w.valid.1 in
      let merging : Step n (a ∷ b ∷ u) (merged a b ++ u) = step [] u (merged_rewrite (same_trans s (same_sym (partner_same p)))) (w.valid.0, (k.0, k.1)) (all_valid_append n (merged a b) u (all_valid_merged b w.valid.0) k.1) in
      let short : length (merged a b ++ u) ≤ suc (length u) = merged_elim (λ l. length l ≤ suc (length u)) a b u (omega arith) (λ x t. omega arith) in
      omega (arith, short, r.size, w.fewest (merged a b ++ u) (linked_trans (linked_before (a ∷ []) (w.valid.0, tt) r.linked) (forth merging done)))

  pub partner_unique : {g a b : Gate} {c : List Gate} {i j : ℕ} → Shortest n c → Partner g a c i → Partner g b c j → i ≡ j
  partner_unique w (here s f) (here t k) = refl
  partner_unique w (here s f) (later q) = absurd (no_two w s f q)
  partner_unique w (later p) (here t k) = absurd (no_two w t k p)
  partner_unique w (later p) (later q) = ap suc (partner_unique (shortest_tail w) p q)
