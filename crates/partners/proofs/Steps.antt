-- One step, on a shortest circuit and a new gate after it: what it leaves is linked to the two and shortest again; and the steps for the gates of
-- a circuit in turn. Assumes nothing.
use mathlib.Core.Path.{◌≡◌, refl, sym, ap, ◌∙◌}
use mathlib.Core.List.{List, [], ◌∷◌, ◌++◌, append-nil, append_assoc}
use Prim.Native.Nat.{ℕ, suc}
use native.Mathlib.Omega.{arith}
use lib.ListN.{length, length-append, take, drop, get_or}
use Rattle.gates.specs.declared.Gate.{Gate}
use Rattle.gates.specs.Circuit.{Valid, AllValid, Linked, done}
use Rattle.gates.proofs.Sites.{passes_self}
use Rattle.gates.proofs.Pushing.{merged, push, Normal, normal_nil}
use Rattle.gates.proofs.Push.{push_meets}
use Rattle.gates.proofs.Reach.{all_valid_append, push_reach}
use Rattle.gates.proofs.Chains.{reaches_linked, linked_trans, linked_both, linked_before, linked_after}
use Rattle.gates.proofs.Theorem.{nf, normal_pushes, nf_reduced}
use Rattle.gates.proofs.Joins.{nf_snoc}
use Rattle.partners.specs.Shortest.{Shortest}
use Rattle.partners.specs.Partner.{Brought}
use Rattle.partners.specs.Steps.{Leaves, partnered, alone, Turns, over, turn}
use Rattle.partners.proofs.Partners.{Partner, here, later, partner_at, merges_merged, partner_brought, brought_partner}
use Rattle.partners.proofs.Shortest.{reduced_shortest, shortest_linked, partner_unique}
use Rattle.partners.proofs.Passing.{shortest_passing, passing_length, partner_forth, partner_back}
use Rattle.partners.proofs.Lengths.{push_alone, push_partner, replaced_length}

normal_nf : (c : List Gate) → Normal (nf c)
unfolding nf
normal_nf c = normal_pushes c normal_nil

module _ (n : ℕ) where
  -- ---- linked

  -- the merge in the partner's place
  partner_linked : {g a : Gate} {c : List Gate} {i : ℕ} → AllValid n c → Valid n g → Partner g a c i → Linked n (c ++ g ∷ []) (take i c ++ merged a g ++ drop (suc i) c)
  partner_linked {g} {a} h k (here {v} s f) = rw (push_meets f s) at (reaches_linked (push_reach n (a ∷ v) h k))
  partner_linked h k (later {b} p) = linked_before (b ∷ []) (h.0, tt) (partner_linked h.1 k p)

  pub leaves_linked : {c : List Gate} {g : Gate} {d : List Gate} → AllValid n c → Valid n g → Leaves c g d → Linked n (c ++ g ∷ []) d
  leaves_linked h k (partnered b) = rw (merges_merged b.merges) at (partner_linked h k (brought_partner b))
  leaves_linked h k (alone none) = done

  -- ---- shortest

  -- what the step leaves has as many gates as the push on the reduced list
  leaves_length : {c : List Gate} {g : Gate} {d : List Gate} → Shortest n c → Valid n g → Leaves c g d → length d ≡ length (push (nf c) g)
  leaves_length {c} {g = g} w k (partnered {i} b) =
      let p = brought_partner b in
      let r = shortest_passing w in
      let q = partner_forth r (i, p) in
      omega (arith, replaced_length b.merge p, push_partner (normal_nf c) (passes_self k) q.1, passing_length r, ap length (merges_merged b.merges))
  leaves_length {c} {g = g} w k (alone none) =
      let r = shortest_passing w in
      omega (arith, length-append c (g ∷ []), push_alone (nf c) g (λ a i p. let q = partner_back r (i, p) in none q.0 (partner_brought q.1)), passing_length r)

  pub leaves_shortest : {c d : List Gate} {g : Gate} → Shortest n c → Valid n g → Leaves c g d → Shortest n d
  leaves_shortest {c} {d} {g} w k s =
      let f = all_valid_append n c (g ∷ []) w.valid (k, tt) in
      let r = nf_reduced n (c ++ g ∷ []) f in
      shortest_linked n (reduced_shortest n f r) (linked_both r.linked (leaves_linked w.valid k s)) (omega (arith, leaves_length w k s, ap length (nf_snoc c g)))

  -- ---- one outcome

  -- two partners are one gate at one place
  same_outcome : {c : List Gate} {g : Gate} {i j : ℕ} → Shortest n c → (b : Brought c g i) → (e : Brought c g j) → take i c ++ b.merge ++ drop (suc i) c ≡ take j c ++ e.merge ++ drop (suc j) c
  same_outcome {c} {g} {i} {j} w b e =
      let p = brought_partner b in
      let q = brought_partner e in
      let z : i ≡ j = partner_unique n w p q in
      let y : b.partner ≡ e.partner = partner_at p ∙ ap (λ k. get_or c k g) z ∙ sym (partner_at q) in
      let x : b.merge ≡ e.merge = sym (merges_merged b.merges) ∙ ap (λ a. merged a g) y ∙ merges_merged e.merges in
      rw (z, x)

  pub leaves_unique : {c : List Gate} {g : Gate} {d e : List Gate} → Shortest n c → Leaves c g d → Leaves c g e → d ≡ e
  leaves_unique w (partnered b) (partnered e) = same_outcome w b e
  leaves_unique w (partnered {i} b) (alone none) = absurd (none i b)
  leaves_unique w (alone none) (partnered {i} b) = absurd (none i b)
  leaves_unique w (alone none) (alone none') = refl

  -- ---- the steps in turn

  pub turns_linked : {c d gs : List Gate} → Shortest n c → AllValid n gs → Turns c gs d → Linked n (c ++ gs) d
  turns_linked w f over = rw append-nil done
  turns_linked {c} w f (turn {gs} {g} s t) =
      linked_trans (rw (append_assoc c (g ∷ []) gs) at (linked_after gs f.1 (leaves_linked w.valid f.0 s))) (turns_linked (leaves_shortest w f.0 s) f.1 t)

  pub turns_shortest : {c d gs : List Gate} → Shortest n c → AllValid n gs → Turns c gs d → Shortest n d
  turns_shortest w f over = w
  turns_shortest w f (turn s t) = turns_shortest (leaves_shortest w f.0 s) f.1 t

  pub turns_unique : {c d e gs : List Gate} → Shortest n c → AllValid n gs → Turns c gs d → Turns c gs e → d ≡ e
  turns_unique w f over over = refl
  turns_unique {e = e} w f (turn {gs} s t) (turn r u) = turns_unique (leaves_shortest w f.0 s) f.1 t (rw (← leaves_unique w s r) at u)
