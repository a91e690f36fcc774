-- How many gates a push leaves of a list in normal form: one more, or those of the merge in place of the partner. Assumes nothing.
use mathlib.Core.Path.{◌≡◌, ap, ◌∙◌}
use mathlib.Core.List.{List, [], ◌∷◌, ◌++◌}
use Prim.Native.Nat.{ℕ, suc, ◌+◌}
use native.Mathlib.Omega.{arith}
use lib.ListN.{length, length-append, take, drop}
use Rattle.gates.specs.declared.Gate.{Gate}
use Rattle.gates.specs.Circuit.{Passes}
use Rattle.gates.specs.Sites.{Same, Free, free_cons, Front, there}
use Rattle.gates.proofs.Pushing.{merged, Turn, meets, enters, stays, turn, push, Normal, normal_cons}
use Rattle.gates.proofs.Sites.{same_refl, same_sym, same_trans, less_trans, less_irrefl, passes_sym, passes_same, passes_same_right}
use Rattle.gates.proofs.Push.{push_nil, push_meets, push_enters, push_stays}
use Rattle.gates.specs.Sites as N
use Rattle.partners.proofs.Partners.{Partner, here, later, partner_same}

-- without a partner
pub push_alone : (w : List Gate) (g : Gate) → ((a : Gate) (i : ℕ) → Partner g a w i → ⊥) → length (push w g) ≡ suc (length w)
push_alone [] g n = ap length (push_nil g)
push_alone (a ∷ v) g n = go (push_alone v g (λ b i p. n b (suc i) (later p))) (turn a v g)
  where
    go : length (push v g) ≡ suc (length v) → Turn a v g → length (push (a ∷ v) g) ≡ suc (suc (length v))
    go ih (meets f s) = absurd (n a 0 (here s f))
    go ih (enters f p l) = ap length (push_enters f p l)
    go ih (stays m i) = ap length (push_stays m i) ∙ ap suc ih

-- a partner in a list that g passes is in front
partner_front : {g a : Gate} {v : List Gate} {i : ℕ} → Free g v → Partner g a v i → Front a v
partner_front f (here s k) = N.here (same_refl _)
partner_front (free_cons q f) (later p) = there (passes_same (same_sym (partner_same p)) q) (partner_front f p)

-- with a partner
pub push_partner : {g a : Gate} {w : List Gate} {i : ℕ} → Normal w → Passes g g → Partner g a w i → suc (length (push w g)) ≡ length w + length (merged a g)
push_partner {g} {a} w q (here {v} s f) = omega (arith, ap length (push_meets f s), length-append (merged a g) v)
push_partner {g} {a} (normal_cons {a = b} {v} w low) q (later p) = go (push_partner w q p) (turn b v g)
  where
    s : Same a g
    s = partner_same p

    go : suc (length (push v g)) ≡ length v + length (merged a g) → Turn b v g → suc (length (push (b ∷ v) g)) ≡ suc (length v) + length (merged a g)
    go ih (meets f t) = absurd (less_irrefl (same_trans t (same_sym s)) (low a (partner_front f p) (passes_same (same_sym s) (passes_same_right (same_sym t) q))))
    go ih (enters f r l) = absurd (less_irrefl (same_sym s) (less_trans l (low a (partner_front f p) (passes_same (same_sym s) (passes_sym r)))))
    go ih (stays m i) = omega (arith, ap length (push_stays m i))

-- the merge in the partner's place
pub replaced_length : {g a : Gate} {c : List Gate} {i : ℕ} (x : List Gate) → Partner g a c i → suc (length (take i c ++ x ++ drop (suc i) c)) ≡ length c + length x
replaced_length x (here {v} s f) = omega (arith, length-append x v)
replaced_length x (later p) = omega (arith, replaced_length x p)
