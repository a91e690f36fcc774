-- The partner by places: a gate of one site with no gate after it that blocks the way. It is the partner, by passes alone, in the circuit that
-- remains. Assumes nothing.
use mathlib.Core.Path.{◌≡◌}
use mathlib.Core.List.{List, [], ◌∷◌}
use Prim.Native.Nat.{ℕ, zero, suc, ◌/◌, ◌%◌, ◌≤◌, ◌<◌}
use native.Mathlib.Omega.{arith}
use lib.ListN.{length, take, get_or}
use Rattle.gates.specs.declared.Gate.{Gate}
use Rattle.gates.specs.Code.{gate, gates}
use Rattle.gates.specs.Sites.{Same, Free, free_nil, free_cons}
use Rattle.gates.proofs.Pushing.{free_head, free_tail}
use Rattle.partners.specs.Partner.{NoPartner}
use Rattle.partners.proofs.Partners.{Partner, here, later, partner_brought, brought_partner}
use Rattle.stacks.specs.Remaining.{remaining}
use Rattle.stacks.specs.Found.{PartnerAt}
use Rattle.gates.proofs.CodePairs.{Clear, one_site, same_site, clear_passes, passes_clear}
use Rattle.stacks.proofs.Remaining.{kept_one, Place, removed, there, place, remaining_nil, remaining_removed, remaining_there}

-- the gate at j has g's target and control, and g passes every gate after it, up to place n
pub record Meets (l : List ℕ) (n g j : ℕ) : Type 0 where
  pub inside : j < n
  pub there : 1 ≤ get_or l j 0 % 4
  pub site : get_or l j 0 / 4 ≡ g / 4
  pub free : (i : ℕ) → j < i → i < n → 1 ≤ get_or l i 0 % 4 → Clear (g / 4) (get_or l i 0 / 4)

module _ (g : ℕ) where
  free_remaining : (l : List ℕ) (n : ℕ) → n ≤ length l → ((i : ℕ) → i < n → 1 ≤ get_or l i 0 % 4 → Clear (g / 4) (get_or l i 0 / 4)) → Free (gate g) (gates (remaining (take n l)))
  free_remaining l zero h f = rw remaining_nil free_nil
  free_remaining [] (suc n) h f = absurd (omega arith)
  free_remaining (x ∷ l) (suc n) h f = go (free_remaining l n (omega arith) (λ i a. f (suc i) (omega arith))) (place x)
    where
      go : Free (gate g) (gates (remaining (take n l))) → Place x → Free (gate g) (gates (remaining (x ∷ take n l)))
      go ih (removed a e) = rw (remaining_removed x (take n l) e) ih
      go ih (there a e) = rw (remaining_there x (take n l) e) (free_cons (clear_passes g x (f 0 (omega arith) a)) ih)

  remaining_free : (l : List ℕ) (n : ℕ) → n ≤ length l → Free (gate g) (gates (remaining (take n l))) → (i : ℕ) → i < n → 1 ≤ get_or l i 0 % 4 → Clear (g / 4) (get_or l i 0 / 4)
  remaining_free l zero h f i a b = absurd (omega arith)
  remaining_free [] (suc n) h f i a b = absurd (omega arith)
  remaining_free (x ∷ l) (suc n) h f zero a b = passes_clear g x (free_head (rw (remaining_there x (take n l) (kept_one x b)) at f))
  remaining_free (x ∷ l) (suc n) h f (suc i) a b = remaining_free l n (omega arith) (go f (place x)) i (omega arith) b
    where
      go : Free (gate g) (gates (remaining (x ∷ take n l))) → Place x → Free (gate g) (gates (remaining (take n l)))
      go k (removed c e) = rw (remaining_removed x (take n l) e) at k
      go k (there c e) = free_tail (rw (remaining_there x (take n l) e) at k)

  meets_tail : {x : ℕ} {l : List ℕ} {n j : ℕ} → Meets (x ∷ l) (suc n) g (suc j) → Meets l n g j
  meets_tail m = record { inside = omega (arith, m.inside); there = m.there; site = m.site; free = λ i a b. m.free (suc i) (omega arith) (omega arith) }

  meets_cons : {x : ℕ} {l : List ℕ} {n j : ℕ} → Meets l n g j → Meets (x ∷ l) (suc n) g (suc j)
  meets_cons {x} {l} {n} {j} m = record { inside = omega (arith, m.inside); there = m.there; site = m.site; free = λ i. free i }
    where
      free : (i : ℕ) → suc j < i → i < suc n → 1 ≤ get_or (x ∷ l) i 0 % 4 → Clear (g / 4) (get_or (x ∷ l) i 0 / 4)
      free zero a b = absurd (omega arith)
      free (suc i) a b = m.free i (omega arith) (omega arith)

  -- to the circuit
  meets_partner : (l : List ℕ) (n j : ℕ) → n ≤ length l → Meets l n g j → Partner (gate g) (gate (get_or l j 0)) (gates (remaining (take n l))) (length (remaining (take j l)))
  meets_partner l zero j h m = absurd (omega (arith, m.inside))
  meets_partner [] (suc n) j h m = absurd (omega arith)
  meets_partner (x ∷ l) (suc n) zero h m =
      rw (remaining_there x (take n l) (kept_one x m.there), remaining_nil) (here (one_site x g m.site) (free_remaining l n (omega arith) (λ i a. m.free (suc i) (omega arith) (omega arith))))
  meets_partner (x ∷ l) (suc n) (suc j) h m = go (meets_partner l n j (omega arith) (meets_tail m)) (place x)
    where
      go : Partner (gate g) (gate (get_or l j 0)) (gates (remaining (take n l))) (length (remaining (take j l))) → Place x → Partner (gate g) (gate (get_or l j 0)) (gates (remaining (x ∷ take n l))) (length (remaining (x ∷ take j l)))
      go ih (removed a e) = rw (remaining_removed x (take n l) e, remaining_removed x (take j l) e) ih
      go ih (there a e) = rw (remaining_there x (take n l) e, remaining_there x (take j l) e) (later ih)

  partner_split : {a b : Gate} {c : List Gate} {i : ℕ} {P : Type 0} → Partner (gate g) a (b ∷ c) i → (Same b (gate g) → Free (gate g) c → P) → ((k : ℕ) → Partner (gate g) a c k → P) → P
  partner_split (here s f) p q = p s f
  partner_split (later {i} w) p q = q i w

  -- and back
  partner_meets : (l : List ℕ) (n : ℕ) → n ≤ length l → (a : Gate) (i : ℕ) → Partner (gate g) a (gates (remaining (take n l))) i → (j : ℕ) × Meets l n g j
  partner_meets l zero h a i p = absurd (nothing (rw remaining_nil at p))
    where
      nothing : Partner (gate g) a [] i → ⊥
      nothing w = elim w [ ]
  partner_meets [] (suc n) h a i p = absurd (omega arith)
  partner_meets (x ∷ l) (suc n) h a i p = go (λ k w. partner_meets l n (omega arith) a k w) (place x)
    where
      up : (j : ℕ) × Meets l n g j → (j : ℕ) × Meets (x ∷ l) (suc n) g j
      up w = (suc w.0, meets_cons w.1)

      first : 1 ≤ x % 4 → Same (gate x) (gate g) → Free (gate g) (gates (remaining (take n l))) → (j : ℕ) × Meets (x ∷ l) (suc n) g j
      first b s f = (0, record { inside = omega arith; there = b; site = same_site x g s; free = λ k. free f k })
        where
          free : Free (gate g) (gates (remaining (take n l))) → (k : ℕ) → 0 < k → k < suc n → 1 ≤ get_or (x ∷ l) k 0 % 4 → Clear (g / 4) (get_or (x ∷ l) k 0 / 4)
          free f zero c d = absurd (omega arith)
          free f (suc k) c d = remaining_free l n (omega arith) f k (omega arith)

      go : ((k : ℕ) → Partner (gate g) a (gates (remaining (take n l))) k → (j : ℕ) × Meets l n g j) → Place x → (j : ℕ) × Meets (x ∷ l) (suc n) g j
      go ih (removed b e) = up (ih i (rw (remaining_removed x (take n l) e) at p))
      go ih (there b e) = partner_split (rw (remaining_there x (take n l) e) at p) (λ s f. first b s f) (λ k w. up (ih k w))

  -- in terms of passes
  pub meets_at : (l : List ℕ) (n j : ℕ) → n ≤ length l → Meets l n g j → PartnerAt l n g j
  meets_at l n j h m = record { inside = m.inside; there = m.there; brought = partner_brought (meets_partner l n j h m) }

  pub meets_nowhere : (l : List ℕ) (n : ℕ) → n ≤ length l → ((j : ℕ) → Meets l n g j → ⊥) → NoPartner (gates (remaining (take n l))) (gate g)
  meets_nowhere l n h none i b = let w = partner_meets l n h b.partner i (brought_partner b) in none w.0 w.1
