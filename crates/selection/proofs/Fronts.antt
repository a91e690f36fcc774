-- Chains of passes alone keep the sites in front; in a shortest circuit no site is in front twice; a normal list is its own normal form.
-- Assumes nothing.
use mathlib.Core.Path.{◌≡◌, ap, ◌∙◌}
use mathlib.Core.List.{List, [], ◌∷◌, ◌++◌, append-nil, append_assoc}
use Prim.Native.Nat.{ℕ, suc, ◌≤◌}
use native.Mathlib.Omega.{arith}
use lib.ListN.{length}
use Rattle.gates.specs.declared.Gate.{Gate}
use Rattle.gates.specs.Circuit.{AllValid, Valid, Passes, Step, step, done, forth}
use Rattle.gates.specs.Sites.{Same, Free, free_nil, free_cons, Front, here, there}
use Rattle.gates.proofs.Pushing.{merged, push, Normal, normal_nil, normal_cons, pushes}
use Rattle.gates.proofs.Sites.{same_refl, same_sym, same_trans, less_irrefl, less_asym, passes_sym, passes_same, passes_same_right, passes_self}
use Rattle.gates.proofs.Merge.{merged_elim, merged_rewrite, all_valid_merged}
use Rattle.gates.proofs.Push.{push_nil, push_stays}
use Rattle.gates.proofs.Reach.{all_valid_append}
use Rattle.gates.proofs.Chains.{reaches_linked}
use Rattle.gates.proofs.Theorem.{nf}
use Rattle.partners.specs.Shortest.{Shortest}
use Rattle.partners.proofs.Shortest.{shortest_linked}
use Rattle.partners.proofs.Passing.{Passing, none, next, passing_length, passing_reaches}

-- ---- chains of passes

pub passing_trans : {c d e : List Gate} → Passing c d → Passing d e → Passing c e
passing_trans none r = r
passing_trans (next u x y v p q) r = next u x y v p (passing_trans q r)

pub passing_cons : {c d : List Gate} (z : Gate) → Passing c d → Passing (z ∷ c) (z ∷ d)
passing_cons z none = none
passing_cons z (next u x y v p q) = next (z ∷ u) x y v p (passing_cons z q)

-- a gate that passes all before it comes to the front
pub slide : {g : Gate} (u v : List Gate) → Free g u → Passing (u ++ g ∷ v) (g ∷ u ++ v)
slide [] v f = none
slide {g} (a ∷ u) v (free_cons p f) = passing_trans (passing_cons a (slide u v f)) (next [] a g (u ++ v) (passes_sym p) none)

pub passing_shortest : {n : ℕ} {c d : List Gate} → Shortest n c → Passing c d → Shortest n d
passing_shortest {n} w p = shortest_linked n w (reaches_linked (passing_reaches w.valid p)) (omega (arith, passing_length p))

-- ---- sites in front

front_swap : {s : Gate} (u : List Gate) (x y : Gate) (v : List Gate) → Passes x y → Front s (u ++ (x ∷ y ∷ []) ++ v) → Front s (u ++ (y ∷ x ∷ []) ++ v)
front_swap [] x y v p (here e) = there (passes_same e p) (here e)
front_swap [] x y v p (there q (here e)) = here e
front_swap [] x y v p (there q (there r f)) = there r (there q f)
front_swap (z ∷ u) x y v p (here e) = here e
front_swap (z ∷ u) x y v p (there q f) = there q (front_swap u x y v p f)

pub front_back : {s : Gate} {c d : List Gate} → Passing c d → Front s d → Front s c
front_back none f = f
front_back (next u x y v p r) f = front_swap u y x v (passes_sym p) (front_back r f)

-- a gate in front comes to the front
pub record Fetched (s : Gate) (v : List Gate) : Type 0 where
  pub gate : Gate
  pub others : List Gate
  pub site : Same gate s
  pub passing : Passing v (gate ∷ others)

pub fetched : {s : Gate} {v : List Gate} → Front s v → Fetched s v
fetched (here {a} {v} e) = record { gate = a; others = v; site = e; passing = none }
fetched (there {a} p f) =
    let w = fetched f in
    record {
      gate = w.gate;
      others = a ∷ w.others;
      site = w.site;
      passing = passing_trans (passing_cons a w.passing) (next [] a w.gate w.others (passes_sym (passes_same (same_sym w.site) p)) none);
    }

-- so no site is in front of a shortest circuit twice: the two would merge
pub no_twin : {n : ℕ} {g s : Gate} {v : List Gate} → Shortest n (g ∷ v) → Front s v → Same g s → ⊥
no_twin {n} {g} w f e =
    let r = fetched f in
    let b = r.gate in
    let u : List Gate = r.others in
    let k = passing_shortest w (passing_cons g r.passing) in
    let merging : Step n (g ∷ b ∷ u) (merged g b ++ u) = step [] u (merged_rewrite (same_trans e (same_sym r.site))) k.valid (all_valid_append n (merged g b) u (all_valid_merged b k.valid.0) k.valid.1.1) in
    let short : length (merged g b ++ u) ≤ suc (length u) = merged_elim (λ l. length l ≤ suc (length u)) g b u (omega arith) (λ x t. omega arith) in
    omega (arith, short, k.fewest (merged g b ++ u) (forth merging done))

-- ---- a normal list is its own normal form

front_append : {s : Gate} {u : List Gate} (v : List Gate) → Front s u → Front s (u ++ v)
front_append v (here e) = here e
front_append v (there p f) = there p (front_append v f)

normal_left : (u v : List Gate) → Normal (u ++ v) → Normal u
normal_left [] v w = normal_nil
normal_left (a ∷ u) v (normal_cons w b) = normal_cons (normal_left u v w) (λ s f p. b s (front_append v f) p)

front_last : {g : Gate} {u : List Gate} → Free g u → Front g (u ++ g ∷ [])
front_last free_nil = here (same_refl _)
front_last (free_cons p f) = there p (front_last f)

push_last : {n : ℕ} {g : Gate} (u : List Gate) → Valid n g → Normal (u ++ g ∷ []) → push u g ≡ u ++ g ∷ []
push_last [] k w = push_nil _
push_last {g = g} (a ∷ u) k (normal_cons w b) =
    push_stays
    (λ f s. less_irrefl s (b g (front_last f) (passes_same_right (same_sym s) (passes_self k))))
    (λ f p l. less_asym l (b g (front_last f) (passes_sym p)))
    ∙ ap (λ l. a ∷ l) (push_last u k w)

pushes_normal : (n : ℕ) (u v : List Gate) → AllValid n v → Normal (u ++ v) → pushes u v ≡ u ++ v
pushes_normal n u [] f w = rw append-nil
pushes_normal n u (g ∷ v) f w =
    let e : (u ++ g ∷ []) ++ v ≡ u ++ g ∷ v = append_assoc u (g ∷ []) v in
    let x : Normal ((u ++ g ∷ []) ++ v) = rw e w in
    ap (λ l. pushes l v) (push_last u f.0 (normal_left (u ++ g ∷ []) v x)) ∙ pushes_normal n (u ++ g ∷ []) v f.1 x ∙ e

pub nf_normal : (n : ℕ) (r : List Gate) → AllValid n r → Normal r → nf r ≡ r
unfolding nf
nf_normal n r f w = pushes_normal n [] r f w
