-- Laws of the stacks of places: removed gates pulled from the top, and empty stacks. Assumes nothing.
use mathlib.Core.Path.{◌≡◌, sym, ◌∙◌}
use mathlib.Core.List.{List}
use Prim.Native.Nat.{ℕ, suc, ◌/◌, ◌%◌, ◌≤◌, ◌<◌}
use native.Mathlib.Omega.{arith}
use native.Mathlib.Decide.{ℕ_discrete, dec_lt}
use lib.ListN.{length, get_or, set, replicate, length-set, length-replicate, get_or-replicate, get_or-eq_default}
use lib.Seq.{get_or-set_same, get_or-set_other}
use Rattle.stacks.specs.Stacks.{Top, Under, Falls, Pulled, Stacks}

-- ---- down a stack

-- at h, from `top` on: where `top` was the top of a stack, h is
pub record Walking (l below : List ℕ) (top h : ℕ) : Type 0 where
  pub within : h ≤ top
  pub last : (K : ℕ → ℕ) (n k : ℕ) → Under K l n below → Top K l n k top → Top K l n k h

module _ (K : ℕ → ℕ) (l below : List ℕ) (n k h q : ℕ) (e : h ≡ suc q) (removed : get_or l q 0 % 4 ≡ 0) (b : Under K l n below) (w : Top K l n k h) where
  nearer : (j : ℕ) → j < n → 1 ≤ get_or l j 0 % 4 → K (get_or l j 0 / 4) ≡ k → j < q
  nearer j a c d = go (ℕ_discrete j q)
    where
      go : Dec (j ≡ q) → j < q
      go (yes f) = absurd (let z : 1 ≤ get_or l q 0 % 4 = rw (← f) c in omega arith)
      go (no f) = let x = f in omega (arith, w.bound j a c d)

  top_below : Top K l n k (get_or below q 0)
  top_below =
      let y = w.key q e in
      let p = b q (omega (arith, w.inside)) in
      record {
        inside = omega (arith, p.inside, w.inside);
        bound = λ j a c d. p.bound j (nearer j a c d) c (d ∙ sym y);
        key = λ r f. p.key r f ∙ y;
      }

pub walking_more : (l below : List ℕ) (top h q : ℕ) → h ≡ suc q → get_or l q 0 % 4 ≡ 0 → Falls below top → Walking l below top h → Walking l below top (get_or below q 0)
walking_more l below top h q e removed f w = record {
  within = omega (arith, w.within, f q (omega (arith, w.within)));
  last = λ K n k b s. top_below K l below n k h q e removed b (w.last K n k b s);
}

-- ---- the stacks of K

zeros : (n i : ℕ) → ◌≡◌ {A = ℕ} (get_or (replicate n 0) i 0) 0
zeros n i = go (dec_lt i n)
  where
    go : Dec (i < n) → ◌≡◌ {A = ℕ} (get_or (replicate n 0) i 0) 0
    go (yes h) = get_or-replicate n i 0 0 h
    go (no h) = get_or-eq_default (replicate n 0) 0 {n = i} (omega (arith, length-replicate {A = ℕ} n 0))

module _ (K : ℕ → ℕ) (size : ℕ) where
  -- empty
  pub stacks_empty : (l tops below : List ℕ) → tops ≡ replicate size 0 → length below ≡ 4096 → Stacks K size l 0 tops below
  stacks_empty l tops below t e = rw t (record {
    keys = length-replicate {A = ℕ} size 0;
    room = e;
    top = λ k. record { inside = omega (arith, zeros size k); bound = λ j a. absurd (omega arith); key = λ q e. absurd (omega (arith, zeros size k)) };
    under = λ p h. absurd (omega arith);
  })

  module _ (l : List ℕ) (n : ℕ) (tops below : List ℕ) (c : Stacks K size l n tops below) where
    -- removed gates pulled
    module _ (k r : ℕ) (tops' : List ℕ) (h : k < size) (s : Pulled l below k tops r tops') where
      pub top_pulled : Top K l n k r
      top_pulled = s.gate.last K n k c.under (c.top k)

      pub stacks_pulled : Stacks K size l n tops' below
      stacks_pulled = rw s.stored (record { keys = length-set tops k r ∙ c.keys; room = c.room; top = λ j. go j (ℕ_discrete j k); under = c.under })
        where
          go : (j : ℕ) → Dec (j ≡ k) → Top K l n j (get_or (set tops k r) j 0)
          go j (yes e) = rw (e, get_or-set_same tops k r 0 (omega (arith, c.keys))) top_pulled
          go j (no e) = rw (get_or-set_other tops k j r 0 e) (c.top j)
