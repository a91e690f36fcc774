-- The two steps of a reduction, and that they give the reduced list. Assumes nothing.
use mathlib.Core.Path.{◌≡◌, sym, ap, ◌∙◌}
use mathlib.Core.List.{List, ◌++◌, append-nil}
use Prim.Native.Nat.{ℕ, ◌+◌, ◌-◌, ◌≤◌}
use native.Mathlib.Omega.{arith}
use lib.ListN.{length, take, drop, replicate, length-append, length-drop, take-append-drop}
use lib.Seq.{take_at, take-append-le, drop_at, drop-append-le, drop-drop, take-length, drop-length, length-take-le}
use borrow.Rule.Slice.PartMut.{put_mid}
use Rattle.gates.specs.Circuit.{Valid}
use Rattle.gates.specs.Code.{gate, gates, Code, AllCodes}
use Rattle.gates.proofs.Every.{every_map}
use Rattle.partners.specs.Shortest.{Shortest}
use Rattle.merging.specs.Merged.{MergedTo}
use Rattle.merging.proofs.Turning.{drop_later, merged_fewest, merged_reduced}
use Rattle.selection.specs.Taking.{Ordered}
use Rattle.reduction.specs.Reducing.{ReducedTo}

-- of the first r brought into order by themselves, with the others behind them
ordered_front : (l q : List ℕ) (r : ℕ) → r ≤ length l → length q ≡ length (take r l) → Ordered (take r l) (length (take r l)) q → Ordered l r (q ++ drop r l)
ordered_front l q r h s o =
    let n : length q ≡ r = s ∙ length-take-le r l h in
    let f : take r (q ++ drop r l) ≡ take (length (take r l)) q = take_at q (drop r l) r n ∙ sym (take-length q) ∙ ap (λ (i : ℕ). take i q) s in
    record { reduced = λ k v. rw f (rw (take-length (take r l)) at (o.reduced k (rw (take-length (take r l)) v))); codes = rw f o.codes; after = drop_at q (drop r l) r n }

-- the places from r up to m are 0
abbrev pub Cleared : List ℕ → ℕ → ℕ → List ℕ → Type 0
Cleared k r m exit = exit ≡ take r k ++ (replicate (m - r) 0 ++ drop m k)

module _ (L : List ℕ) (m : ℕ) (cs : AllCodes 32 (take m L)) (r : ℕ) (l : List ℕ) (w : MergedTo L m r l) where
  -- the first step leaves a circuit that the second can bring into order
  pub steps_shortest : Shortest 32 (gates (take r l))
  steps_shortest = merged_fewest 32 (every_map (Code 32) (Valid 32) gate (λ k c. c.valid) (take m L) cs) w

  -- what the second leaves of it, with the places of the gates that are gone cleared
  pub steps_reduced : (k exit : List ℕ) → m ≤ length k → Ordered l r k → Cleared k r m exit → ReducedTo L m r exit
  steps_reduced k exit h o e =
      let s : length (take r k) ≡ r = length-take-le r k (omega (arith, w.within)) in
      let f : take r exit ≡ take r k = ap (λ (x : List ℕ). take r x) e ∙ take_at (take r k) (replicate (m - r) 0 ++ drop m k) r s in
      record {
        reduced = λ n v. rw f ((merged_reduced n v w (gates (take r k))).0 (o.reduced n (merged_fewest n v w).valid));
        within = w.within;
        codes = rw f o.codes;
        rest =
            ap (λ (x : List ℕ). drop r x) e
            ∙ drop_at (take r k) (replicate (m - r) 0 ++ drop m k) r s
            ∙ ap (λ (x : List ℕ). replicate (m - r) 0 ++ x) (drop_later k l r m w.within o.after ∙ w.rest);
      }

  -- so where they are filled with 0
  filled : (k : List ℕ) → m ≤ length k → Ordered l r k → (gone : List ℕ) → gone ≡ replicate (length (take (m - r) (drop r k))) 0 → ReducedTo L m r (put_mid r (m - r) k gone)
  filled k h o gone e =
      let n : length (take (m - r) (drop r k)) ≡ m - r = length-take-le (m - r) (drop r k) (omega (arith, length-drop r k)) in
      let z : r + (m - r) ≡ m = omega (arith, w.within) in
      steps_reduced k (put_mid r (m - r) k gone) h o
      (ap (λ (x : List ℕ). take r k ++ (x ++ drop (m - r) (drop r k))) (e ∙ ap (λ (x : ℕ). replicate x 0) n)
      ∙ ap (λ (x : List ℕ). take r k ++ (replicate (m - r) 0 ++ x)) (drop-drop (m - r) r k ∙ ap (λ (x : ℕ). drop x k) z))

module _ (L : List ℕ) (cs : AllCodes 32 L) (r : ℕ) (l : List ℕ) (w : MergedTo L (length L) r l) where
  all_of : AllCodes 32 (take (length L) L)
  all_of = rw (take-length L) cs

  -- the same of all of a list
  pub all_shortest : Shortest 32 (gates (take r l))
  all_shortest = steps_shortest L (length L) all_of r l w

  -- after it, the second step on the first r alone, and the places of the gates that are gone filled with 0
  pub all_reduced : (q : List ℕ) → length l ≡ length L → length q ≡ length (take r l) → Ordered (take r l) (length (take r l)) q → (gone : List ℕ) → gone ≡ replicate (length (take (length (q ++ drop r l) - r) (drop r (q ++ drop r l)))) 0 → ReducedTo L (length L) r (put_mid r (length (q ++ drop r l) - r) (q ++ drop r l) gone)
  all_reduced q s t o gone e =
      let h : r ≤ length l = omega (arith, w.within) in
      let n : length (q ++ drop r l) ≡ length L = omega (arith, length-append q (drop r l), length-drop r l, length-take-le r l h, h) in
      rw n (filled L (length L) all_of r l w (q ++ drop r l) (omega arith) (ordered_front l q r h t o) gone (rw n at e))

-- reduced by themselves, m numbers are reduced where they are the front of a list
pub reduced_front : (l q d : List ℕ) (m : ℕ) {r : ℕ} → length l ≡ m → length q ≡ m → ReducedTo l (length l) r q → ReducedTo (l ++ d) m r (q ++ d)
reduced_front l q d m {r} s t x =
    let f : take m (l ++ d) ≡ take (length l) l = take_at l d m s ∙ sym (take-length l) in
    let h : r ≤ length q = omega (arith, x.within) in
    let g : take r (q ++ d) ≡ take r q = take-append-le r q d h in
    let z : drop r q ≡ replicate (m - r) 0 =
    x.rest ∙ ap (λ (y : List ℕ). replicate (length l - r) 0 ++ y) (drop-length l) ∙ append-nil (replicate (length l - r) 0) ∙ ap (λ (i : ℕ). replicate (i - r) 0) s in
    record {
      reduced = λ k v. rw (f, g) (x.reduced k (rw f at v));
      within = omega (arith, x.within);
      codes = rw g x.codes;
      rest = drop-append-le r q d h ∙ ap (λ (y : List ℕ). y ++ d) z ∙ ap (λ (y : List ℕ). replicate (m - r) 0 ++ y) (sym (drop_at l d m s));
    }

-- and so the first m of a list, in their places
pub reduced_part : (l q : List ℕ) (m : ℕ) {r : ℕ} → m ≤ length l → length q ≡ length (take m l) → ReducedTo (take m l) (length (take m l)) r q → ReducedTo l m r (q ++ drop m l)
reduced_part l q m {r} h t x =
    let s : length (take m l) ≡ m = length-take-le m l h in
    rw (take-append-drop m l) at (reduced_front (take m l) q (drop m l) m s (t ∙ s) x)
