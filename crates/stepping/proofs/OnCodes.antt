-- A step of a slip on the numbers of a circuit: the two neighbours cut out, and what is put in their place. Assumes nothing.
use mathlib.Core.Path.{◌≡◌, refl, sym, ap, ◌∙◌}
use mathlib.Core.List.{List, [], ◌∷◌, ◌++◌, append_assoc}
use Prim.Native.Nat.{ℕ, suc, ◌-◌, ◌≤◌, ◌<◌}
use native.Mathlib.Omega.{arith}
use lib.ListN.{length, get_or, take, drop, set, length-set}
use lib.Seq.{length-take-le, split_at, drop-cons, get_or-take, take-set-lt, set-append_seam}
use Rattle.std.specs.List.{swap}
use Rattle.std.specs.Prelude.{Ok}
use Rattle.std.proofs.lemmas.List.Edits.{swap_is, length-swap}
use Rattle.gates.specs.declared.Gate.{Gate}
use Rattle.gates.specs.Circuit.{Passes}
use Rattle.gates.specs.Sites.{Same}
use Rattle.gates.specs.Code.{gate, gates, Code, AllCodes, total, joined}
use Rattle.gates.proofs.Every.{every_append, every_left, every_right}
use Rattle.gates.proofs.CodeLists.{length_gates, gates_append}
use Rattle.gates.proofs.CodePairs.{same_site, merged_none, merged_one, code_joined}
use Rattle.stepping.specs.Slip.{Effect, makes, not_allowed, amid, passing, merging, at_place}
use Rattle.stepping.specs.Stepped.{without, Circuit, StepsTo}
use Rattle.stepping.proofs.Steps.{passing_passes, passing_not, merging_same, merging_not_same, at_neighbours}

-- ---- the two neighbours

-- a and b stand at the places i and i + 1, counted from 1
pub data Cut : List ℕ → ℕ → ℕ → ℕ → Type 0 where
  cut : (u v : List ℕ) (a b : ℕ) → Cut (u ++ (a ∷ b ∷ v)) (suc (length u)) a b

-- the list with k in their place
replaced : {l : List ℕ} {i a b : ℕ} → Cut l i a b → List ℕ → List ℕ
replaced (cut u v a b) k = u ++ k ++ v

cut_at : (l : List ℕ) (i : ℕ) → suc i < length l → Cut l (suc i) (get_or l i 0) (get_or l (suc i) 0)
cut_at l i h =
    let u = take i l in
    let v = drop (suc (suc i)) l in
    let a = get_or l i 0 in
    let b = get_or l (suc i) 0 in
    let n : length u ≡ i = length-take-le i l (omega arith) in
    let e : l ≡ u ++ (a ∷ b ∷ v) = split_at l i 0 (omega arith) ∙ ap (λ (w : List ℕ). u ++ (a ∷ w)) (drop-cons l (suc i) 0 h) in
    rw (sym e, n) at (cut u v a b)

-- ---- what is put in their place

module _ (f : Gate → Gate → Effect) where
  at_cut : (u v : List ℕ) (a b : ℕ) → at_place f (suc (length u)) (gates (u ++ (a ∷ b ∷ v))) ≡ amid (gates u) (f (gate a) (gate b)) (gates v)
  at_cut u v a b =
      rw (gates_append u (a ∷ b ∷ v), ← append_assoc (gates u) (gate a ∷ gate b ∷ []) (gates v), ← length_gates u)
      (at_neighbours f (gates u) (gates v) (gate a) (gate b))

  cut_refused : {l : List ℕ} {i a b : ℕ} → Cut l i a b → f (gate a) (gate b) ≡ not_allowed → at_place f i (gates l) ≡ not_allowed
  unfolding amid
  cut_refused (cut u v a b) e = at_cut u v a b ∙ rw e

  cut_makes : {l : List ℕ} {i a b : ℕ} (q : Cut l i a b) (k : List ℕ) → f (gate a) (gate b) ≡ makes (gates k) → at_place f i (gates l) ≡ makes (gates (replaced q k))
  unfolding amid replaced
  cut_makes (cut u v a b) k e = at_cut u v a b ∙ rw (e, gates_append (u ++ k) v, gates_append u k)

cut_codes : {l : List ℕ} {i a b : ℕ} (q : Cut l i a b) (k : List ℕ) → AllCodes 32 l → AllCodes 32 k → AllCodes 32 (replaced q k)
unfolding replaced
cut_codes (cut u v a b) k w x =
    let r = every_right (Code 32) u (a ∷ b ∷ v) w in
    every_append (Code 32) (u ++ k) v (every_append (Code 32) u k (every_left (Code 32) u (a ∷ b ∷ v) w) x) r.1.1

cut_two : {l : List ℕ} {i a b : ℕ} → Cut l i a b → AllCodes 32 l → Code 32 a × Code 32 b
cut_two (cut u v a b) w = let r = every_right (Code 32) u (a ∷ b ∷ v) w in (r.0, r.1.0)

-- ---- what the code puts there

exchange : (u v : List ℕ) (a b : ℕ) → set (set (u ++ (a ∷ b ∷ v)) (length u) b) (suc (length u)) a ≡ u ++ (b ∷ a ∷ v)
exchange [] v a b = refl
exchange (x ∷ u) v a b = ap (λ (w : List ℕ). x ∷ w) (exchange u v a b)

without_second : (u v : List ℕ) (a b : ℕ) → without (suc (length u)) (u ++ (a ∷ b ∷ v)) ≡ u ++ (a ∷ v)
unfolding without
without_second [] v a b = refl
without_second (x ∷ u) v a b = ap (λ (w : List ℕ). x ∷ w) (without_second u v a b)

without_first : (u v : List ℕ) (a : ℕ) → without (length u) (u ++ (a ∷ v)) ≡ u ++ v
unfolding without
without_first [] v a = refl
without_first (x ∷ u) v a = ap (λ (w : List ℕ). x ∷ w) (without_first u v a)

cut_exchange : {l : List ℕ} {i a b : ℕ} (q : Cut l i a b) → set (set l (i - 1) b) i a ≡ replaced q (b ∷ a ∷ [])
unfolding replaced
cut_exchange (cut u v a b) =
    let e : suc (length u) - 1 ≡ length u = omega arith in
    rw (e, exchange u v a b, append_assoc u (b ∷ a ∷ []) v)

cut_none : {l : List ℕ} {i a b : ℕ} (q : Cut l i a b) → without (i - 1) (without i l) ≡ replaced q []
unfolding replaced
cut_none (cut u v a b) =
    let e : suc (length u) - 1 ≡ length u = omega arith in
    rw (e, without_second u v a b, without_first u v a, append_assoc u [] v)

cut_one : {l : List ℕ} {i a b : ℕ} (q : Cut l i a b) (k : ℕ) → set (without i l) (i - 1) k ≡ replaced q (k ∷ [])
unfolding replaced
cut_one (cut u v a b) k =
    let e : suc (length u) - 1 ≡ length u = omega arith in
    rw (e, without_second u v a b, set-append_seam u a v k, append_assoc u (k ∷ []) v)

-- ---- a step on the first m numbers, at a place with a right neighbour

module _ (codes : List ℕ) (m i line : ℕ) (w : Circuit m codes) (h : 1 ≤ i) (k : i < m) where
  abbrev a : ℕ
  a = get_or codes (i - 1) 0

  abbrev b : ℕ
  b = get_or codes i 0

  front : Cut (take m codes) i a b
  front =
      let e : suc (i - 1) ≡ i = omega arith in
      rw (e, get_or-take m codes (i - 1) 0 (omega arith), get_or-take m codes i 0 k) at (cut_at (take m codes) (i - 1) (omega (arith, length-take-le m codes w.fits)))

  -- x is put in their place
  made : (f : Gate → Gate → Effect) (x : List ℕ) (n : ℕ) (exit : List ℕ) → f (gate a) (gate b) ≡ makes (gates x) → AllCodes 32 x → n ≤ length exit → length exit ≡ length codes → take n exit ≡ replaced front x → StepsTo (at_place f i (gates (take m codes))) line codes exit (Ok n)
  made f x n exit e c s l r =
      (rw r (cut_makes f front x e), record { fits = s; codes = rw r (cut_codes front x w.codes c) }, l)

  -- they do not pass
  pub pass_refused : (Passes (gate a) (gate b) → ⊥) → at_place passing i (gates (take m codes)) ≡ not_allowed
  pass_refused p = cut_refused passing front (passing_not p)

  -- they have not one site
  pub merge_refused : (Same (gate a) (gate b) → ⊥) → at_place merging i (gates (take m codes)) ≡ not_allowed
  merge_refused s = cut_refused merging front (merging_not_same s)

  -- they change places
  pub passed : Passes (gate a) (gate b) → StepsTo (at_place passing i (gates (take m codes))) line codes (swap codes (i - 1) i) (Ok m)
  passed p =
      let q : set (set codes (i - 1) b) i a ≡ swap codes (i - 1) i = swap_is codes (i - 1) i 0 (omega (arith, w.fits)) (omega (arith, w.fits)) in
      let e : take m (swap codes (i - 1) i) ≡ replaced front (b ∷ a ∷ []) = rw (sym q) (take-set-lt m (set codes (i - 1) b) i a k ∙ ap (λ (x : List ℕ). set x i a) (take-set-lt m codes (i - 1) b (omega arith)) ∙ cut_exchange front) in
      let c = cut_two front w.codes in
      let l = length-swap codes (i - 1) i in
      made passing (b ∷ a ∷ []) m (swap codes (i - 1) i) (passing_passes p) (c.1, (c.0, tt)) (omega (arith, w.fits)) l e

  -- the second is taken out
  module _ (s : Same (gate a) (gate b)) (rest : List ℕ) (l : length rest ≡ length codes) (r : take (m - 1) rest ≡ without i (take m codes)) where
    -- and the first is merged with it
    pub merged_into : (total a b ≡ 0 → ⊥) → StepsTo (at_place merging i (gates (take m codes))) line codes (set rest (i - 1) (joined a b)) (Ok (m - 1))
    merged_into n =
        let c = cut_two front w.codes in
        let j : length (set rest (i - 1) (joined a b)) ≡ length codes = length-set rest (i - 1) (joined a b) ∙ l in
        let e : take (m - 1) (set rest (i - 1) (joined a b)) ≡ replaced front (joined a b ∷ []) = take-set-lt (m - 1) rest (i - 1) (joined a b) (omega arith) ∙ rw r (cut_one front (joined a b)) in
        made merging (joined a b ∷ []) (m - 1) (set rest (i - 1) (joined a b)) (merging_same s ∙ ap makes (merged_one a b c.0 c.1 (same_site a b s) n)) (code_joined a b c.0 c.1 (same_site a b s) n, tt) (omega (arith, w.fits)) j e

    -- and so is the first
    pub vanished : total a b ≡ 0 → (exit : List ℕ) → length exit ≡ length codes → take (m - 1 - 1) exit ≡ without (i - 1) (take (m - 1) rest) → StepsTo (at_place merging i (gates (take m codes))) line codes exit (Ok (m - 2))
    vanished z exit j f =
        let c = cut_two front w.codes in
        let d : m - 2 ≡ m - 1 - 1 = omega arith in
        let e : take (m - 2) exit ≡ replaced front [] = rw d (f ∙ rw r (cut_none front)) in
        made merging [] (m - 2) exit (merging_same s ∙ ap makes (merged_none a b c.0 c.1 (same_site a b s) z)) tt (omega (arith, w.fits)) j e
