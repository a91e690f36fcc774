-- The invariant of the published order: target, controls and spares are different lines of the n, for an mct gate and for each smaller gate
-- within it, and no gate that needs a spare is without one. Assumes nothing.
use mathlib.Core.Path.{◌≡◌, refl, sym, ap, ◌∙◌}
use mathlib.Core.Logic.{◌↔◌}
use mathlib.Core.Bool.{false, not}
use mathlib.Core.List.{List, [], ◌∷◌, ◌++◌}
use Prim.Native.Nat.{ℕ, zero, suc, ◌+◌, ◌/◌, ◌≤◌, ◌<◌}
use native.Mathlib.Omega.{arith}
use native.Mathlib.Decide.{ℕ_discrete}
use borrow.Author.Tests.{not-true}
use lib.ListN.{length, drop, length-append, length-take}
use Rattle.meaning.specs.Pattern.{has, distinct}
use Rattle.meaning.proofs.Flips.{both, neither, has_append}
use Rattle.cascades.specs.Expansion.{c0, c1, mct_spares, first_spare, m0_spares, m1_spares, Expandable}
use Rattle.cascades.specs.Cascade.{Below, OnLines}
use Rattle.cascades.specs.Spares.{Spared, Within, itself, in_m0, in_m1}
use Rattle.cascades.proofs.Halves.{halves_join, on_lines}
use Rattle.cascades.proofs.Spare.{spare_line, distinct_length}
use Rattle.cascades.proofs.Times.{once, times, times_append, once_same, out_times, times_out, every_times, Lines, lines_of, lines_distinct, lines_below, lines_fewer}
use Rattle.cascades.proofs.SpareLists.{mct_spares_every, mct_spares_once, mct_spares_some}

module _ (n : ℕ) where
  -- ---- the invariant, by counting

  spared_lines : {sp cs : List ℕ} {t : ℕ} → Spared n sp cs t → Lines n (t ∷ (cs ++ sp))
  spared_lines {sp} {cs} {t} w = lines_of n (t ∷ (cs ++ sp)) w.apart w.below

  lines_spared : {sp cs : List ℕ} {t : ℕ} → Lines n (t ∷ (cs ++ sp)) → (3 ≤ length cs → 1 ≤ length sp) → Spared n sp cs t
  lines_spared w e = record { apart = lines_distinct w; below = lines_below w; enough = e }

  -- the gate is on the n lines
  pub spared_on_lines : {sp cs : List ℕ} {t : ℕ} → Spared n sp cs t → OnLines n cs t
  unfolding distinct Below
  spared_on_lines {sp} {cs} {t} w = let l : Lines n (t ∷ cs) = lines_fewer (t ∷ cs) (t ∷ (cs ++ sp)) (λ j. unfold times in omega (arith, times_append j cs sp)) (spared_lines w) in
      let u = both (not (has t cs)) (distinct cs) (lines_distinct l) in
      record { apart = u.1; other = not-true (has t cs) u.0; line = (lines_below l).0; below = (lines_below l).1 }

  -- ---- the first spare

  -- it is one of the n lines, and the gate does not name it
  pub first_unnamed : {sp cs : List ℕ} {t : ℕ} → 3 ≤ length cs → Spared n sp cs t → (first_spare sp < n) × (has (first_spare sp) (t ∷ cs) ≡ false)
  first_unnamed {sp} {cs} {t} k w = go sp (w.enough k) (spared_lines w)
    where
      go : (sp : List ℕ) → 1 ≤ length sp → Lines n (t ∷ (cs ++ sp)) → (first_spare sp < n) × (has (first_spare sp) (t ∷ cs) ≡ false)
      go [] h l = absurd (omega arith)
      go (s ∷ rest) h l = unfold times in
          let e = times_append s cs (s ∷ rest) in
          let o = once_same s in
          (l.below s (omega arith), times_out s (t ∷ cs) (omega (arith, l.apart s)))

  -- ---- the smaller gates

  halves_times : (j : ℕ) (cs : List ℕ) → times j cs ≡ times j (c0 cs) + times j (c1 cs)
  halves_times j cs = sym (ap (times j) (halves_join cs)) ∙ times_append j (c0 cs) (c1 cs)

  -- M0: t, then the remaining spares, then C1
  pub spared_m0 : {sp cs : List ℕ} {t : ℕ} → 3 ≤ length cs → Spared n sp cs t → Spared n (m0_spares sp cs t) (c0 cs) (first_spare sp)
  spared_m0 {sp} {cs} {t} k w = lines_spared (go sp (w.enough k) (spared_lines w)) (λ h. omega arith)
    where
      go : (sp : List ℕ) → 1 ≤ length sp → Lines n (t ∷ (cs ++ sp)) → Lines n (first_spare sp ∷ (c0 cs ++ m0_spares sp cs t))
      go [] h l = absurd (omega arith)
      go (s ∷ rest) h l = lines_fewer (s ∷ (c0 cs ++ (t ∷ (rest ++ c1 cs)))) (t ∷ (cs ++ (s ∷ rest))) (λ j. unfold times in omega (arith, times_append j (c0 cs) (t ∷ (rest ++ c1 cs)), times_append j rest (c1 cs), times_append j cs (s ∷ rest), halves_times j cs)) l

  -- M1: the remaining spares, then C0
  pub spared_m1 : {sp cs : List ℕ} {t : ℕ} → 3 ≤ length cs → Spared n sp cs t → Spared n (m1_spares sp cs) (c1 cs) (first_spare sp)
  spared_m1 {sp} {cs} {t} k w = lines_spared (go sp (w.enough k) (spared_lines w)) (λ h. omega (arith, length-append (drop 1 sp) (c0 cs), length-take (length cs / 2) cs))
    where
      go : (sp : List ℕ) → 1 ≤ length sp → Lines n (t ∷ (cs ++ sp)) → Lines n (first_spare sp ∷ (c1 cs ++ m1_spares sp cs))
      go [] h l = absurd (omega arith)
      go (s ∷ rest) h l = lines_fewer (s ∷ (c1 cs ++ (rest ++ c0 cs))) (t ∷ (cs ++ (s ∷ rest))) (λ j. unfold times in omega (arith, times_append j (c1 cs) (rest ++ c0 cs), times_append j rest (c0 cs), times_append j cs (s ∷ rest), halves_times j cs)) l

  -- ---- the mct gate

  module _ (kept : List ℕ) {cs : List ℕ} {t : ℕ} where
    pub mct_lines : OnLines n cs t → Lines n (t ∷ (cs ++ mct_spares n kept cs t))
    unfolding times
    mct_lines w = record { apart = λ j. apart j (times j sp) refl; below = λ j h. below j (times j sp) refl h }
      where
        sp : List ℕ
        sp = mct_spares n kept cs t

        named : Lines n (t ∷ cs)
        named = unfold distinct Below in lines_of n (t ∷ cs) (rw (w.other, w.apart)) (w.line, w.below)

        unnamed : (j : ℕ) → 1 ≤ times j sp → (j < n) × (has j (t ∷ cs) ≡ false)
        unnamed j h =
            let u = every_times (λ j. (j < n) × (has j (kept ++ (t ∷ cs)) ≡ false)) sp (mct_spares_every n kept cs t _ (λ j a e. (a, e))) j h in
            (u.0, (neither (has j kept) (has j (t ∷ cs)) (sym (has_append j kept (t ∷ cs)) ∙ u.1)).1)

        apart : (j k : ℕ) → times j sp ≡ k → once j t + times j (cs ++ sp) ≤ 1
        apart j zero e = omega (arith, times_append j cs sp, named.apart j)
        apart j (suc k) e = omega (arith, times_append j cs sp, out_times j (t ∷ cs) (unnamed j (omega arith)).1, mct_spares_once n kept cs t j)

        below : (j k : ℕ) → times j sp ≡ k → 1 ≤ once j t + times j (cs ++ sp) → j < n
        below j zero e h = named.below j (omega (arith, times_append j cs sp))
        below j (suc k) e h = (unnamed j (omega arith)).0

    -- all unnamed, unkept lines, rising, are such a list of spares
    pub mct_spared : Expandable n kept cs t → Below n cs → Spared n (mct_spares n kept cs t) cs t
    mct_spared w b = lines_spared (mct_lines (on_lines n w b)) (λ k. (let j = w.spare k in mct_spares_some n kept cs t j.0 j.1 j.2))

  -- "Refusal 8 is the same condition" where no line is kept: with three or more controls, there is no spare exactly if n = k + 1
  pub no_spare : {cs : List ℕ} {t : ℕ} → OnLines n cs t → (mct_spares n [] cs t ≡ []) ↔ (n ≡ length cs + 1)
  unfolding distinct Below has
  no_spare {cs} {t} w = (λ e. full e (ℕ_discrete n (length cs + 1)), λ e. none sp e (distinct_length n (t ∷ (cs ++ sp)) (lines_distinct (mct_lines [] w)) (lines_below (mct_lines [] w))))
    where
      sp : List ℕ
      sp = mct_spares n [] cs t

      fill : length (t ∷ cs) ≤ n
      fill = distinct_length n (t ∷ cs) (rw (w.other, w.apart)) (w.line, w.below)

      full : sp ≡ [] → Dec (n ≡ length cs + 1) → n ≡ length cs + 1
      full e (yes q) = q
      full e (no q) = let j = spare_line n (t ∷ cs) (omega (arith, fill)) in absurd (let h = mct_spares_some n [] cs t j.0 j.1 j.2 in omega (arith, h, ap length e))

      none : (l : List ℕ) → n ≡ length cs + 1 → length (t ∷ (cs ++ l)) ≤ n → l ≡ []
      none [] e h = refl
      none (s ∷ l) e h = absurd (omega (arith, length-append cs (s ∷ l)))

  -- ---- every smaller gate

  -- each list of spares has different lines of the n, none of which its gate names, and is not empty where a spare is needed
  pub within_spared : {sp' cs' : List ℕ} {t' : ℕ} {sp cs : List ℕ} {t : ℕ} → Within sp' cs' t' sp cs t → Spared n sp cs t → Spared n sp' cs' t'
  within_spared itself w = w
  within_spared (in_m0 k u) w = within_spared u (spared_m0 k w)
  within_spared (in_m1 k u) w = within_spared u (spared_m1 k w)

  pub mct_within_spared : {sp' cs' : List ℕ} {t' : ℕ} {kept cs : List ℕ} {t : ℕ} → Expandable n kept cs t → Below n cs → Within sp' cs' t' (mct_spares n kept cs t) cs t → Spared n sp' cs' t'
  mct_within_spared {kept = kept} w b u = within_spared u (mct_spared kept w b)
