-- The lines that an mct gate does not name, and the two smaller gates of a gate with three or more controls. Assumes nothing.
use mathlib.Core.Path.{◌≡◌, sym, ap, ◌∙◌}
use mathlib.Core.Logic.{◌≢◌}
use mathlib.Core.Bool.{true, false, false≢true}
use mathlib.Core.List.{List, [], ◌∷◌, ◌++◌}
use Prim.Native.Nat.{ℕ, ◌/◌, ◌≤◌, ◌<◌}
use native.Mathlib.Omega.{arith}
use lib.Dec.{eqb}
use borrow.Author.Tests.{eq-eqb, eqb-false}
use lib.ListN.{length, take-append-drop}
use Rattle.gates.proofs.Every.{every_left, every_right, every_follows}
use Rattle.meaning.specs.Pattern.{has, distinct}
use Rattle.meaning.proofs.Flips.{distinct_append, has_append, neither}
use Rattle.cascades.specs.Expansion.{c0, c1, Expandable}
use Rattle.cascades.specs.Cascade.{Controlled, Below, OnLines, AllOnLines, AllExpandable}

-- ---- lines that a list has not

pub out_cons : (j c : ℕ) (cs : List ℕ) → has j (c ∷ cs) ≡ false → (c ≢ j) × (has j cs ≡ false)
unfolding has
out_cons j c cs e = let u = neither (eqb j c) (has j cs) e in ((λ r. eqb-false j c u.0 (sym r)), u.1)

pub out_append : (j : ℕ) (c d l : List ℕ) → c ++ d ≡ l → has j l ≡ false → (has j c ≡ false) × (has j d ≡ false)
out_append j c d l e h = neither (has j c) (has j d) (sym (has_append j c d) ∙ ap (has j) e ∙ h)

pub distinct_two : (a b : ℕ) → distinct (a ∷ b ∷ []) ≡ true → a ≢ b
unfolding distinct has
distinct_two a b e r = let q = eq-eqb a b r in false≢true (rw q at e)

-- C0 and C1, joined, are the controls
pub halves_join : (cs : List ℕ) → c0 cs ++ c1 cs ≡ cs
halves_join cs = take-append-drop (length cs / 2) cs

-- lines below a bound are below a larger one
pub below_more : (n m : ℕ) (l : List ℕ) → n ≤ m → Below n l → Below m l
unfolding Below
below_more n m l h = every_follows (λ c. c < n) (λ c. c < m) (λ c b. omega arith) l

module _ (n : ℕ) where
  -- ---- the smaller gates

  below_left : (c d : List ℕ) → Below n (c ++ d) → Below n c
  unfolding Below
  below_left = every_left (λ c. c < n)

  below_right : (c d : List ℕ) → Below n (c ++ d) → Below n d
  unfolding Below
  below_right = every_right (λ c. c < n)

  -- both smaller gates, on the spare line s, are on n lines
  pub halves_on_lines : (s : ℕ) {cs : List ℕ} {t : ℕ} → OnLines n cs t → s < n → has s (t ∷ cs) ≡ false → OnLines n (c0 cs) s × OnLines n (c1 cs) s
  halves_on_lines s {cs} {t} w sn out =
      let e = halves_join cs in
      let so = out_append s (c0 cs) (c1 cs) cs e (out_cons s t cs out).1 in
      let apart = distinct_append (c0 cs) (c1 cs) (ap distinct e ∙ w.apart) in
      let b : Below n (c0 cs ++ c1 cs) = rw e w.below in (
        record { apart = apart.0; other = so.0; line = sn; below = below_left (c0 cs) (c1 cs) b },
        record { apart = apart.1; other = so.1; line = sn; below = below_right (c0 cs) (c1 cs) b },
      )

  -- ---- gates that can be expanded are on the n lines

  pub on_lines : {kept cs : List ℕ} {t : ℕ} → Expandable n kept cs t → Below n cs → OnLines n cs t
  on_lines w b = record { apart = w.apart; other = w.other; line = w.line; below = b }

  pub all_on_lines : (kept : List ℕ) (gs : List Controlled) → AllExpandable n kept gs → AllOnLines n gs
  unfolding AllExpandable AllOnLines
  all_on_lines kept = every_follows _ _ (λ g w. on_lines w.0 w.1)
