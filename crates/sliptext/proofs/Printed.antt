-- A slip line is in form exactly if it is written as document 02 shows it: `slip_reads` and `slip_read_only`. Assumes nothing.
use Prim.Native.Nat.{ℕ, zero, suc, ◌+◌, ◌*◌, ◌-◌, ◌/◌, ◌%◌, ◌≤◌, ◌<◌}
use mathlib.Core.Path.{◌≡◌, refl, sym, ap, ◌∙◌, subst}
use mathlib.Core.Logic.{◌≢◌}
use mathlib.Core.Bool.{Bool, true, false, cond}
use mathlib.Core.List.{List, [], ◌∷◌, ◌++◌, append_assoc}
use native.Mathlib.Omega.{arith}
use lib.Dec.{eqb, leb, ltb}
use borrow.Author.Tests.{ltb-true, ltb-false, lt-ltb, le-ltb, leb-true, eqb-true, eqb-false, ne_eqb}
use Rattle.meaning.proofs.Flips.{both}
use Rattle.text.specs.Text.{bytes}
use Rattle.text.specs.Reading.{Got, got, none, if_got, bind, strip, digit}
use Rattle.text.proofs.Printed.{none_got, unbind, got_is, strip_sound, digit_yes}
use Rattle.stepping.specs.Slip.{SlipStep, pass_at, merge_at}
use Rattle.sliptext.specs.SlipText.{figures, slip_line, place_in, more, place, placed, slip_form}

-- ---- places

-- one more than the largest number of at most k + 1 digits
unfoldable pub ten : ℕ → ℕ
ten zero = 10
ten (suc k) = ten k * 10

place_of : ℕ → List ℕ → Got ℕ
place_of k [] = none
place_of k (a ∷ s) = cond (digit a) (cond (eqb a 48) (got 0 s) (more k (a - 48) s)) none

pub more_digit : (k i d : ℕ) (r : List ℕ) → d < 10 → more (suc k) i ((48 + d) ∷ r) ≡ more k (i * 10 + d) r
unfolding more
more_digit k i d r h = let x : 48 + d - 48 ≡ d = omega arith in rw (digit_yes (48 + d) (omega arith) (omega arith), x)

pub more_stops : (k i b : ℕ) (r : List ℕ) → digit b ≡ false → more k i (b ∷ r) ≡ got i (b ∷ r)
unfolding more
more_stops zero i b r h = refl
more_stops (suc k) i b r h = rw h

-- a number that is written is read, and some digits are left that could follow
read_figures : (k j i : ℕ) (r : List ℕ) → 1 ≤ i → i < ten k → (m : ℕ) × (place_of (k + j) (figures k i ++ r) ≡ more (j + m) i r)
unfolding figures ten place_of
read_figures zero j i r a b =
    let x : 48 + i - 48 ≡ i = omega arith in
    let y : 0 + j ≡ j + 0 = omega arith in
    (0, rw (digit_yes (48 + i) (omega arith) (omega arith), ne_eqb (48 + i) 48 (λ q. omega arith), x, y))
read_figures (suc k) j i r a b = go (ltb i 10) refl (λ h. read_figures k (suc j) (i / 10) ((48 + i % 10) ∷ r) (omega arith) (omega arith))
  where
    go : (t : Bool) → ltb i 10 ≡ t → (10 ≤ i → (m : ℕ) × (place_of (k + suc j) (figures k (i / 10) ++ ((48 + i % 10) ∷ r)) ≡ more (suc j + m) (i / 10) ((48 + i % 10) ∷ r)))
        → (m : ℕ) × (place_of (suc k + j) (cond t ((48 + i) ∷ []) (figures k (i / 10) ++ ((48 + i % 10) ∷ [])) ++ r) ≡ more (j + m) i r)
    go true e ih =
        let l = ltb-true i 10 e in
        let x : 48 + i - 48 ≡ i = omega arith in
        let y : suc k + j ≡ j + suc k = omega arith in
        (suc k, rw (digit_yes (48 + i) (omega arith) (omega arith), ne_eqb (48 + i) 48 (λ q. omega arith), x, y))
    go false e ih =
        let h = ih (ltb-false i 10 e) in
        let x : i / 10 * 10 + i % 10 ≡ i = omega arith in
        let y : suc k + j ≡ k + suc j = omega arith in
        let z : suc j + h.0 ≡ suc (j + h.0) = omega arith in
        (h.0, rw (append_assoc (figures k (i / 10)) ((48 + i % 10) ∷ []) r, y) (h.1 ∙ rw z (more_digit (j + h.0) (i / 10) (i % 10) r (omega arith) ∙ ap (λ (n : ℕ). more (j + h.0) n r) x)))

place_is : (s : List ℕ) → place s ≡ place_of 3 s
unfolding place place_of
place_is [] = refl
place_is (a ∷ s) = refl

place_figures : (i b : ℕ) (s : List ℕ) → i < 10000 → digit b ≡ false → place (figures 3 i ++ (b ∷ s)) ≡ got i (b ∷ s)
unfolding ten
place_figures zero b s h d = unfold figures place in refl
place_figures (suc i) b s h d =
    let z = read_figures 3 0 (suc i) (b ∷ s) (omega arith) h in
    place_is (figures 3 (suc i) ++ (b ∷ s)) ∙ z.1 ∙ more_stops (0 + z.0) (suc i) b s d

-- a number of at most k + 1 digits is written the same where more are allowed
figures_more : (k i : ℕ) → i < ten k → figures (suc k) i ≡ figures k i
unfolding figures ten
figures_more zero i h = rw (lt-ltb i 10 h)
figures_more (suc k) i h = go (ltb i 10) refl (λ l. figures_more k (i / 10) (omega arith))
  where
    go : (t : Bool) → ltb i 10 ≡ t → (10 ≤ i → figures (suc k) (i / 10) ≡ figures k (i / 10))
        → cond t ((48 + i) ∷ []) (figures (suc k) (i / 10) ++ ((48 + i % 10) ∷ [])) ≡ cond t ((48 + i) ∷ []) (figures k (i / 10) ++ ((48 + i % 10) ∷ []))
    go true e ih = refl
    go false e ih = ap (λ (l : List ℕ). l ++ ((48 + i % 10) ∷ [])) (ih (ltb-false i 10 e))

ten_more : (k i : ℕ) → i < ten k → i < ten (suc k)
unfolding ten
ten_more k i h = omega arith

figures_any : (j k i : ℕ) → i < ten k → (figures (j + k) i ≡ figures k i) × (i < ten (j + k))
figures_any zero k i h = let x : 0 + k ≡ k = omega arith in (rw x, rw x h)
figures_any (suc j) k i h =
    let z = figures_any j k i h in
    let x : suc j + k ≡ suc (j + k) = omega arith in
    (rw x (figures_more (j + k) i z.1 ∙ z.0), rw x (ten_more (j + k) i z.1))

pub ten_next : (k a d : ℕ) → a < ten k → d < 10 → a * 10 + d < ten (suc k)
unfolding ten
ten_next k a d h l = omega arith

-- one more digit
figures_next : (k a d : ℕ) → 1 ≤ a → d < 10 → figures (suc k) (a * 10 + d) ≡ figures k a ++ ((48 + d) ∷ [])
unfolding figures
figures_next k a d h l =
    let x : (a * 10 + d) / 10 ≡ a = omega arith in
    let y : (a * 10 + d) % 10 ≡ d = omega arith in
    rw (le-ltb (a * 10 + d) 10 (omega arith), x, y)

-- what is read after the digits of a, at most j of them, was written
more_sound : (j k a : ℕ) (s : List ℕ) (i : ℕ) (r : List ℕ) → 1 ≤ a → a < ten k → more j a s ≡ got i r → (figures k a ++ s ≡ figures (j + k) i ++ r) × (i < ten (j + k))
unfolding more
more_sound zero k a s i r h l e =
    let g = got_is e in
    let x : 0 + k ≡ k = omega arith in
    (rw (x, ← g.0, ← g.1), rw (x, ← g.0) l)
more_sound (suc j) k a [] i r h l e =
    let g = got_is e in
    let z = figures_any (suc j) k a l in
    (rw (← g.0, ← g.1, z.0), rw (← g.0) z.1)
more_sound (suc j) k a (b ∷ s) i r h l e = go (digit b) refl e (λ x y z. more_sound j (suc k) (a * 10 + (b - 48)) s i r x y z)
  where
    go : (t : Bool) → digit b ≡ t → cond t (more j (a * 10 + (b - 48)) s) (got a (b ∷ s)) ≡ got i r
        → (1 ≤ a * 10 + (b - 48) → a * 10 + (b - 48) < ten (suc k) → more j (a * 10 + (b - 48)) s ≡ got i r → (figures (suc k) (a * 10 + (b - 48)) ++ s ≡ figures (j + suc k) i ++ r) × (i < ten (j + suc k)))
        → (figures k a ++ (b ∷ s) ≡ figures (suc j + k) i ++ r) × (i < ten (suc j + k))
    go true d q ih =
        let dd = both (leb 48 b) (leb b 57) d in
        let d0 = leb-true 48 b dd.0 in
        let d1 = leb-true b 57 dd.1 in
        let z = ih (omega arith) (ten_next k a (b - 48) l (omega arith)) q in
        let x : suc j + k ≡ j + suc k = omega arith in
        let y : 48 + (b - 48) ≡ b = omega arith in (
          rw x (sym (append_assoc (figures k a) (b ∷ []) s) ∙ ap (λ (n : ℕ). (figures k a ++ (n ∷ [])) ++ s) (sym y) ∙ ap (λ (m : List ℕ). m ++ s) (sym (figures_next k a (b - 48) h (omega arith))) ∙ z.0),
          rw x z.1,
        )
    go false d q ih =
        let g = got_is q in
        let z = figures_any (suc j) k a l in
        (rw (← g.0, ← g.1, z.0), rw (← g.0) z.1)

figures_zero : (i : ℕ) → figures 0 i ≡ (48 + i) ∷ []
unfolding figures
figures_zero i = refl

figures_nought : figures 3 0 ≡ 48 ∷ []
unfolding figures
figures_nought = refl

pub ten_zero : ten 0 ≡ 10
unfolding ten
ten_zero = refl

ten_three : ten (3 + 0) ≡ 10000
unfolding ten
ten_three = refl

-- what has fewer digits is smaller
pub below_1000 : (k i : ℕ) → k < 3 → i < ten k → i < 1000
unfolding ten
below_1000 k i h l =
    let x : 2 - k + k ≡ 2 = omega arith in
    rw x at (figures_any (2 - k) k i l).1

pub below_10000 : (k i : ℕ) → k ≤ 3 → i < ten k → i < 10000
unfolding ten
below_10000 k i h l =
    let x : 3 - k + k ≡ 3 = omega arith in
    rw x at (figures_any (3 - k) k i l).1

place_sound : (s : List ℕ) (i : ℕ) (r : List ℕ) → place s ≡ got i r → (s ≡ figures 3 i ++ r) × (i < 10000)
unfolding place
place_sound [] i r e = absurd (none_got e)
place_sound (a ∷ s) i r e = go (digit a) refl (eqb a 48) refl e
  where
    go : (t : Bool) → digit a ≡ t → (u : Bool) → eqb a 48 ≡ u → cond t (cond u (got 0 s) (more 3 (a - 48) s)) none ≡ got i r → (a ∷ s ≡ figures 3 i ++ r) × (i < 10000)
    go false d u z q = absurd (none_got q)
    go true d true z q = let g = got_is q in (rw (← g.0, ← g.1, eqb-true a 48 z, figures_nought), rw (← g.0) (omega arith))
    go true d false z q =
        let dd = both (leb 48 a) (leb a 57) d in
        let d0 = leb-true 48 a dd.0 in
        let d1 = leb-true a 57 dd.1 in
        let n : a ≢ 48 = eqb-false a 48 z in
        let w = more_sound 3 0 (a - 48) s i r (omega arith) (rw ten_zero (omega arith)) q in
        let y : 48 + (a - 48) ≡ a = omega arith in
        (ap (λ (m : ℕ). m ∷ s) (sym y) ∙ ap (λ (l : List ℕ). l ++ s) (sym (figures_zero (a - 48))) ∙ w.0, rw ten_three at w.1)

-- ---- slip lines

placed_written : (f : ℕ → SlipStep) (i : ℕ) (r : List ℕ) → i < 10000 → placed f ((figures 3 i ++ bytes ")\n") ++ r) ≡ got (f i) r
unfolding placed strip
placed_written f i r h = rw (append_assoc (figures 3 i) (41 ∷ 10 ∷ []) r, place_figures i 41 (10 ∷ r) h refl)

placed_sound : (f : ℕ → SlipStep) (s : List ℕ) (x : SlipStep) (r : List ℕ) → placed f s ≡ got x r → (i : ℕ) × (f i ≡ x) × (s ≡ (figures 3 i ++ bytes ")\n") ++ r) × (i < 10000)
unfolding placed
placed_sound f s x r e =
    let w = unbind (place s) _ e in
    let y = unbind (strip (bytes ")\n") w.1) _ w.3 in
    let g = got_is y.3 in
    let p = place_sound s w.0 w.1 w.2 in
    (w.0, g.0, p.0 ∙ ap (λ (l : List ℕ). figures 3 w.0 ++ l) (strip_sound (bytes ")\n") w.1 y.1 y.2 ∙ ap (λ (l : List ℕ). bytes ")\n" ++ l) g.1) ∙ sym (append_assoc (figures 3 w.0) (41 ∷ 10 ∷ []) r), p.1)

-- a line that is written is in form, whatever comes after it
pub slip_reads : (x : SlipStep) (r : List ℕ) → place_in x < 10000 → slip_form (slip_line x ++ r) ≡ got x r
unfolding slip_form slip_line strip place_in
slip_reads (pass_at i) r h = placed_written pass_at i r h
slip_reads (merge_at i) r h = placed_written merge_at i r h

-- and only such a line
pub slip_read_only : (s : List ℕ) (x : SlipStep) (r : List ℕ) → slip_form s ≡ got x r → (s ≡ slip_line x ++ r) × (place_in x < 10000)
unfolding slip_form slip_line place_in
slip_read_only s x r e = go (strip (bytes "(pass ") s) refl e
  where
    with_word : (w : List ℕ) (f : ℕ → SlipStep) → ((i : ℕ) → (slip_line (f i) ≡ w ++ (figures 3 i ++ bytes ")\n")) × (place_in (f i) ≡ i)) → (s' : List ℕ) → strip w s ≡ got tt s' → placed f s' ≡ got x r → (s ≡ slip_line x ++ r) × (place_in x < 10000)
    with_word w f k s' p q =
        let z = placed_sound f s' x r q in
        let i = z.0 in (
          strip_sound w s s' p ∙ ap (λ (m : List ℕ). w ++ m) z.2 ∙ sym (append_assoc w (figures 3 i ++ bytes ")\n") r) ∙ ap (λ (m : List ℕ). m ++ r) (sym (k i).0 ∙ ap slip_line z.1),
          subst (λ (y : SlipStep). place_in y < 10000) z.1 (rw (k i).1 z.3),
        )

    go : (g : Got (Unit {0})) → strip (bytes "(pass ") s ≡ g → if_got g (λ _. placed pass_at) (bind (strip (bytes "(merge ") s) (λ _. placed merge_at)) ≡ got x r → (s ≡ slip_line x ++ r) × (place_in x < 10000)
    go (got tt s') p q = with_word (bytes "(pass ") pass_at (λ i. (refl, refl)) s' p q
    go none p q = let w = unbind (strip (bytes "(merge ") s) (λ _. placed merge_at) q in with_word (bytes "(merge ") merge_at (λ i. (refl, refl)) w.1 w.2 w.3
