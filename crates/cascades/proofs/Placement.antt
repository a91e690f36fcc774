-- The quote of an mct gate that stands alone goes by how many controls it has and which of these are negated, the first, the second and so on, and by how
-- many lines it leaves unnamed and unkept; it does not go by which lines they are. With the lowest spare lines it did. Assumes nothing.
use mathlib.Core.Path.{◌≡◌, refl, sym, ap, ◌∙◌}
use mathlib.Core.Bool.{Bool, true, false, not, cond, ◌||◌, false≢true}
use mathlib.Core.List.{List, [], ◌∷◌, ◌++◌, map, map-append, append-nil}
use Prim.Native.Nat.{ℕ, zero, suc, ◌+◌, ◌≤◌, ◌<◌}
use native.Mathlib.Omega.{arith}
use native.Mathlib.Decide.{dec_lt}
use lib.Dec.{eqb}
use borrow.Author.Tests.{eq-eqb, ne_eqb, eqb-true, eqb-false, not-true}
use lib.ListN.{length, drop, get_or, length-map, length-append}
use Rattle.gates.specs.declared.Gate.{Gate}
use Rattle.gates.specs.Reduced.{Reduced}
use Rattle.gates.proofs.Every.{every_at}
use Rattle.gates.proofs.ReducedLists.{reduced_on_lines}
use Rattle.gates.proofs.CodeLists.{all_valid_more}
use Rattle.meaning.specs.Pattern.{has, distinct}
use Rattle.meaning.proofs.Flips.{both, neither, has_append}
use Rattle.cascades.specs.Expansion.{◌⨾◌, mct_spares, expand_with, expansion}
use Rattle.cascades.specs.Control.{Control, control_lines, negated_lines}
use Rattle.cascades.specs.Signs.{between_nots, expansion±}
use Rattle.cascades.specs.Cascade.{Controlled, expand_all, Below, OnLines, AllExpandable}
use Rattle.cascades.specs.Spares.{Spared}
use Rattle.cascades.proofs.Spare.{spare_line, distinct_length}
use Rattle.cascades.proofs.SpareLists.{mct_spares_exactly}
use Rattle.cascades.proofs.Times.{lines_distinct, lines_below}
use Rattle.cascades.proofs.Halves.{below_more}
use Rattle.cascades.proofs.Spared.{mct_lines, mct_spared}
use Rattle.cascades.proofs.Signs.{expand_all_fits}
use Rattle.cascades.proofs.SignLines.{length_control_lines}
use Rattle.cascades.proofs.Renaming.{renamed, renamed_between, expand_with_renamed, no_longer_renamed}

-- ---- the place of a line in a list of different lines

place : ℕ → List ℕ → ℕ
place j [] = 0
place j (c ∷ l) = cond (eqb j c) 0 (suc (place j l))

place_below : (j : ℕ) (l : List ℕ) → has j l ≡ true → place j l < length l
unfolding has place
place_below j [] e = absurd (false≢true e)
place_below j (c ∷ l) e = go (eqb j c) e (place_below j l)
  where
    go : (b : Bool) → (b || has j l) ≡ true → (has j l ≡ true → place j l < length l) → cond b 0 (suc (place j l)) < suc (length l)
    go true e rest = omega arith
    go false e rest = omega (arith, rest e)

at_place : (j : ℕ) (l : List ℕ) → has j l ≡ true → get_or l (place j l) 0 ≡ j
unfolding has place
at_place j [] e = absurd (false≢true e)
at_place j (c ∷ l) e = go (eqb j c) refl e (at_place j l)
  where
    go : (b : Bool) → eqb j c ≡ b → (b || has j l) ≡ true → (has j l ≡ true → get_or l (place j l) 0 ≡ j) → get_or (c ∷ l) (cond b 0 (suc (place j l))) 0 ≡ j
    go true q e rest = sym (eqb-true j c q)
    go false q e rest = rest e

has_at : (l : List ℕ) (i : ℕ) → i < length l → has (get_or l i 0) l ≡ true
unfolding has
has_at [] i h = absurd (omega arith)
has_at (c ∷ l) zero h = rw (eq-eqb c c refl)
has_at (c ∷ l) (suc i) h = rw (has_at l i (omega arith)) (or_true (eqb (get_or l i 0) c))
  where
    or_true : (b : Bool) → (b || true) ≡ true
    or_true true = refl
    or_true false = refl

-- different places have different lines
one_place : (l : List ℕ) → distinct l ≡ true → (i j : ℕ) → i < length l → j < length l → get_or l i 0 ≡ get_or l j 0 → i ≡ j
unfolding distinct
one_place [] d i j h k e = absurd (omega arith)
one_place (c ∷ l) d zero zero h k e = refl
one_place (c ∷ l) d zero (suc j) h k e = absurd (false≢true (sym (not-true (has c l) (both (not (has c l)) (distinct l) d).0) ∙ rw e (has_at l j (omega arith))))
one_place (c ∷ l) d (suc i) zero h k e = absurd (false≢true (sym (not-true (has c l) (both (not (has c l)) (distinct l) d).0) ∙ rw (sym e) (has_at l i (omega arith))))
one_place (c ∷ l) d (suc i) (suc j) h k e = ap suc (one_place l (both (not (has c l)) (distinct l) d).1 i j (omega arith) (omega arith) e)

-- ---- the lines of one list, named as those of another

names : List ℕ → List ℕ → ℕ → ℕ
names a b j = get_or b (place j a) 0

one_later : (c y : ℕ) (a b l : List ℕ) → has c l ≡ false → map (names (c ∷ a) (y ∷ b)) l ≡ map (names a b) l
unfolding has names place
one_later c y a b [] e = refl
one_later c y a b (x ∷ l) e =
    let q = neither (eqb c x) (has c l) e in
    let r : eqb x c ≡ false = ne_eqb x c (λ z. eqb-false c x q.0 (sym z)) in
    rw (r, one_later c y a b l q.1)

named : (a b : List ℕ) → distinct a ≡ true → length a ≡ length b → map (names a b) a ≡ b
unfolding names place distinct
named [] [] d e = refl
named [] (y ∷ b) d e = absurd (omega arith)
named (c ∷ a) [] d e = absurd (omega arith)
named (c ∷ a) (y ∷ b) d e =
    let q = both (not (has c a)) (distinct a) d in
    let tail : map (names (c ∷ a) (y ∷ b)) a ≡ b = one_later c y a b a (not-true (has c a) q.0) ∙ named a b q.1 (omega arith) in
    rw (eq-eqb c c refl) (ap (λ l. y ∷ l) tail)

two_parts : (a a' : List ℕ) {b b' : List ℕ} → length a ≡ length a' → a ++ b ≡ a' ++ b' → (a ≡ a') × (b ≡ b')
two_parts [] [] h e = (refl, e)
two_parts [] (c ∷ a') h e = absurd (omega arith)
two_parts (c ∷ a) [] h e = absurd (omega arith)
two_parts (c ∷ a) (d ∷ a') h e =
    let p : c ≡ d = ap (λ l. get_or l 0 0) e in
    let q = two_parts a a' (omega arith) (ap (drop 1) e) in
    (rw (p, q.0), q.1)

-- ---- a gate's lines and those that it does not name are all n lines

module _ (n : ℕ) {cs : List ℕ} {t : ℕ} (w : OnLines n cs t) where
  abbrev every_line : List ℕ
  every_line = t ∷ (cs ++ mct_spares n [] cs t)

  each_line : (j : ℕ) → j < n → has j every_line ≡ true
  each_line j h = has_append j (t ∷ cs) (mct_spares n [] cs t) ∙ go (has j (t ∷ cs)) refl
    where
      go : (x : Bool) → has j (t ∷ cs) ≡ x → (x || has j (mct_spares n [] cs t)) ≡ true
      go true e = refl
      go false e = (mct_spares_exactly n [] cs t j).1 (h, e)

  lines_apart : distinct every_line ≡ true
  lines_apart = lines_distinct (mct_lines n [] w)

  lines_within : Below n every_line
  lines_within = lines_below (mct_lines n [] w)

  all_lines : length every_line ≡ n
  all_lines = omega (arith, distinct_length n every_line lines_apart lines_within, no_fewer every_line (dec_lt (length every_line) n) each_line)
    where
      no_fewer : (l : List ℕ) → Dec (length l < n) → ((j : ℕ) → j < n → has j l ≡ true) → n ≤ length l
      no_fewer l (yes h) f = absurd (let j = spare_line n l h in false≢true (sym j.2 ∙ f j.0 j.1))
      no_fewer l (no h) f = omega arith

-- so where nothing is kept an mct has all lines but its own for spares
pub spares_left : (n : ℕ) {cs : List ℕ} {t : ℕ} → OnLines n cs t → length (mct_spares n [] cs t) + length cs + 1 ≡ n
spares_left n {cs} {t} w = omega (arith, all_lines n w, length-append cs (mct_spares n [] cs t))

-- controls and spares of a gate, taken together, are lines that it could name
spared_all : (n : ℕ) {sp cs : List ℕ} {t : ℕ} → Spared n sp cs t → OnLines n (cs ++ sp) t
unfolding distinct Below
spared_all n {sp} {cs} {t} w =
    let u = both (not (has t (cs ++ sp))) (distinct (cs ++ sp)) w.apart in
    record { apart = u.1; other = not-true (has t (cs ++ sp)) u.0; line = w.below.0; below = w.below.1 }

-- ---- two gates with as many controls

-- the signs of controls, in order
abbrev pub signs : List Control → List Bool
signs cs = map (λ c. c.negated) cs

negated_renamed : (ρ : ℕ → ℕ) (cs ds : List Control) → signs cs ≡ signs ds → map ρ (control_lines cs) ≡ control_lines ds → map ρ (negated_lines cs) ≡ negated_lines ds
unfolding control_lines negated_lines
negated_renamed ρ [] [] e f = refl
negated_renamed ρ [] (d ∷ ds) e f = absurd (omega (arith, ap length e))
negated_renamed ρ (c ∷ cs) [] e f = absurd (omega (arith, ap length e))
negated_renamed ρ (c ∷ cs) (d ∷ ds) e f =
    let p : c.negated ≡ d.negated = ap (λ l. get_or l 0 false) e in
    let q : ρ c.line ≡ d.line = ap (λ l. get_or l 0 0) f in
    let rest = negated_renamed ρ cs ds (ap (drop 1) e) (ap (drop 1) f) in
    rw (← p, ← q, ← rest) (go c.negated)
  where
    go : (b : Bool) → map ρ (cond b (c.line ∷ negated_lines cs) (negated_lines cs)) ≡ cond b (ρ c.line ∷ map ρ (negated_lines cs)) (map ρ (negated_lines cs))
    go true = refl
    go false = refl

-- with as many spares
module _ (n : ℕ) (cs ds : List Control) (t u : ℕ) (sp sq : List ℕ) (w : Spared n sp (control_lines cs) t) (v : Spared n sq (control_lines ds) u) (same : signs cs ≡ signs ds) (as_many : length sp ≡ length sq) where
  -- the gate with these spares, between its NOTs
  abbrev first_gate : List Gate
  first_gate = between_nots (negated_lines cs) (expand_with sp (control_lines cs) t)

  abbrev second_gate : List Gate
  second_gate = between_nots (negated_lines ds) (expand_with sq (control_lines ds) u)

  no_longer : {r s : List Gate} → Reduced n first_gate r → Reduced n second_gate s → length s ≤ length r
  unfolding Below names
  no_longer {s = s} x y = let z : Reduced n (map (renamed ρ) first_gate) s = rw other_gate y in no_longer_renamed n ρ into apart x z
    where
      k : List ℕ
      k = control_lines cs

      l : List ℕ
      l = control_lines ds

      on_a : OnLines n (k ++ sp) t
      on_a = spared_all n w

      on_b : OnLines n (l ++ sq) u
      on_b = spared_all n v

      a : List ℕ
      a = every_line n on_a

      b : List ℕ
      b = every_line n on_b

      ρ : ℕ → ℕ
      ρ = names a b

      in_b : (i : ℕ) → i < n → place i a < length b
      in_b i h = omega (arith, place_below i a (each_line n on_a i h), all_lines n on_a, all_lines n on_b)

      into : (i : ℕ) → i < n → ρ i < n
      into i h = every_at (λ c. c < n) b (place i a) 0 (in_b i h) (lines_within n on_b)

      apart : (i j : ℕ) → i < n → j < n → ρ i ≡ ρ j → i ≡ j
      apart i j h m e =
          let z : place i a ≡ place j a = one_place b (lines_apart n on_b) (place i a) (place j a) (in_b i h) (in_b j m) e in
          sym (at_place i a (each_line n on_a i h)) ∙ ap (λ x. get_or a x 0) z ∙ at_place j a (each_line n on_a j m)

      all_named : map ρ a ≡ b
      all_named = named a b (lines_apart n on_a) (all_lines n on_a ∙ sym (all_lines n on_b))

      as_many_controls : length (map ρ k) ≡ length l
      as_many_controls = omega (arith, length-map k ρ, ap length same, length-map cs (λ c. c.negated), length-map ds (λ c. c.negated), length_control_lines cs, length_control_lines ds)

      named_by_both : map ρ (k ++ sp) ≡ l ++ sq
      named_by_both = (two_parts (map ρ (k ++ sp)) (l ++ sq) (omega (arith, length-map (k ++ sp) ρ, length-append k sp, length-append l sq, length-map k ρ, as_many_controls, as_many)) (sym (map-append ρ (k ++ sp) (mct_spares n [] (k ++ sp) t)) ∙ ap (drop 1) all_named)).0

      parts : (map ρ k ≡ l) × (map ρ sp ≡ sq)
      parts = two_parts (map ρ k) l as_many_controls (sym (map-append ρ k sp) ∙ named_by_both)

      target_is : ρ t ≡ u
      target_is = ap (λ x. get_or x 0 0) all_named

      other_gate : map (renamed ρ) first_gate ≡ second_gate
      other_gate = renamed_between ρ (negated_lines cs) (expand_with sp k t) ∙ rw (negated_renamed ρ cs ds same parts.0, expand_with_renamed ρ n sp k t w, parts.0, parts.1, target_is)

-- the spares of an mct gate on n lines of which these are kept
abbrev pub spares_of : ℕ → List ℕ → Controlled → List ℕ
spares_of n kept g = mct_spares n kept (control_lines g.controls) g.target

-- an mct gate by itself, on more lines with the same spares
alone_spared : (n m : ℕ) (kept : List ℕ) (g : Controlled) → n ≤ m → AllExpandable n kept (g ∷ []) → Spared m (spares_of n kept g) (control_lines g.controls) g.target
unfolding AllExpandable
alone_spared n m kept g h w =
    let p = mct_spared n kept w.0.0 w.0.1 in
    record { apart = p.apart; below = below_more n m _ h p.below; enough = p.enough }

alone_reduced : (n m : ℕ) (kept : List ℕ) (g : Controlled) {r : List Gate} → n ≤ m → AllExpandable n kept (g ∷ []) → Reduced n (expand_all n kept (g ∷ [])) r
    → Reduced m (between_nots (negated_lines g.controls) (expand_with (spares_of n kept g) (control_lines g.controls) g.target)) r
unfolding expand_all expansion± expansion ◌⨾◌
alone_reduced n m kept g {r} h w x =
    let v = expand_all_fits n kept (g ∷ []) w in
    rw append-nil at (reduced_on_lines n m v (all_valid_more n m (expand_all n kept (g ∷ [])) h v) x)

-- the quotes of two gates, each a cascade by itself, with as many controls, the same signs and as many spares: unnamed, unkept lines. The number of
-- lines may differ
pub placement : (n m : ℕ) (kept others : List ℕ) (g h : Controlled) {r s : List Gate} → AllExpandable n kept (g ∷ []) → AllExpandable m others (h ∷ []) → signs g.controls ≡ signs h.controls → length (spares_of n kept g) ≡ length (spares_of m others h)
    → Reduced n (expand_all n kept (g ∷ [])) r → Reduced m (expand_all m others (h ∷ [])) s → length r ≡ length s
placement n m kept others g h {r} {s} w v e f x y =
    let i : n ≤ n + m = omega arith in
    let j : m ≤ n + m = omega arith in
    let a = alone_spared n (n + m) kept g i w in
    let b = alone_spared m (n + m) others h j v in
    let p = alone_reduced n (n + m) kept g i w x in
    let q = alone_reduced m (n + m) others h j v y in
    let down = no_longer (n + m) g.controls h.controls g.target h.target (spares_of n kept g) (spares_of m others h) a b e f p q in
    let up = no_longer (n + m) h.controls g.controls h.target g.target (spares_of m others h) (spares_of n kept g) b a (sym e) (sym f) q p in
    omega (arith, down, up)
