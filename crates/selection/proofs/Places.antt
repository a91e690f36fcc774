-- The gates in front of what is left of a list of numbers, by their places: they are the sites in front, and in a shortest circuit no two are of
-- one site. Assumes nothing.
use mathlib.Core.Path.{◌≡◌, refl, ap, ◌∙◌}
use mathlib.Core.Logic.{◌≢◌}
use mathlib.Core.List.{List, [], ◌∷◌, ◌++◌}
use Prim.Native.Nat.{ℕ, zero, suc, ◌/◌, ◌≤◌, ◌<◌}
use native.Mathlib.Omega.{arith}
use lib.ListN.{length, take, drop, get_or, set}
use lib.Seq.{split_at, set_split, get_or-take, length-take-le}
use Rattle.gates.specs.declared.Gate.{Gate}
use Rattle.gates.specs.Circuit.{Passes}
use Rattle.gates.specs.Code.{gate, gates, Code}
use Rattle.gates.proofs.Codes.{target_gate, slot_gate}
use Rattle.gates.specs.Sites.{Same, Free, free_nil, free_cons, Front, here, there}
use Rattle.gates.proofs.Sites.{same_refl, same_sym, passes_same, passes_self}
use Rattle.partners.specs.Shortest.{Shortest}
use Rattle.partners.proofs.Shortest.{shortest_tail}
use Rattle.selection.specs.declared.Kind.{Kind}
use Rattle.selection.specs.declared.Kind.TheVariants.{Target, Control}
use Rattle.selection.specs.Places.{opposite}
use Rattle.selection.specs.Places.{rest, line, InFront, Single}
use Rattle.selection.proofs.Fronts.{no_twin}

-- ---- what is left

pub rest_append : (u v : List ℕ) → rest (u ++ v) ≡ rest u ++ rest v
rest_append [] v = refl
rest_append (zero ∷ u) v = rest_append u v
rest_append (suc k ∷ u) v = ap (λ (l : List ℕ). suc k ∷ l) (rest_append u v)

rest_cons : (k : ℕ) (l : List ℕ) → k ≢ 0 → rest (k ∷ l) ≡ k ∷ rest l
rest_cons zero l d = absurd (d refl)
rest_cons (suc k) l d = refl

module _ (l : List ℕ) (p : ℕ) (h : p < length l) where
  pub rest_at : get_or l p 0 ≢ 0 → rest l ≡ rest (take p l) ++ get_or l p 0 ∷ rest (drop (suc p) l)
  rest_at d = ap (λ (x : List ℕ). rest x) (split_at l p 0 h) ∙ rest_append (take p l) (get_or l p 0 ∷ drop (suc p) l) ∙ ap (λ (x : List ℕ). rest (take p l) ++ x) (rest_cons (get_or l p 0) (drop (suc p) l) d)

  pub rest_taken : rest (set l p 0) ≡ rest (take p l) ++ rest (drop (suc p) l)
  rest_taken = ap (λ (x : List ℕ). rest x) (set_split l p 0 h) ∙ rest_append (take p l) (0 ∷ drop (suc p) l)

-- ---- lines

-- the lines of a gate
pub line_below : (b : Kind) (k : ℕ) → k < 4224 → line b k < 33
line_below Target k h = omega arith
line_below Control k h = omega arith

pub lines_differ : (b : Kind) (k : ℕ) → Code 32 k → line b k ≢ line (opposite b) k
lines_differ Target k c e = (passes_self c.valid).there (omega (arith, target_gate k, slot_gate k))
lines_differ Control k c e = (passes_self c.valid).there (omega (arith, target_gate k, slot_gate k))

-- two gates pass if neither has the other's target as control
pub line_passes : (g h : ℕ) → line Control h ≢ line Target g → line Target h ≢ line Control g → Passes (gate g) (gate h)
line_passes g h a b = record { there = λ e. a (omega (arith, target_gate g, slot_gate h)); back = λ e. b (omega (arith, target_gate h, slot_gate g)) }

passes_there : (g h : ℕ) → Passes (gate g) (gate h) → line Control h ≢ line Target g
passes_there g h p e = p.there (omega (arith, target_gate g, slot_gate h))

passes_back : (g h : ℕ) → Passes (gate g) (gate h) → line Target h ≢ line Control g
passes_back g h p e = p.back (omega (arith, target_gate h, slot_gate g))

-- ---- sites in front, by their places

-- the gate at j is left, of the site of s, and s passes all left before it
pub record Place (s : Gate) (l : List ℕ) (j : ℕ) : Type 0 where
  pub left : get_or l j 0 ≢ 0
  pub site : Same (gate (get_or l j 0)) s
  pub passes : (i : ℕ) → i < j → get_or l i 0 ≢ 0 → Passes s (gate (get_or l i 0))

later : (s : Gate) (x : ℕ) (l : List ℕ) (j : ℕ) → (x ≢ 0 → Passes s (gate x)) → Place s l j → Place s (x ∷ l) (suc j)
later s x l j p w = record { left = w.left; site = w.site; passes = go }
  where
    go : (i : ℕ) → i < suc j → get_or (x ∷ l) i 0 ≢ 0 → Passes s (gate (get_or (x ∷ l) i 0))
    go zero h d = p d
    go (suc i) h d = w.passes i (omega arith) d

earlier : (s : Gate) (x : ℕ) (l : List ℕ) (j : ℕ) → Place s (x ∷ l) (suc j) → Place s l j
earlier s x l j w = record { left = w.left; site = w.site; passes = λ i h d. w.passes (suc i) (omega arith) d }

front_cons : {s a : Gate} {v : List Gate} {X : Type 0} → Front s (a ∷ v) → (Same a s → X) → (Passes s a → Front s v → X) → X
front_cons (here e) x y = x e
front_cons (there p f) x y = y p f

pub front_place : (s : Gate) (l : List ℕ) → Front s (gates (rest l)) → (j : ℕ) × Place s l j
front_place s [] f = elim f [ ]
front_place s (zero ∷ l) f = let w = front_place s l f in (suc w.0, later s zero l w.0 (λ d. absurd (d refl)) w.1)
front_place s (suc k ∷ l) f =
    front_cons f (λ e. (0, record { left = λ z. omega arith; site = e; passes = λ i h. absurd (omega arith) }))
    (λ p y. let w = front_place s l y in (suc w.0, later s (suc k) l w.0 (λ d. p) w.1))

pub place_front : (s : Gate) (l : List ℕ) (j : ℕ) → Place s l j → Front s (gates (rest l))
place_front s [] j w = absurd (w.left refl)
place_front s (zero ∷ l) zero w = absurd (w.left refl)
place_front s (suc k ∷ l) zero w = here w.site
place_front s (zero ∷ l) (suc j) w = place_front s l j (earlier s zero l j w)
place_front s (suc k ∷ l) (suc j) w = there (w.passes 0 (omega arith) (λ z. omega arith)) (place_front s l j (earlier s (suc k) l j w))

-- what is not empty has a site in front
pub some_front : (l : List ℕ) → 0 < length (rest l) → (s : Gate) × Front s (gates (rest l))
some_front l h = go (rest l) h
  where
    go : (x : List ℕ) → 0 < length x → (s : Gate) × Front s (gates x)
    go [] h = absurd (omega arith)
    go (a ∷ x) h = (gate a, here (same_refl (gate a)))

-- a gate that passes all left is free over them
pub free_rest : (g : Gate) (l : List ℕ) → ((j : ℕ) → j < length l → get_or l j 0 ≢ 0 → Passes g (gate (get_or l j 0))) → Free g (gates (rest l))
free_rest g [] f = free_nil
free_rest g (zero ∷ l) f = free_rest g l (λ j h d. f (suc j) (omega arith) d)
free_rest g (suc k ∷ l) f = free_cons (f 0 (omega arith) (λ z. omega arith)) (free_rest g l (λ j h d. f (suc j) (omega arith) d))

-- in a shortest circuit one place at most
pub one_place : (n : ℕ) (s : Gate) (l : List ℕ) (i j : ℕ) → Shortest n (gates (rest l)) → Place s l i → Place s l j → i ≡ j
one_place n s [] i j w a b = absurd (a.left refl)
one_place n s (x ∷ l) zero zero w a b = refl
one_place n s (zero ∷ l) zero (suc j) w a b = absurd (a.left refl)
one_place n s (suc k ∷ l) zero (suc j) w a b = absurd (no_twin w (place_front s l j (earlier s (suc k) l j b)) a.site)
one_place n s (zero ∷ l) (suc i) zero w a b = absurd (b.left refl)
one_place n s (suc k ∷ l) (suc i) zero w a b = absurd (no_twin w (place_front s l i (earlier s (suc k) l i a)) b.site)
one_place n s (zero ∷ l) (suc i) (suc j) w a b = ap suc (one_place n s l i j w (earlier s zero l i a) (earlier s zero l j b))
one_place n s (suc k ∷ l) (suc i) (suc j) w a b = ap suc (one_place n s l i j (shortest_tail n w) (earlier s (suc k) l i a) (earlier s (suc k) l j b))

-- ---- in front

pub front_passes : {l : List ℕ} {i : ℕ} → InFront l i → (j : ℕ) → j < i → get_or l j 0 ≢ 0 → Passes (gate (get_or l i 0)) (gate (get_or l j 0))
front_passes {l} {i} w j h d = line_passes (get_or l i 0) (get_or l j 0) (w.there j h d) (w.back j h d)

pub same_site : (a g : ℕ) → a / 4 ≡ g / 4 → Same (gate a) (gate g)
same_site a g e = record { targets = omega (arith, target_gate a, target_gate g); controls = omega (arith, slot_gate a, slot_gate g) }

in_front_place : {l : List ℕ} {i : ℕ} (s : Gate) → Same (gate (get_or l i 0)) s → InFront l i → Place s l i
in_front_place s e w = record { left = w.left; site = e; passes = λ j h d. passes_same e (front_passes w j h d) }

pub place_in_front : {l : List ℕ} {j : ℕ} {s : Gate} → Place s l j → InFront l j
place_in_front {l} {j} w = record {
  left = w.left;
  there = λ i h d. passes_there (get_or l j 0) (get_or l i 0) (passes_same (same_sym w.site) (w.passes i h d));
  back = λ i h d. passes_back (get_or l j 0) (get_or l i 0) (passes_same (same_sym w.site) (w.passes i h d));
}

pub shortest_single : (n : ℕ) (l : List ℕ) → Shortest n (gates (rest l)) → Single l
shortest_single n l w i j a b e = one_place n (gate (get_or l i 0)) l i j w (in_front_place _ (same_refl _) a) (in_front_place _ (same_sym (same_site (get_or l i 0) (get_or l j 0) e)) b)

pub in_front_free : {l : List ℕ} {p : ℕ} → p ≤ length l → InFront l p → Free (gate (get_or l p 0)) (gates (rest (take p l)))
in_front_free {l} {p} h w = free_rest (gate (get_or l p 0)) (take p l) (λ j k d. (let t : j < p = omega (arith, length-take-le p l h) in let e : get_or (take p l) j 0 ≡ get_or l j 0 = get_or-take p l j 0 t in rw e (front_passes w j t (rw e at d))))
