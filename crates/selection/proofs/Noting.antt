-- The next uses of each gate's lines, noted from the last gate to the first. Assumes nothing.
use mathlib.Core.Path.{◌≡◌, sym, ap, ◌∙◌}
use mathlib.Core.Logic.{◌≢◌}
use mathlib.Core.List.{List}
use Prim.Native.Nat.{ℕ, suc, ◌+◌, ◌≤◌, ◌<◌}
use native.Mathlib.Omega.{arith}
use native.Mathlib.Decide.{ℕ_discrete}
use lib.ListN.{length, get_or, set, replicate, length-set, length-replicate, get_or-replicate}
use Rattle.selection.specs.declared.Kind.{Kind}
use Rattle.selection.specs.declared.Kind.TheVariants.{Target, Control}
use Rattle.selection.specs.Places.{Numbers, line}
use Rattle.selection.specs.Runs.{NextUse, number}
use Rattle.selection.specs.Taking.{Unopened}
use Rattle.selection.proofs.Counting.{number_none, number_gap}
use Rattle.selection.proofs.Opening.{Read, new, old, read, left_line}

-- ---- the first use of a line, when one more place comes before

module _ {l : List ℕ} {r y p h : ℕ} (w : NextUse l r y (suc p) h) where
  -- a gate that is not on the line
  pub next_other : ((b : Kind) → line b (get_or l p 0) ≢ y) → NextUse l r y p h
  next_other f = record { from = omega (arith, w.from); within = w.within; gap = λ j a c d. go j a c d (ℕ_discrete j p); found = w.found }
    where
      go : (j : ℕ) → p ≤ j → j < h → get_or l j 0 ≢ 0 → Dec (j ≡ p) → (b : Kind) → line b (get_or l j 0) ≢ y
      go j a c d (yes e) b = rw e (f b)
      go j a c d (no e) b = w.gap j (omega arith) c d b

-- a gate that is
pub next_own : (l : List ℕ) (r y p : ℕ) (b : Kind) → p < r → get_or l p 0 ≢ 0 → line b (get_or l p 0) ≡ y → NextUse l r y p p
next_own l r y p b h d e = record { from = omega arith; within = omega arith; gap = λ j a c. absurd (omega arith); found = λ a. record { left = d; kind = b; own = e } }

-- ---- all places from p on

pub record Noting (l : List ℕ) (r p : ℕ) (next_target next_control opened : List ℕ) : Type 0 where
  pub size : length opened ≡ 33
  pub room_target : r ≤ length next_target
  pub room_control : r ≤ length next_control
  pub first : (y : ℕ) → y < 33 → NextUse l r y p (get_or opened y 0)
  pub targets : (i : ℕ) → p ≤ i → i < r → NextUse l r (line Target (get_or l i 0)) (suc i) (get_or next_target i 0)
  pub controls : (i : ℕ) → p ≤ i → i < r → NextUse l r (line Control (get_or l i 0)) (suc i) (get_or next_control i 0)

pub noting_start : (l : List ℕ) (r : ℕ) (next_target next_control opened : List ℕ) → r ≤ length next_target → r ≤ length next_control → opened ≡ replicate 33 r → Noting l r r next_target next_control opened
noting_start l r nt nc opened a b e = rw e (record {
  size = length-replicate {A = ℕ} 33 r;
  room_target = a;
  room_control = b;
  first = λ y h. (let q = get_or-replicate {A = ℕ} 33 y r 0 h in rw q (record { from = omega arith; within = omega arith; gap = λ j c d. absurd (omega arith); found = λ c. absurd (omega arith) }));
  targets = λ i c d. absurd (omega arith);
  controls = λ i c d. absurd (omega arith);
})

module _ (l : List ℕ) (r : ℕ) (n : Numbers l r) (p : ℕ) (h : p < r) (d : get_or l p 0 ≢ 0) (nt nc opened : List ℕ) (w : Noting l r (p + 1) nt nc opened) where
  later : p + 1 ≡ suc p
  later = omega arith

  -- the next use of the gate's own line
  own_next : (b : Kind) → NextUse l r (line b (get_or l p 0)) (suc p) (get_or opened (line b (get_or l p 0)) 0)
  own_next b = rw later at (w.first (line b (get_or l p 0)) (left_line n b p d))

  -- each place from p on keeps what it has, and p gets its own
  noted : (b : Kind) (next : List ℕ) → r ≤ length next → ((i : ℕ) → p + 1 ≤ i → i < r → NextUse l r (line b (get_or l i 0)) (suc i) (get_or next i 0)) → (i : ℕ) → p ≤ i → i < r
      → NextUse l r (line b (get_or l i 0)) (suc i) (get_or (set next p (get_or opened (line b (get_or l p 0)) 0)) i 0)
  noted b next room f i a c = go (read next p (get_or opened (line b (get_or l p 0)) 0) i (omega arith))
    where
      go : Read next p (get_or opened (line b (get_or l p 0)) 0) i → NextUse l r (line b (get_or l i 0)) (suc i) (get_or (set next p (get_or opened (line b (get_or l p 0)) 0)) i 0)
      go (new e v) = rw (v, e) (own_next b)
      go (old e v) = rw v (f i (omega arith) c)

  firsts : (y : ℕ) → y < 33 → NextUse l r y p (get_or (set (set opened (line Target (get_or l p 0)) p) (line Control (get_or l p 0)) p) y 0)
  firsts y g =
      go (read (set opened (line Target (get_or l p 0)) p) (line Control (get_or l p 0)) p y (omega (arith, length-set opened (line Target (get_or l p 0)) p, w.size, left_line n Control p d)))
      (read opened (line Target (get_or l p 0)) p y (omega (arith, w.size, left_line n Target p d)))
    where
      off : (line Target (get_or l p 0) ≢ y) → (line Control (get_or l p 0) ≢ y) → (b : Kind) → line b (get_or l p 0) ≢ y
      off s t Target = s
      off s t Control = t

      go : Read (set opened (line Target (get_or l p 0)) p) (line Control (get_or l p 0)) p y → Read opened (line Target (get_or l p 0)) p y → NextUse l r y p (get_or (set (set opened (line Target (get_or l p 0)) p) (line Control (get_or l p 0)) p) y 0)
      go (new e v) o = rw v (next_own l r y p Control h d (sym e))
      go (old e v) (new e' v') = rw (v, v') (next_own l r y p Target h d (sym e'))
      go (old e v) (old e' v') = rw (v, v') (next_other (rw later at (w.first y g)) (off (λ z. e' (sym z)) (λ z. e (sym z))))

  pub noting_more : (nt' nc' opened' : List ℕ) → nt' ≡ set nt p (get_or opened (line Target (get_or l p 0)) 0) → nc' ≡ set nc p (get_or opened (line Control (get_or l p 0)) 0)
      → opened' ≡ set (set opened (line Target (get_or l p 0)) p) (line Control (get_or l p 0)) p → Noting l r p nt' nc' opened'
  noting_more nt' nc' opened' et ec eo = rw (et, ec, eo) (record {
    size = length-set (set opened (line Target (get_or l p 0)) p) (line Control (get_or l p 0)) p ∙ length-set opened (line Target (get_or l p 0)) p ∙ w.size;
    room_target = omega (arith, length-set nt p (get_or opened (line Target (get_or l p 0)) 0), w.room_target);
    room_control = omega (arith, length-set nc p (get_or opened (line Control (get_or l p 0)) 0), w.room_control);
    first = firsts;
    targets = noted Target nt w.room_target w.targets;
    controls = noted Control nc w.room_control w.controls;
  })

pub noting_end : (l : List ℕ) (r : ℕ) (nt nc opened : List ℕ) → Numbers l r → ((i : ℕ) → get_or l i 0 ≢ 0 → i < r) → Noting l r 0 nt nc opened → Unopened l r nt nc opened
noting_end l r nt nc opened n inside w = record {
  targets = λ p d h. w.targets p (omega arith) (inside p d);
  controls = λ p d h. w.controls p (omega arith) (inside p d);
  lines = record {
    places = w.size;
    counts = length-replicate {A = ℕ} 33 0;
    each = λ y g.
        let f = w.first y g in
        record { within = f.within; found = f.found; alike = λ i j a b d e s t. f.gap i (omega arith) a d Target s };
    count = λ y g.
        let f = w.first y g in
        let z : ◌≡◌ {A = ℕ} (get_or (replicate 33 0) y 0) 0 = get_or-replicate {A = ℕ} 33 y 0 0 g in
        let q : 0 + get_or opened y 0 ≡ get_or opened y 0 = omega arith in
        z ∙ sym (ap (λ (x : ℕ). number y l x) (sym q) ∙ number_gap y l 0 (get_or opened y 0) (λ j a b. f.gap j a (omega arith)) ∙ number_none y l);
  };
}
