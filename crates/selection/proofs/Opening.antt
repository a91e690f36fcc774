-- What is open and left is in front; and lines and marks while a run is opened, use by use. Assumes nothing.
use mathlib.Core.Path.{◌≡◌, refl, sym, ap, ◌∙◌}
use mathlib.Core.Logic.{◌≢◌}
use mathlib.Core.List.{List}
use Prim.Native.Nat.{ℕ, suc, ◌+◌, ◌-◌, ◌/◌, ◌≤◌, ◌<◌}
use native.Mathlib.Omega.{arith}
use native.Mathlib.Decide.{ℕ_discrete, dec_lt}
use lib.ListN.{length, get_or, set, length-set, get_or-eq_default}
use lib.Seq.{get_or-set_same, get_or-set_other}
use Rattle.gates.proofs.Codes.{below}
use Rattle.sites.specs.Sites.{Has, Inserted}
use Rattle.selection.specs.declared.Kind.{Kind}
use Rattle.selection.specs.declared.Kind.TheVariants.{Target, Control}
use Rattle.selection.specs.Places.{opposite}
use Rattle.selection.specs.Places.{Numbers, line, InFront, Single}
use Rattle.selection.specs.Runs.{NextUse, NextUses, number, Alike, Open, Lines}
use Rattle.selection.specs.Taking.{Ready, Shown, Marks, Marked, ready, waiting}
use Rattle.selection.proofs.Places.{line_below, lines_differ}
use Rattle.selection.proofs.Counting.{use_one, number_more, number_few, number_gap}

-- ---- an element of a list after a store

pub data Read (l : List ℕ) (i a j : ℕ) : Type 0 where
  new : j ≡ i → get_or (set l i a) j 0 ≡ a → Read l i a j
  old : j ≢ i → get_or (set l i a) j 0 ≡ get_or l j 0 → Read l i a j

pub read : (l : List ℕ) (i a j : ℕ) → i < length l → Read l i a j
read l i a j h = go (ℕ_discrete j i)
  where
    go : Dec (j ≡ i) → Read l i a j
    go (yes e) = new e (ap (λ (k : ℕ). get_or (set l i a) k 0) e ∙ get_or-set_same l i a 0 h)
    go (no d) = old d (get_or-set_other l i j a 0 d)

-- ---- numbers

module _ {l : List ℕ} {r : ℕ} (n : Numbers l r) where
  pub left_within : (i : ℕ) → get_or l i 0 ≢ 0 → i < r
  left_within i d = go (dec_lt i r)
    where
      go : Dec (i < r) → i < r
      go (yes h) = h
      go (no h) = absurd (d (get_or-eq_default l 0 (omega (arith, n.size))))

  pub left_below : (i : ℕ) → get_or l i 0 ≢ 0 → get_or l i 0 < 4224
  left_below i d = below (omega arith) (n.code i d)

  pub left_line : (b : Kind) (i : ℕ) → get_or l i 0 ≢ 0 → line b (get_or l i 0) < 33
  left_line b i d = line_below b (get_or l i 0) (left_below i d)

-- two kinds
pub data Kinds (b c : Kind) : Type 0 where
  same : b ≡ c → Kinds b c
  other : opposite b ≡ c → Kinds b c

pub kinds : (b c : Kind) → Kinds b c
kinds Target Target = same refl
kinds Target Control = other refl
kinds Control Target = other refl
kinds Control Control = same refl

-- ---- what is ready is in front

pub ready_front : {l : List ℕ} {r : ℕ} {opened running : List ℕ} {i : ℕ} → Numbers l r → Lines l r opened running → get_or l i 0 ≢ 0 → Ready opened (get_or l i 0) i → InFront l i
ready_front {l} {i = i} n w d o = record {
  left = d;
  there = λ j h e q. (w.each (line Target (get_or l i 0)) (left_line n Target i d)).alike i j o.there (omega (arith, o.there)) d e refl q;
  back = λ j h e q. (w.each (line Control (get_or l i 0)) (left_line n Control i d)).alike j i (omega (arith, o.back)) o.back e d q refl;
}

-- by either line
pub ready_line : {opened : List ℕ} {k i : ℕ} (b : Kind) → Ready opened k i → i < get_or opened (line b k) 0
ready_line Target o = o.there
ready_line Control o = o.back

pub both_ready : {opened : List ℕ} {k i : ℕ} (b : Kind) → i < get_or opened (line b k) 0 → i < get_or opened (line (opposite b) k) 0 → Ready opened k i
both_ready Target p q = record { there = p; back = q }
both_ready Control p q = record { there = q; back = p }

pub ready_rises : {opened opened' : List ℕ} {k i : ℕ} → ((z : ℕ) → get_or opened z 0 ≤ get_or opened' z 0) → Ready opened k i → Ready opened' k i
ready_rises {k = k} f o = record { there = omega (arith, f (line Target k), o.there); back = omega (arith, f (line Control k), o.back) }

pub next_uses_rise : (l : List ℕ) (r : ℕ) (opened opened' next : List ℕ) (b : Kind) → ((z : ℕ) → get_or opened z 0 ≤ get_or opened' z 0) → NextUses l r opened b next → NextUses l r opened' b next
next_uses_rise l r opened opened' next b f w p d h = w p d (omega (arith, f (line b (get_or l p 0))))

-- ---- one use is opened: that of line y, of kind b, at place p; the next is at q

-- every gate left before place p that is on line y has it as its line of kind b
abbrev pub Pure : List ℕ → ℕ → Kind → ℕ → Type 0
Pure l y b p = (j : ℕ) → j < p → get_or l j 0 ≢ 0 → line (opposite b) (get_or l j 0) ≢ y

pub pure_alike : (l : List ℕ) (y : ℕ) (b : Kind) (p : ℕ) → Pure l y b p → Alike l y p
pure_alike l y Target p f i j a c d e s t = f j c e t
pure_alike l y Control p f i j a c d e s t = f i a d s

module _ (l : List ℕ) (r : ℕ) (n : Numbers l r) (y : ℕ) (b : Kind) (p q : ℕ) (g : y < 33) (d : get_or l p 0 ≢ 0) (own : line b (get_or l p 0) ≡ y) (next : NextUse l r y (suc p) q) where
  pub pure_more : Pure l y b p → Pure l y b q
  pure_more f j h e = go (dec_lt j p) (ℕ_discrete j p)
    where
      go : Dec (j < p) → Dec (j ≡ p) → line (opposite b) (get_or l j 0) ≢ y
      go (yes a) c = f j a e
      go (no a) (yes c) = λ z. lines_differ b (get_or l p 0) (n.code p d) (own ∙ sym (ap (λ (x : ℕ). line (opposite b) (get_or l x 0)) (sym c) ∙ z))
      go (no a) (no c) = next.gap j (omega arith) h e (opposite b)

  counted : number y l q ≡ number y l p + 1
  counted =
      let z : suc p + (q - suc p) ≡ q = omega (arith, next.from) in
      omega (arith, ap (λ (x : ℕ). number y l x) z, number_gap y l (suc p) (q - suc p) (λ j a c. next.gap j a (omega arith)), number_more y l p, use_one y (get_or l p 0) b d own)

  module _ (opened running : List ℕ) (place : get_or opened y 0 ≡ p) (w : Lines l r opened running) where
    opened_at : (z : ℕ) → Read opened y q z
    opened_at z = read opened y q z (omega (arith, w.places))

    pub opened_rises : (z : ℕ) → get_or opened z 0 ≤ get_or (set opened y q) z 0
    opened_rises z = go (opened_at z)
      where
        go : Read opened y q z → get_or opened z 0 ≤ get_or (set opened y q) z 0
        go (new e v) = omega (arith, v, next.from, place, ap (λ (x : ℕ). get_or opened x 0) e)
        go (old e v) = omega (arith, v)

    pub count_fits : get_or running y 0 < 65535
    count_fits = omega (arith, w.count y g, number_few y l (get_or opened y 0), (w.each y g).within, n.few)

    pub lines_more : Pure l y b p → (x : ℕ) → x ≡ get_or running y 0 + 1 → Lines l r (set opened y q) (set running y x)
    lines_more f x more = record {
      places = length-set opened y q ∙ w.places;
      counts = length-set running y x ∙ w.counts;
      each = λ z h. each z h (opened_at z);
      count = λ z h. count z h (opened_at z) (read running y x z (omega (arith, w.counts)));
    }
      where
        each : (z : ℕ) → z < 33 → Read opened y q z → Open l r z (get_or (set opened y q) z 0)
        each z h (new e v) = rw (v, e) (record { within = next.within; found = next.found; alike = pure_alike l y b q (pure_more f) })
        each z h (old e v) = rw v (w.each z h)

        count : (z : ℕ) → z < 33 → Read opened y q z → Read running y x z → get_or (set running y x) z 0 ≡ number z l (get_or (set opened y q) z 0)
        count z h (new e v) (new e' v') = rw (v, v', e) (omega (arith, more, w.count y g, ap (λ (i : ℕ). number y l i) place, counted))
        count z h (new e v) (old e' v') = absurd (e' e)
        count z h (old e v) (new e' v') = absurd (e e')
        count z h (old e v) (old e' v') = rw (v, v') (w.count z h)

    -- a gate that is ready now and is not the one opened was ready
    was_ready : (i : ℕ) → i ≢ p → get_or l i 0 ≢ 0 → Ready (set opened y q) (get_or l i 0) i → Ready opened (get_or l i 0) i
    was_ready i c e o = record { there = go Target (opened_at (line Target (get_or l i 0))); back = go Control (opened_at (line Control (get_or l i 0))) }
      where
        before : (a : Kind) → line a (get_or l i 0) ≡ y → i < q → i < p
        before a z h = before' (dec_lt i p)
          where
            before' : Dec (i < p) → i < p
            before' (yes k) = k
            before' (no k) = absurd (next.gap i (omega arith) h e a z)

        go : (a : Kind) → Read opened y q (line a (get_or l i 0)) → i < get_or opened (line a (get_or l i 0)) 0
        go a (new z v) = rw (z, place) (before a z (omega (arith, ready_line a o, v)))
        go a (old z v) = omega (arith, ready_line a o, v)

    module _ (places rows places' rows' : List ℕ) (single : Single l) (w' : Lines l r (set opened y q) (set running y (get_or running y 0 + 1))) (m : Marks l opened places rows) where
      -- the gate opened is open on its other line too
      pub marks_ready : p < get_or (set opened y q) (line (opposite b) (get_or l p 0)) 0 → places' ≡ set places (get_or l p 0 / 4) p → Inserted rows (get_or l p 0 / 4) rows' → Marks l (set opened y q) places' rows'
      marks_ready h e t = rw e (record {
        size = length-set places (get_or l p 0 / 4) p ∙ m.size;
        sites = t.sites;
        shown = λ s c v. shown s c v (at s);
        all = λ i c o. all i c o (ℕ_discrete i p);
      })
        where
          at : (s : ℕ) → Read places (get_or l p 0 / 4) p s
          at s = read places (get_or l p 0 / 4) p s (omega (arith, m.size, left_below n p d))

          now_ready : Ready (set opened y q) (get_or l p 0) p
          now_ready = both_ready b (rw own (here (opened_at y))) h
            where
              here : Read opened y q y → p < get_or (set opened y q) y 0
              here (new z v) = omega (arith, v, next.from)
              here (old z v) = absurd (z refl)

          shown : (s : ℕ) → s < 1056 → Has rows' s → Read places (get_or l p 0 / 4) p s → Shown l (set opened y q) s (get_or (set places (get_or l p 0 / 4) p) s 0)
          shown s c v (new z u) = rw u (record { left = d; site = sym z; ready = now_ready })
          shown s c v (old z u) = let x = m.shown s c (t.was s c z v) in rw u (record { left = x.left; site = x.site; ready = ready_rises opened_rises x.ready })

          other_site : (i : ℕ) → i ≢ p → get_or l i 0 ≢ 0 → Ready (set opened y q) (get_or l i 0) i → get_or l i 0 / 4 ≢ get_or l p 0 / 4
          other_site i c x o z = c (single i p (ready_front n w' x o) (ready_front n w' d now_ready) z)

          all : (i : ℕ) → get_or l i 0 ≢ 0 → Ready (set opened y q) (get_or l i 0) i → Dec (i ≡ p) → Has rows' (get_or l i 0 / 4) × (get_or (set places (get_or l p 0 / 4) p) (get_or l i 0 / 4) 0 ≡ i)
          all i c o (yes z) = rw z (t.there, get_or-set_same places (get_or l p 0 / 4) p 0 (omega (arith, m.size, left_below n p d)))
          all i c o (no z) =
              let x = m.all i c (was_ready i z c o) in
              (t.stays (get_or l i 0 / 4) (omega (arith, left_below n i c)) x.0, get_or-set_other places (get_or l p 0 / 4) (get_or l i 0 / 4) p 0 (other_site i z c o) ∙ x.1)

      -- or not
      pub marks_waiting : get_or (set opened y q) (line (opposite b) (get_or l p 0)) 0 ≤ p → places' ≡ places → rows' ≡ rows → Marks l (set opened y q) places' rows'
      marks_waiting h e t = rw (e, t) (record {
        size = m.size;
        sites = m.sites;
        shown = λ s c v. (let x = m.shown s c v in record { left = x.left; site = x.site; ready = ready_rises opened_rises x.ready });
        all = λ i c o. all i c o (ℕ_discrete i p);
      })
        where
          all : (i : ℕ) → get_or l i 0 ≢ 0 → Ready (set opened y q) (get_or l i 0) i → Dec (i ≡ p) → Has rows (get_or l i 0 / 4) × (get_or places (get_or l i 0 / 4) 0 ≡ i)
          all i c o (yes z) = absurd (let x : Ready (set opened y q) (get_or l p 0) p = rw z at o in omega (arith, ready_line (opposite b) x))
          all i c o (no z) = m.all i c (was_ready i z c o)

      pub marks_more : Marked (set opened y q) places rows p (get_or l p 0) (line (opposite b) (get_or l p 0)) places' rows' → Marks l (set opened y q) places' rows'
      marks_more (ready h e t) = marks_ready h e t
      marks_more (waiting h e t) = marks_waiting h e t
