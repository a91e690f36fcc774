-- The loops that open runs, as laws on lists. Assumes nothing.
use mathlib.Core.Path.{◌≡◌, refl, ap, ◌∙◌}
use mathlib.Core.Logic.{◌≢◌}
use mathlib.Core.List.{List}
use Prim.Native.Nat.{ℕ, suc, ◌+◌, ◌≤◌, ◌<◌}
use native.Mathlib.Omega.{arith}
use native.Mathlib.Decide.{ℕ_discrete}
use lib.ListN.{get_or, set, replicate, get_or-replicate}
use lib.Seq.{get_or-set_same, get_or-set_other}
use Rattle.gates.specs.Code.{gates}
use Rattle.partners.specs.Shortest.{Shortest}
use Rattle.selection.specs.declared.Kind.{Kind}
use Rattle.selection.specs.declared.Kind.TheVariants.{Target, Control}
use Rattle.selection.specs.Places.{opposite, rest, Numbers, line, Single}
use Rattle.selection.specs.Runs.{NextUse, NextUses, number, Lines, Differs, Whole}
use Rattle.selection.specs.Taking.{Marks, State, Marked, Opened, OpenedNext, Prepared}
use Rattle.selection.proofs.Counting.{number_some}
use Rattle.selection.proofs.Opening.{Kinds, same, other, kinds, next_uses_rise, Pure, pure_more, opened_rises, lines_more, marks_more}

-- ---- a run of line y, of kind b, opened up to place p

pub record Opening (l : List ℕ) (r y : ℕ) (b : Kind) (opened₀ running₀ : List ℕ) (p : ℕ) (opened running places rows : List ℕ) : Type 0 where
  pub place : get_or opened y 0 ≡ p
  pub lines : Lines l r opened running
  pub marks : Marks l opened places rows
  pub pure : Pure l y b p
  pub rises : (z : ℕ) → get_or opened₀ z 0 ≤ get_or opened z 0
  pub others : (z : ℕ) → z ≢ y → (get_or opened z 0 ≡ get_or opened₀ z 0) × (get_or running z 0 ≡ get_or running₀ z 0)

pub opening_start : (l : List ℕ) (r y : ℕ) (b : Kind) (opened running places rows : List ℕ) → y < 33 → Lines l r opened running → Marks l opened places rows → get_or running y 0 ≡ 0
    → Opening l r y b opened running (get_or opened y 0) opened running places rows
opening_start l r y b opened running places rows g w m e = record {
  place = refl;
  lines = w;
  marks = m;
  pure = λ j h d q. omega (arith, number_some y l (get_or opened y 0) j (opposite b) h d q, w.count y g);
  rises = λ z. omega arith;
  others = λ z d. (refl, refl);
}

module _ {l : List ℕ} {r y : ℕ} {b : Kind} {opened₀ running₀ : List ℕ} {p : ℕ} {opened running places rows : List ℕ} (g : y < 33) (n : Numbers l r) (w : Opening l r y b opened₀ running₀ p opened running places rows) where
  pub opening_left : p < r → get_or l p 0 ≢ 0
  opening_left h = rw w.place at ((w.lines.each y g).found (omega (arith, w.place))).left

  module _ (next : List ℕ) (k : NextUses l r opened₀ b next) (h : p < r) (own : line b (get_or l p 0) ≡ y) where
    pub opening_next : NextUse l r y (suc p) (get_or next p 0)
    opening_next = rw own at (k p (opening_left h) (rw own (omega (arith, w.rises y, w.place))))

    pub opening_more : (x : ℕ) (places' rows' : List ℕ) → Single l → x ≡ get_or running y 0 + 1 → Marked (set opened y (get_or next p 0)) places rows p (get_or l p 0) (line (opposite b) (get_or l p 0)) places' rows'
        → Opening l r y b opened₀ running₀ (get_or next p 0) (set opened y (get_or next p 0)) (set running y x) places' rows'
    opening_more x places' rows' single e t =
        let q = get_or next p 0 in
        let d = opening_left h in
        let u = opening_next in
        let v = lines_more l r n y b p q g d own u opened running w.place w.lines w.pure in
        record {
          place = get_or-set_same opened y q 0 (omega (arith, w.lines.places));
          lines = v x e;
          marks = marks_more l r n y b p q g d own u opened running w.place w.lines places rows places' rows' single (v (get_or running y 0 + 1) refl) w.marks t;
          pure = pure_more l r n y b p q g d own u w.pure;
          rises = λ z. omega (arith, w.rises z, opened_rises l r n y b p q g d own u opened running w.place w.lines z);
          others = λ z c. (get_or-set_other opened y z q 0 c ∙ (w.others z c).0, get_or-set_other running y z x 0 c ∙ (w.others z c).1);
        }

  -- the run is a whole one: the next use is of another kind
  pub opening_stop : get_or l (get_or opened₀ y 0) 0 ≢ 0 → line b (get_or l (get_or opened₀ y 0) 0) ≡ y → p < r → line b (get_or l p 0) ≢ y → Opened l r y opened₀ running₀ opened running places rows
  opening_stop left own h d =
      let first : get_or opened₀ y 0 ≢ p = λ e. d (rw e at own) in
      let before : get_or opened₀ y 0 < p = omega (arith, w.rises y, w.place) in
      record {
        lines = w.lines;
        marks = w.marks;
        whole = λ k. (
          (λ z. omega (arith, number_some y l p (get_or opened₀ y 0) b before left own, w.lines.count y g, ap (λ (i : ℕ). number y l i) w.place)),
          rw w.place differs,
        );
        rises = w.rises;
        others = w.others;
      }
    where
      differs : Differs l y p
      differs c e j a f = go (kinds b c)
        where
          go : Kinds b c → line c (get_or l j 0) ≢ y
          go (same z) = absurd (d (rw z e))
          go (other z) = rw z at (w.pure j a f)

-- ---- the next run of a line

module _ {l : List ℕ} {r : ℕ} {nt nc opened running places rows : List ℕ} (y : ℕ) (w : State l r nt nc opened running places rows) where
  -- one more run
  pub next_opened : {opened' running' places' rows' : List ℕ} → Opened l r y opened running opened' running' places' rows' → OpenedNext l r y nt nc opened running opened' running' places' rows'
  next_opened {opened'} o = record {
    state = record {
      room_target = w.room_target;
      room_control = w.room_control;
      targets = next_uses_rise l r opened opened' nt Target o.rises w.targets;
      controls = next_uses_rise l r opened opened' nc Control o.rises w.controls;
      lines = o.lines;
      marks = o.marks;
    };
    whole = o.whole;
    others = o.others;
  }

-- ---- all lines

pub whole_kept : (l : List ℕ) (r z : ℕ) (opened running opened' running' : List ℕ) → (get_or opened' z 0 ≡ get_or opened z 0) × (get_or running' z 0 ≡ get_or running z 0) → Whole l r opened running z → Whole l r opened' running' z
whole_kept l r z opened running opened' running' e w = rw (e.0, e.1) w

-- the lines below y have a whole run open, and of the others nothing is open
pub record Ranging (l : List ℕ) (r y : ℕ) (nt nc opened running places rows : List ℕ) : Type 0 where
  pub state : State l r nt nc opened running places rows
  pub whole : (z : ℕ) → z < y → Whole l r opened running z
  pub closed : (z : ℕ) → y ≤ z → z < 33 → get_or running z 0 ≡ 0

pub ranging_start : {l : List ℕ} {r : ℕ} {nt nc opened running places rows : List ℕ} → State l r nt nc opened running places rows → running ≡ replicate 33 0 → Ranging l r 0 nt nc opened running places rows
ranging_start w e = record {
  state = w;
  whole = λ z h. absurd (omega arith);
  closed = λ z a h. ap (λ (x : List ℕ). get_or x z 0) e ∙ get_or-replicate {A = ℕ} 33 z 0 0 h;
}

pub ranging_more : {l : List ℕ} {r y : ℕ} {nt nc opened running places rows opened' running' places' rows' : List ℕ} → Ranging l r y nt nc opened running places rows
    → OpenedNext l r y nt nc opened running opened' running' places' rows' → Ranging l r (y + 1) nt nc opened' running' places' rows'
ranging_more {l} {r} {y} {opened = opened} {running} {opened' = opened'} {running'} w o = record {
  state = o.state;
  whole = λ z h. go z h (ℕ_discrete z y);
  closed = λ z a h. (o.others z (λ e. omega arith)).1 ∙ w.closed z (omega arith) h;
}
  where
    go : (z : ℕ) → z < y + 1 → Dec (z ≡ y) → Whole l r opened' running' z
    go z h (yes e) = rw e o.whole
    go z h (no e) = whole_kept l r z opened running opened' running' (o.others z e) (w.whole z (omega arith))

-- with all lines opened the gates can be taken
pub ranging_end : {l : List ℕ} {r y : ℕ} {nt nc opened running places rows : List ℕ} → 33 ≤ y → Numbers l r → Shortest 32 (gates (rest l)) → Ranging l r y nt nc opened running places rows → Prepared l r nt nc opened running places rows
ranging_end h n s w = record { numbers = n; shortest = s; state = w.state; whole = λ z g. w.whole z (omega arith) }
