-- What is kept of the controls cs of an mct line says of them: how many there are, whether they rise, whether one is n or more,
-- which lines they are, and, of at most sixteen, the lines themselves; and how many of them are negated, and which. Assumes nothing.
use mathlib.Core.Path.{◌≡◌, refl, sym, ap, ◌∙◌}
use mathlib.Core.Bool.{Bool, true, false, cond, ◌&&◌, ◌||◌, and-true, and_assoc, or-true, or-false, or_assoc}
use mathlib.Core.List.{List, [], ◌∷◌, ◌++◌, append_assoc, append-nil}
use Prim.Native.Nat.{ℕ, ◌+◌, ◌≤◌, ◌<◌, max}
use native.Mathlib.Numerals.{add-one}
use native.Mathlib.Nat.{add-zero}
use native.Mathlib.Omega.{arith}
use lib.ListN.{length, take, get_or, set, length-set, get_or-replicate}
use lib.Seq.{take-suc-set, get_or-set_same, get_or-set_other}
use lib.Dec.{eqb, leb, ltb}
use borrow.Author.Tests.{eqb-true, eqb-false, leb-true, leb-false, ne_eqb, le-leb, lt-leb}
use Rattle.meaning.specs.Pattern.{has}
use Rattle.cascades.specs.declared.Control.{Control}
use Rattle.cascades.specs.Control.{control_lines, negated_lines}
use Rattle.cascades.proofs.SignLines.{negated_fewer}
use Rattle.text.specs.Judging.{any_from, rising}
use Rattle.gathering.specs.declared.LineList.{LineList}
use Rattle.gathering.specs.declared.Controls.{Controls}
use Rattle.gathering.specs.Gathering.{added, no_lines, listed, noted, noted_all, no_controls, gathered}

-- ---- lines in order

added_all : LineList → List ℕ → LineList
added_all l [] = l
added_all l (c ∷ cs) = added_all (added l c) cs

added_count : (l : LineList) (cs : List ℕ) → (added_all l cs).count ≡ l.count + length cs
unfolding added_all added
added_count l [] = omega arith
added_count l (c ∷ cs) = let h = added_count (added l c) cs in omega arith

added_room : (l : LineList) (cs : List ℕ) → length (added_all l cs).first ≡ length l.first
unfolding added_all added
added_room l [] = refl
added_room l (c ∷ cs) = added_room (added l c) cs ∙ length-set l.first l.count c

added_first : (l : LineList) (cs : List ℕ) → l.count + length cs ≤ length l.first → take (l.count + length cs) (added_all l cs).first ≡ take l.count l.first ++ cs
unfolding added_all added
added_first l [] h = rw add-zero (sym (append-nil (take l.count l.first)))
added_first l (c ∷ cs) h =
    let n = l.count in
    let e : n + length (c ∷ cs) ≡ n + 1 + length cs = omega arith in
    ap (λ (k : ℕ). take k (added_all (added l c) cs).first) e
    ∙ added_first (added l c) cs (rw (length-set l.first n c) (omega arith))
    ∙ ap (λ (m : List ℕ). m ++ cs) (ap (λ (k : ℕ). take k (set l.first n c)) (add-one n) ∙ take-suc-set l.first n c (omega arith))
    ∙ append_assoc (take n l.first) (c ∷ []) cs

-- of at most sixteen lines all are there
pub record AreLines (cs : List ℕ) (l : LineList) : Type 0 where
  pub count : l.count ≡ length cs
  pub room : length l.first ≡ 16
  pub first : length cs ≤ 16 → listed l ≡ cs

are_added : (cs : List ℕ) → AreLines cs (added_all no_lines cs)
unfolding no_lines listed
are_added cs = record {
  count = added_count no_lines cs ∙ omega arith;
  room = added_room no_lines cs;
  first = λ h. ap (λ (k : ℕ). take k (added_all no_lines cs).first) (added_count no_lines cs) ∙ added_first no_lines cs (omega arith);
}

-- the lines of the controls
noted_lines : (a : Controls) (cs : List Control) → (noted_all a cs).lines ≡ added_all a.lines (control_lines cs)
unfolding noted_all noted added_all control_lines
noted_lines a [] = refl
noted_lines a (c ∷ cs) = noted_lines (noted a c) cs

pub lines_are : (cs : List Control) → AreLines (control_lines cs) (gathered cs).lines
unfolding gathered no_controls
lines_are cs = rw (noted_lines no_controls cs) (are_added (control_lines cs))

-- the negated ones
noted_negated : (a : Controls) (cs : List Control) → (noted_all a cs).negated ≡ added_all a.negated (negated_lines cs)
unfolding noted_all noted added_all negated_lines
noted_negated a [] = refl
noted_negated a (c ∷ cs) = noted_negated (noted a c) cs ∙ go c.negated
  where
    go : (b : Bool) → added_all (cond b (added a.negated c.line) a.negated) (negated_lines cs) ≡ added_all a.negated (cond b (c.line ∷ negated_lines cs) (negated_lines cs))
    go true = refl
    go false = refl

pub negated_are : (cs : List Control) → AreLines (negated_lines cs) (gathered cs).negated
unfolding gathered no_controls
negated_are cs = rw (noted_negated no_controls cs) (are_added (negated_lines cs))

pub negated_few : {a : Controls} (cs : List Control) → a ≡ gathered cs → a.negated.count ≤ a.lines.count
negated_few cs e = rw e (omega (arith, (lines_are cs).count, (negated_are cs).count, negated_fewer cs))

-- ---- whether they rise

noted_rising : (a : Controls) (cs : List Control) → (a.lines.count ≡ 0 → ⊥) → (noted_all a cs).rising ≡ a.rising && rising (a.last ∷ control_lines cs)
unfolding noted_all noted added rising control_lines
noted_rising a [] h = sym (and-true a.rising)
noted_rising a (c ∷ cs) h =
    noted_rising (noted a c) cs (λ e. omega arith)
    ∙ rw (ne_eqb a.lines.count 0 h) (and_assoc a.rising (ltb a.last c.line) (rising (c.line ∷ control_lines cs)))

pub rising_is : (cs : List Control) → (gathered cs).rising ≡ rising (control_lines cs)
unfolding gathered noted_all noted added no_controls no_lines control_lines
rising_is [] = unfold rising in refl
rising_is (c ∷ cs) = noted_rising (noted no_controls c) cs (λ e. omega arith)

-- ---- whether one is n or more

leb_max : (n a b : ℕ) → leb n (max a b) ≡ leb n a || leb n b
leb_max n a b = go (leb n a) refl (leb n b) refl
  where
    go : (x : Bool) → leb n a ≡ x → (y : Bool) → leb n b ≡ y → leb n (max a b) ≡ x || y
    go true p y q = let h = leb-true n a p in le-leb n (max a b) (omega arith)
    go false p true q = let h = leb-true n b q in le-leb n (max a b) (omega arith)
    go false p false q = let h = leb-false n a p in let k = leb-false n b q in lt-leb n (max a b) (omega arith)

noted_largest : (n : ℕ) (a : Controls) (cs : List Control) → leb n (noted_all a cs).largest ≡ leb n a.largest || any_from n (control_lines cs)
unfolding noted_all noted any_from control_lines
noted_largest n a [] = sym (or-false (leb n a.largest))
noted_largest n a (c ∷ cs) =
    noted_largest n (noted a c) cs
    ∙ ap (λ (x : Bool). x || any_from n (control_lines cs)) (leb_max n a.largest c.line)
    ∙ or_assoc (leb n a.largest) (leb n c.line) (any_from n (control_lines cs))

-- for no controls the largest is 0
pub largest_is : (n : ℕ) (cs : List Control) → 1 ≤ n → any_from n (control_lines cs) ≡ leb n (gathered cs).largest
unfolding gathered no_controls
largest_is n cs h = sym (noted_largest n no_controls cs ∙ ap (λ (x : Bool). x || any_from n (control_lines cs)) (lt-leb n 0 h))

-- ---- which lines they are

set_mark : (m : List Bool) (c t : ℕ) → t < length m → get_or (set m c true) t false ≡ get_or m t false || eqb t c
set_mark m c t h = go (eqb t c) refl
  where
    go : (x : Bool) → eqb t c ≡ x → get_or (set m c true) t false ≡ get_or m t false || x
    go true e = let i : t ≡ c = eqb-true t c e in ap (λ (k : ℕ). get_or (set m k true) t false) (sym i) ∙ get_or-set_same m t true false h ∙ sym (or-true (get_or m t false))
    go false e = get_or-set_other m c t true false (eqb-false t c e) ∙ sym (or-false (get_or m t false))

noted_mark : (a : Controls) (cs : List Control) (t : ℕ) → t < length a.marks → get_or (noted_all a cs).marks t false ≡ get_or a.marks t false || has t (control_lines cs)
unfolding noted_all noted has control_lines
noted_mark a [] t h = sym (or-false (get_or a.marks t false))
noted_mark a (c ∷ cs) t h =
    noted_mark (noted a c) cs t (rw (length-set a.marks c.line true) h)
    ∙ ap (λ (x : Bool). x || has t (control_lines cs)) (set_mark a.marks c.line t h)
    ∙ or_assoc (get_or a.marks t false) (eqb t c.line) (has t (control_lines cs))

pub mark_is : (cs : List Control) (t : ℕ) → t < 32 → get_or (gathered cs).marks t false ≡ has t (control_lines cs)
unfolding gathered no_controls
mark_is cs t h =
    noted_mark no_controls cs t (omega arith) ∙ ap (λ (x : Bool). x || has t (control_lines cs)) (get_or-replicate 32 t false false h)
