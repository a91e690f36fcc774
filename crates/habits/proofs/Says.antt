-- What follows from the habits alone, for any job that keeps them: exactly one exit, and the numbers with what each leaves. Assumes nothing.
use Prim.Native.Nat.{ℕ, ◌-◌, ◌≤◌, ◌<◌}
use mathlib.Core.Path.{◌≡◌, refl, sym, ap, ◌∙◌, subst}
use mathlib.Core.Bool.{Bool, true, false, cond, ◌||◌, true≢false}
use mathlib.Core.List.{List, [], ◌∷◌, map}
use native.Mathlib.Omega.{arith}
use lib.ListN.{length, take, drop, replicate, length-append, length-replicate, length-drop}
use lib.Seq.{take-append_seam, drop-append_seam}
use lib.Dec.{eqb, ltb, leb}
use borrow.Author.Tests.{ltb-true, ltb-false, lt-ltb, le-leb, lt-leb}
use Rattle.gates.specs.declared.Gate.{Gate}
use Rattle.gates.specs.declared.Gate.TheVariants.{Not}
use Rattle.meaning.specs.Pattern.{has}
use Rattle.text.specs.declared.Refusal.{Refusal}
use Rattle.text.specs.declared.Refusal.TheVariants.{ShortAnswer}
use Rattle.text.specs.Refusals.{number_of}
use Rattle.habits.specs.Habits.{Judgement, fine, away, Lent, Exit, Answer, cleared, left, refusal, filled, all_filled, success, answered, Says}
use Rattle.habits.specs.Demands.{One, numbers, textless, TooLong, Numbered, Holds}
use Rattle.habits.proofs.Yields.{away_is, away_fine, Yields, refuses, ends, Regular, of_text, of_none}

-- ---- a job that keeps the habits

-- each list has room for its circuit
abbrev pub Fits : List (List Gate) → List (List Gate) → Type 0
Fits [] [] = Unit {0}
Fits [] (l ∷ ls) = ⊥
Fits (c ∷ cs) [] = ⊥
Fits (c ∷ cs) (l ∷ ls) = (length c ≤ length l) × Fits cs ls

-- what a job has to show of what it read: exactly one answer is right, and its circuits fit into the lists
pub record Answerable (P : Answer → Type 0) (m : Lent) : Type 0 where
  pub one : One P
  pub fits : (w : Answer) → P w → Fits w.circuits m.lists

-- what a job has to show: of its refusals, and of what it read
pub record Lawful {A : Type 0} (own : List ℕ) (texts : ℕ) (v : Judgement A) (Right : A → Answer → Type 0) (m : Lent) : Type 0 where
  pub judged : Yields (Regular own texts) (λ a. Answerable (Right a) m) v
  -- 10 is a number of its own, if an answer may have a text
  pub writes : (a : A) (w : Answer) → Right a w → 1 ≤ length w.text → has 10 (numbers own) ≡ true

-- ---- exactly one exit

-- the contract of a job that keeps the habits binds completely
pub says_one : {A : Type 0} {own : List ℕ} {k : ℕ} {v : Judgement A} {Right : A → Answer → Type 0} {m : Lent} → Lawful own k v Right m → One (Says v Right m)
unfolding Says
says_one {A} {own} {k} {v} {Right} {m} j = go j.judged
  where
    go : {u : Judgement A} → Yields (Regular own k) (λ a. Answerable (Right a) m) u → One (Says u Right m)
    go (refuses {r} {t} {l} p) = (refusal r t l m, refl, λ y h. h)
    go (ends h) =
        let o = h.one in
        (answered o.0 m, (o.0, o.1, refl), λ y z. z.2 ∙ ap (λ (w : Answer). answered w m) (o.2 z.0 z.1))

-- ---- the exit by what was judged

module _ {A : Type 0} (v : Judgement A) (Right : A → Answer → Type 0) (m : Lent) where
  -- a refusal by what was judged
  pub says_away : {x : Exit} {r : Refusal} {t l : ℕ} → Says v Right m x → v ≡ away r t l → x ≡ refusal r t l m
  unfolding Says
  says_away {x} s e = subst (λ (u : Judgement A). Says u Right m x) e s

  -- an answer by what was read
  pub says_fine : {x : Exit} {a : A} → Says v Right m x → v ≡ fine a → (w : Answer) × Right a w × (x ≡ answered w m)
  unfolding Says
  says_fine {x} s e = subst (λ (u : Judgement A). Says u Right m x) e s

  -- each answer that is right may be given
  fine_says : {x : Exit} (a : A) → v ≡ fine a → (w : Answer) → Right a w → x ≡ answered w m → Says v Right m x
  unfolding Says
  fine_says {x} a e w r i = subst (λ (u : Judgement A). Says u Right m x) (sym e) (w, r, i)

-- ---- rule 10

-- the answer is longer than its area, or the area holds it
data Put (w : Answer) (m : Lent) (x : Exit) : Type 0 where
  longer : length m.area < length w.text → x ≡ refusal ShortAnswer 0 0 m → Put w m x
  holds : length w.text ≤ length m.area → x ≡ success w m → Put w m x

put : (w : Answer) (m : Lent) → Put w m (answered w m)
unfolding answered
put w m = go (ltb (length m.area) (length w.text)) refl
  where
    go : (b : Bool) → ltb (length m.area) (length w.text) ≡ b → Put w m (cond b (refusal ShortAnswer 0 0 m) (success w m))
    go true e = longer (ltb-true _ _ e) refl
    go false e = holds (ltb-false _ _ e) refl

-- ---- what a refusal leaves of a list, and of all

-- 1 and 2 leave it unchanged
pub left_early : (r : Refusal) (l : List Gate) → number_of r ≤ 2 → left r l ≡ l
unfolding left
left_early r l h = ap (λ (b : Bool). cond b l (cleared l)) (le-leb (number_of r) 2 h)

-- the others leave `not 0` in every record
pub left_late : (r : Refusal) (l : List Gate) → 3 ≤ number_of r → left r l ≡ cleared l
unfolding left
left_late r l h = ap (λ (b : Bool). cond b l (cleared l)) (lt-leb (number_of r) 2 (omega arith))

-- as many records as were lent
pub left_length : (r : Refusal) (l : List Gate) → length (left r l) ≡ length l
unfolding left
left_length r l = go (leb (number_of r) 2)
  where
    go : (b : Bool) → length (cond b l (cleared l)) ≡ length l
    go true = refl
    go false = length-replicate (length l) (Not 0)

-- the same of all lists
all_early : (r : Refusal) (ls : List (List Gate)) → number_of r ≤ 2 → map (left r) ls ≡ ls
all_early r [] h = refl
all_early r (l ∷ ls) h = rw (left_early r l h, all_early r ls h)

all_late : (r : Refusal) (ls : List (List Gate)) → 3 ≤ number_of r → map (left r) ls ≡ map cleared ls
all_late r [] h = refl
all_late r (l ∷ ls) h = rw (left_late r l h, all_late r ls h)

all_lengths : (r : Refusal) (ls : List (List Gate)) → map length (map (left r) ls) ≡ map length ls
all_lengths r [] = refl
all_lengths r (l ∷ ls) = rw (left_length r l, all_lengths r ls)

-- the exit of a refusal, part by part
record Refused (r : Refusal) (t l : ℕ) (m : Lent) (x : Exit) : Type 0 where
  number : x.number ≡ number_of r
  line : x.line ≡ l
  text : x.text ≡ t
  count : x.count ≡ 0
  lists : x.lent.lists ≡ map (left r) m.lists
  area : x.lent.area ≡ m.area

refusal_is : (r : Refusal) (t l : ℕ) (m : Lent) {x : Exit} → x ≡ refusal r t l m → Refused r t l m x
unfolding refusal
refusal_is r t l m e =
    record { number = ap (λ (y : Exit). y.number) e; line = ap (λ (y : Exit). y.line) e; text = ap (λ (y : Exit). y.text) e; count = ap (λ (y : Exit). y.count) e; lists = ap (λ (y : Exit). y.lent.lists) e; area = ap (λ (y : Exit). y.lent.area) e }

-- ---- what success leaves of a list, and of all

-- first the circuit
pub filled_first : (c l : List Gate) → take (length c) (filled c l) ≡ c
unfolding filled
filled_first c l = take-append_seam c _

-- then `not 0`
pub filled_later : (c l : List Gate) → drop (length c) (filled c l) ≡ replicate (length l - length c) (Not 0)
unfolding filled
filled_later c l = drop-append_seam c _

-- both
pub filled_holds : (c l : List Gate) → Holds c l (filled c l)
filled_holds c l = record { first = filled_first c l; later = filled_later c l }

-- as many records as were lent
pub filled_length : (c l : List Gate) → length c ≤ length l → length (filled c l) ≡ length l
unfolding filled
filled_length c l h = length-append c (replicate (length l - length c) (Not 0)) ∙ omega (arith, h, length-replicate (length l - length c) (Not 0))

-- the same of all lists
filled_lengths : (cs ls : List (List Gate)) → Fits cs ls → map length (all_filled cs ls) ≡ map length ls
unfolding all_filled
filled_lengths [] [] f = refl
filled_lengths [] (l ∷ ls) f = absurd f
filled_lengths (c ∷ cs) [] f = absurd f
filled_lengths (c ∷ cs) (l ∷ ls) f = rw (filled_length c l f.0, filled_lengths cs ls f.1)

-- ---- the numbers

-- a number of a list is one of a longer list
has_more : (n c : ℕ) (cs : List ℕ) → has n cs ≡ true → has n (c ∷ cs) ≡ true
unfolding has
has_more n c cs h = go (eqb n c)
  where
    go : (b : Bool) → (b || has n cs) ≡ true
    go true = refl
    go false = h

-- 10 and 0 are no text's, and 0 is always given
ten_textless : textless 10 ≡ true
unfolding textless has
ten_textless = refl

zero_textless : textless 0 ≡ true
unfolding textless has
zero_textless = refl

zero_known : (own : List ℕ) → has 0 (0 ∷ numbers own) ≡ true
unfolding has
zero_known own = refl

module _ {own : List ℕ} {k : ℕ} {r : Refusal} {t l : ℕ} where
  -- its number is known
  regular_known : Regular own k r t l → has (number_of r) (0 ∷ numbers own) ≡ true
  regular_known (of_text h n a b z) = has_more (number_of r) 0 (numbers own) h
  regular_known (of_none h n g a b) = has_more (number_of r) 0 (numbers own) h

  -- its number is neither 0 nor 10
  regular_other : Regular own k r t l → (n : ℕ) → n ≤ 10 → textless n ≡ true → number_of r ≡ n → ⊥
  regular_other (of_text h f a b z) n s i e = true≢false (sym (subst (λ (c : ℕ). textless c ≡ true) (sym e) i) ∙ f)
  regular_other (of_none h f g a b) n s i e = omega arith

  -- it is of a text, or of none
  regular_text : Regular own k r t l → textless (number_of r) ≡ false → (1 ≤ t) × (t ≤ k)
  regular_text (of_text h f a b z) e = (a, b)
  regular_text (of_none h f g a b) e = absurd (true≢false (sym f ∙ e))

  regular_none : Regular own k r t l → textless (number_of r) ≡ true → (t ≡ 0) × (l ≡ 0)
  regular_none (of_text h f a b z) e = absurd (true≢false (sym e ∙ f))
  regular_none (of_none h f g a b) e = (a, b)

  -- 1 and 2 have line 0
  regular_early : Regular own k r t l → number_of r ≤ 2 → l ≡ 0
  regular_early (of_text h f a b z) e = z e
  regular_early (of_none h f g a b) e = b

-- ---- what can come of a run: a refusal by what was judged, rule 10, or success

module _ {A : Type 0} {own : List ℕ} {k : ℕ} {v : Judgement A} {Right : A → Answer → Type 0} {m : Lent} (j : Lawful own k v Right m) (x : Exit) (s : Says v Right m x) where
  -- no other answer is right, so that rule 10 depends on none
  long_ten : TooLong v Right m → x.number ≡ 10
  unfolding TooLong answered
  long_ten (a, w, e, r, l) =
      let o = says_one j in
      let i : x ≡ answered w m = o.2 x s ∙ sym (o.2 (answered w m) (fine_says v Right m a e w r refl)) in
      (refusal_is ShortAnswer 0 0 m (rw (lt-ltb (length m.area) (length w.text) l) at i)).number

  -- a refusal by what was judged
  by_refused : (r : Refusal) (t l : ℕ) → v ≡ away r t l → Regular own k r t l → Refused r t l m x → Numbered own k v Right m x
  by_refused r t l e p f =
      let n = f.number in
      record {
        known = subst (λ (c : ℕ). has c (0 ∷ numbers own) ≡ true) (sym n) (regular_known p);
        refused = λ q u i h. let d = away_is (sym e ∙ h) in (n ∙ ap number_of d.0, f.line ∙ d.2, f.text ∙ d.1);
        short = (λ z. absurd (regular_other p 10 (omega arith) ten_textless (sym n ∙ z)), long_ten);
        others = λ _ _. (r, t, l, e);
        succeeded = λ z. absurd (regular_other p 0 (omega arith) zero_textless (sym n ∙ z));
        of_text = λ z. let y = regular_text p (subst (λ (c : ℕ). textless c ≡ false) n z) in (omega (arith, y.0, f.text), omega (arith, y.1, f.text));
        of_none = λ z. let y = regular_none p (subst (λ (c : ℕ). textless c ≡ true) n z) in (f.text ∙ y.0, f.line ∙ y.1);
        unchanged = λ _. (f.count, f.area);
        early = λ a b. (f.line ∙ regular_early p (omega (arith, b, n)), f.lists ∙ all_early r m.lists (omega (arith, b, n)));
        late = λ a. f.lists ∙ all_late r m.lists (omega (arith, a, n));
        lengths = (ap (map length) f.lists ∙ all_lengths r m.lists, ap length f.area);
      }

  -- rule 10
  by_long : (a : A) (w : Answer) → v ≡ fine a → Right a w → length m.area < length w.text → Refused ShortAnswer 0 0 m x → Numbered own k v Right m x
  unfolding TooLong
  by_long a w e r h f =
      let n : x.number ≡ 10 = f.number in
      record {
        known = subst (λ (c : ℕ). has c (0 ∷ numbers own) ≡ true) (sym n) (has_more 10 0 (numbers own) (j.writes a w r (omega arith)));
        refused = λ q t l i. absurd (away_fine (sym i ∙ e));
        short = (λ _. (a, w, e, r, h), λ _. n);
        others = λ _ i. absurd (i n);
        succeeded = λ z. absurd (omega (arith, z, n));
        of_text = λ z. absurd (true≢false (sym ten_textless ∙ subst (λ (c : ℕ). textless c ≡ false) n z));
        of_none = λ _. (f.text, f.line);
        unchanged = λ _. (f.count, f.area);
        early = λ b c. absurd (omega (arith, c, n));
        late = λ _. f.lists ∙ all_late ShortAnswer m.lists (omega arith);
        lengths = (ap (map length) f.lists ∙ all_lengths ShortAnswer m.lists, ap length f.area);
      }

  -- success
  by_success : (a : A) (w : Answer) → v ≡ fine a → Right a w → Fits w.circuits m.lists → length w.text ≤ length m.area → x ≡ success w m → Numbered own k v Right m x
  unfolding success
  by_success a w e r h l i =
      let n : x.number ≡ 0 = ap (λ (y : Exit). y.number) i in
      record {
        known = subst (λ (c : ℕ). has c (0 ∷ numbers own) ≡ true) (sym n) (zero_known own);
        refused = λ q t d o. absurd (away_fine (sym o ∙ e));
        short = (λ z. absurd (omega (arith, z, n)), long_ten);
        others = λ o _. absurd (o n);
        succeeded = λ _. (a, w, e, r, i);
        of_text = λ z. absurd (true≢false (sym zero_textless ∙ subst (λ (c : ℕ). textless c ≡ false) n z));
        of_none = λ _. (ap (λ (y : Exit). y.text) i, ap (λ (y : Exit). y.line) i);
        unchanged = λ o. absurd (o n);
        early = λ b c. absurd (omega (arith, b, n));
        late = λ b. absurd (omega (arith, b, n));
        lengths = (
          ap (λ (y : Exit). map length y.lent.lists) i ∙ filled_lengths w.circuits m.lists h,
          ap (λ (y : Exit). length y.lent.area) i ∙ length-append w.text (drop (length w.text) m.area) ∙ omega (arith, l, length-drop (length w.text) m.area),
        );
      }

  -- the numbers of a job that keeps the habits, and what each leaves
  pub numbered : Numbered own k v Right m x
  numbered = go v refl j.judged
    where
      by : (a : A) (w : Answer) → v ≡ fine a → Right a w → Answerable (Right a) m → Put w m x → Numbered own k v Right m x
      by a w e r h (longer l i) = by_long a w e r l (refusal_is ShortAnswer 0 0 m i)
      by a w e r h (holds l i) = by_success a w e r (h.fits w r) l i

      go : (u : Judgement A) → v ≡ u → Yields (Regular own k) (λ a. Answerable (Right a) m) u → Numbered own k v Right m x
      go (away r t l) e (refuses p) = by_refused r t l e p (refusal_is r t l m (says_away v Right m s e))
      go (fine a) e (ends h) = let z = says_fine v Right m s e in by a z.0 e z.1 h (subst (Put z.0 m) (sym z.2) (put z.0 m))
