-- What is to be shown of a job over several texts, once for all of them: exactly one exit for every entry, and the numbers that it gives with
-- what each leaves; and when a text is refused, in document 01's words. Assumes nothing.
use Rattle.std.specs.Prelude.{ℕ, ◌-◌, ◌≤◌, ◌<◌, ◌≡◌, ◌↔◌, ◌≢◌, Bool, true, false, List, [], ◌∷◌, map, length, take, drop, replicate}
use Rattle.gates.specs.declared.Gate.{Gate}
use Rattle.gates.specs.declared.Gate.TheVariants.{Not}
use Rattle.gates.specs.Every.{Every}
use Rattle.meaning.specs.Pattern.{has}
use Rattle.text.specs.declared.Kind.{Kind}
use Rattle.text.specs.declared.Head.{Head}
use Rattle.text.specs.declared.Refusal.{Refusal}
use Rattle.text.specs.Refusals.{number_of}
use Rattle.text.specs.Judging.{turned_away, accepted, judge}
use Rattle.habits.specs.Habits.{Judgement, fine, away, Lent, Exit, Answer, cleared, success}

-- exactly one x with this property
abbrev pub One : {X : Type 0} → (X → Type 0) → Type 0
One {X} P = (x : X) × P x × ((y : X) → P y → y ≡ x)

-- ---- one text, with the gate lists judged with it, of so many records each

-- what rules 1 and 2 let pass
pub record Sized (s rooms : List ℕ) : Type 0 where
  pub small : length s ≤ 60000
  pub room : Every (λ records. 4096 ≤ records) rooms

-- the table's numbers for a text, "Given exactly if", each with its line
pub data Refuses (k : Kind) (s rooms : List ℕ) : ℕ → ℕ → Type 0 where
  -- "text over 60,000 bytes": "Rule 1 comes first, then 2, both with line 0"
  overlong : 60000 < length s → Refuses k s rooms 1 0
  -- "gate list under 4,096 records"
  short_list : length s ≤ 60000 → (Every (λ records. 4096 ≤ records) rooms → ⊥) → Refuses k s rooms 2 0
  -- "Then the lines in order, each whole line tried against 3 to 9 in that order; the first failing line, counted from 1, is returned"; document 02:
  -- "8 is now tried before 7"
  failing_line : (r : Refusal) (l : ℕ) → Sized s rooms → judge k s ≡ turned_away r l → 3 ≤ number_of r → number_of r ≤ 9 → 1 ≤ l → Refuses k s rooms (number_of r) l

-- a text that no rule refuses, with its head and its circuit
pub record Accepts (k : Kind) (s rooms : List ℕ) (h : Head) (c : List Gate) : Type 0 where
  pub sized : Sized s rooms
  pub judged : judge k s ≡ accepted h c

-- ---- the numbers of a job over several texts

-- the numbers of the rules for circuit texts, then the job's own
unfoldable pub numbers : List ℕ → List ℕ
numbers own = 1 ∷ 2 ∷ 3 ∷ 4 ∷ 5 ∷ 9 ∷ own

-- "0 on success and with 10, 11 and 13"
unfoldable pub textless : ℕ → Bool
textless n = has n (0 ∷ 10 ∷ 11 ∷ 13 ∷ [])

-- rule 10: what is right to answer has a text longer than the area
unfoldable pub TooLong : {A : Type 0} → Judgement A → (A → Answer → Type 0) → Lent → Type 0
TooLong {A} v Right m = (a : A) × (w : Answer) × (v ≡ fine a) × Right a w × (length m.area < length w.text)

-- of a job over so many texts with these numbers of its own, judged to be v: its exit x
pub record Numbered {A : Type 0} (own : List ℕ) (texts : ℕ) (v : Judgement A) (Right : A → Answer → Type 0) (m : Lent) (x : Exit) : Type 0 where
  -- no other number is given
  pub known : has x.number (0 ∷ numbers own) ≡ true
  -- a refusal by what was judged has its number, its line and its text number
  pub refused : (r : Refusal) (t l : ℕ) → v ≡ away r t l → (x.number ≡ number_of r) × (x.line ≡ l) × (x.text ≡ t)
  -- number 10 is given exactly if the answer's text is longer than its area
  pub short : (x.number ≡ 10) ↔ TooLong v Right m
  -- any other number but 0 is that of a refusal by what was judged
  pub others : x.number ≢ 0 → x.number ≢ 10 → (r : Refusal) × (t : ℕ) × (l : ℕ) × (v ≡ away r t l)
  -- number 0 is success with an answer that is right
  pub succeeded : x.number ≡ 0 → (a : A) × (w : Answer) × (v ≡ fine a) × Right a w × (x ≡ success w m)
  -- the text number is that of a text, and 0 exactly on success and with 10, 11 and 13, which have line 0
  pub of_text : textless x.number ≡ false → (1 ≤ x.text) × (x.text ≤ texts)
  pub of_none : textless x.number ≡ true → (x.text ≡ 0) × (x.line ≡ 0)
  -- "A refusal returns its number, its line and count 0. It leaves the answer area unchanged"
  pub unchanged : x.number ≢ 0 → (x.count ≡ 0) × (x.lent.area ≡ m.area)
  -- "1 and 2 leave every lent list unchanged, any other refusal leaves `not 0` throughout"; 1 and 2 have line 0
  pub early : 1 ≤ x.number → x.number ≤ 2 → (x.line ≡ 0) × (x.lent.lists ≡ m.lists)
  pub late : 3 ≤ x.number → x.lent.lists ≡ map cleared m.lists
  -- no list and no area changes its length
  pub lengths : (map length x.lent.lists ≡ map length m.lists) × (length x.lent.area ≡ length m.area)

-- ---- what a job over two gate lists leaves

-- a refusal
pub record RefusalLeaves (l m : List Gate) (x : Exit) : Type 0 where
  -- "A refusal returns its number, its line and count 0"
  pub countless : x.count ≡ 0
  -- "1 and 2 leave every lent list unchanged, any other refusal leaves `not 0` throughout"
  pub early : x.number ≤ 2 → x.lent.lists ≡ l ∷ m ∷ []
  pub late : 3 ≤ x.number → x.lent.lists ≡ replicate (length l) (Not 0) ∷ replicate (length m) (Not 0) ∷ []

-- the list l then holds first the list r, "then `not 0`"
pub record Holds (r l l' : List Gate) : Type 0 where
  pub first : take (length r) l' ≡ r
  pub later : drop (length r) l' ≡ replicate (length l - length r) (Not 0)
