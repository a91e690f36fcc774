-- What is to be shown of join, in the papers' words: the numbers by document 01's table and document 02's order 7, what refusals and success leave,
-- that the list given is the reduced list of the plain join, and that a circuit joined with its inverse gives no gates. Assumes nothing.
use Rattle.std.specs.Prelude.{ℕ, ◌+◌, ◌-◌, ◌≤◌, ◌<◌, ◌≡◌, ◌↔◌, ◌≢◌, List, [], ◌∷◌, ◌++◌, length, take, drop, replicate}
use Rattle.gates.specs.declared.Gate.{Gate}
use Rattle.gates.specs.declared.Gate.TheVariants.{Not}
use Rattle.gates.specs.Circuit.{Linked}
use Rattle.gates.specs.Inverse.{inverse}
use Rattle.gates.specs.Reduced.{Reduced}
use Rattle.meaning.specs.State.{SameMatrix}
use Rattle.text.specs.Heads.{unkept}
use Rattle.text.specs.declared.Head.{Head}
use Rattle.text.specs.declared.Kind.TheVariants.{Circuit}
use Rattle.text.specs.Text.{circuit_text}
use Rattle.text.specs.Judging.{accepted, judge}
use Rattle.habits.specs.Habits.{Exit}
use Rattle.habits.specs.Demands.{Refuses, Accepts}
use Rattle.jobs.specs.Jobs as jobs
use Rattle.jobs.specs.Habits.{Keeps}
use Rattle.inversion.specs.Invert.{Invert}
use Rattle.joins.specs.Join.{Join}

-- ---- the numbers, and what is left

-- both texts are read without refusal: the text s with the list l, and the text t, to which no list belongs
pub record Read (s : List ℕ) (l : List Gate) (t : List ℕ) (g : Head) (c : List Gate) (h : Head) (d : List Gate) : Type 0 where
  pub first : Accepts Circuit s (length l ∷ []) g c
  pub second : Accepts Circuit t [] h d

-- and joined: they have the same lines, and together at most 4,096 gates; r is the reduced list of the plain join
pub record Joins (s : List ℕ) (l : List Gate) (t : List ℕ) (g : Head) (c d r : List Gate) : Type 0 where
  pub read : Read s l t g c g d
  pub few : length c + length d ≤ 4096
  pub reduced : Reduced g.lines (c ++ d) r

-- the table: number, line and text number, for the texts s and t, the list l and the area a
pub data Due (s : List ℕ) (l : List Gate) (t a : List ℕ) : ℕ → ℕ → ℕ → Type 0 where
  -- "Several texts are judged in the order in which the job takes them"; "A sole gate list is judged with the first text"
  by_first : {n i : ℕ} → Refuses Circuit s (length l ∷ []) n i → Due s l t a n i 1
  by_second : {n i : ℕ} {g : Head} {c : List Gate} → Accepts Circuit s (length l ∷ []) g c → Refuses Circuit t [] n i → Due s l t a n i 2
  -- "11, different line counts, line 0, once both texts have been read without refusal and before the join's own 9"
  different_lines : {g h : Head} {c d : List Gate} → Read s l t g c h d → g.lines ≢ h.lines → Due s l t a 11 0 0
  -- "A join whose gates together pass 4,096 before reduction is refused by 9 at the first gate over, with the second text's line"
  too_many : {g : Head} {c d : List Gate} → Read s l t g c g d → 4096 < length c + length d → Due s l t a 9 (4096 - length c + 2) 2
  -- "Rule 10 covers every answer area and comes last"
  short_answer : {g : Head} {c d r : List Gate} → Joins s l t g c d r → length a < length (circuit_text g.lines r) → Due s l t a 10 0 0
  -- success: number 0, line 0, text number 0
  no_refusal : {g : Head} {c d r : List Gate} → Joins s l t g c d r → length (circuit_text g.lines r) ≤ length a → Due s l t a 0 0 0

-- what a refusal leaves
pub record RefusalLeaves (l : List Gate) (a : List ℕ) (x : Exit) : Type 0 where
  -- "A refusal returns its number, its line and count 0. It leaves the answer area unchanged"
  pub countless : x.count ≡ 0
  pub unchanged : x.lent.area ≡ a
  -- "1 and 2 leave every lent list unchanged, any other refusal leaves `not 0` throughout"
  pub early : x.number ≤ 2 → x.lent.lists ≡ l ∷ []
  pub late : 3 ≤ x.number → x.lent.lists ≡ replicate (length l) (Not 0) ∷ []

-- what success leaves, with the reduced list r of a join on n lines
pub record SuccessLeaves (l : List Gate) (a : List ℕ) (n : ℕ) (r : List Gate) (x : Exit) : Type 0 where
  -- the gate list holds first the reduced list, "then `not 0`"
  pub list : List Gate
  pub lists : x.lent.lists ≡ list ∷ []
  pub list_first : take (length r) list ≡ r
  pub list_later : drop (length r) list ≡ replicate (length l - length r) (Not 0)
  -- "The answer area holds that list as a circuit text .. at its front, its other bytes unchanged"; the count is its bytes
  pub counted : x.count ≡ length (circuit_text n r)
  pub area_text : take x.count x.lent.area ≡ circuit_text n r
  pub area_others : drop x.count x.lent.area ≡ drop x.count a

pub record Demand (s : List ℕ) (l : List Gate) (t a : List ℕ) (x : Exit) : Type 0 where
  -- a number is given, with its line and its text number, exactly if the table says so
  pub by_table : (n i u : ℕ) → ((x.number ≡ n) × (x.line ≡ i) × (x.text ≡ u)) ↔ Due s l t a n i u
  pub refusal_leaves : 1 ≤ x.number → RefusalLeaves l a x
  pub success_leaves : x.number ≡ 0 → (g : Head) × (c : List Gate) × (d : List Gate) × (r : List Gate) × Joins s l t g c d r × SuccessLeaves l a g.lines r x

-- "9 at the first gate over": line i of the second text, with the circuit d behind the circuit c; the gates of the lines before it make 4,096
-- together with c, and its own is one more
pub record FirstOver (c d : List Gate) (i : ℕ) : Type 0 where
  pub within : length (c ++ take (i - 2) d) ≡ 4096
  pub over : length (c ++ take (i - 1) d) ≡ 4097

-- ---- the list that join gives

-- a run on two texts with the circuits c and d of n lines that no rule but 10 refuses, and the list r that is given, or that only rule 10 withholds
pub record Ran (n : ℕ) (c d r : List Gate) : Type 0 where
  pub first : List ℕ
  pub list : List Gate
  pub second : List ℕ
  pub area : List ℕ
  pub exit : Exit
  pub says : Join first list second area exit
  pub read : Read first list second (unkept n) c (unkept n) d
  pub few : length c + length d ≤ 4096
  pub given : exit.number ≡ 0 → judge Circuit (take exit.count exit.lent.area) ≡ accepted (unkept n) r
  pub withheld : exit.number ≡ 10 → Reduced n (c ++ d) r

pub record Lists {n : ℕ} {c d r : List Gate} (a : Ran n c d r) : Type 0 where
  -- it is the reduced list of the plain join, and has its matrix
  pub reduced : Reduced n (c ++ d) r
  pub matrix : SameMatrix n r (c ++ d)

-- join answers as reduce, by the habits, answers the text of the plain join of c and d on n lines, whatever area is lent: number, line, count, every
-- record and every byte
unfoldable pub AnsweredAs : (s : List ℕ) (l : List Gate) (t : List ℕ) (n : ℕ) (c d : List Gate) → Type 0
AnsweredAs s l t n c d = (a : List ℕ) (x : Exit) → Join s l t a x ↔ Keeps jobs.reducing (record { text = circuit_text n (c ++ d); list = l; area = a }) x

-- ---- a circuit and its inverse

-- the exit tells of no gates, on n lines: the text is line 1 alone, and every record of the list l is `not 0`
pub record NoGates (n : ℕ) (l : List Gate) (x : Exit) : Type 0 where
  pub text : take x.count x.lent.area ≡ circuit_text n []
  pub list : x.lent.lists ≡ replicate (length l) (Not 0) ∷ []

-- "Joining a circuit with its inverse, either way round, gives no gates wherever the join isn't refused"
pub record Cancels (n : ℕ) (s t : List ℕ) : Type 0 where
  pub after : (l : List Gate) (a : List ℕ) (x : Exit) → Join s l t a x → x.number ≡ 0 → NoGates n l x
  pub before : (l : List Gate) (a : List ℕ) (x : Exit) → Join t l s a x → x.number ≡ 0 → NoGates n l x

pub record Undone : Type 0 where
  -- of any two texts of which one shows a circuit that is linked to the inverse of the other's
  pub linked : {n : ℕ} {c d : List Gate} (s t : List ℕ) → judge Circuit s ≡ accepted (unkept n) c → judge Circuit t ≡ accepted (unkept n) d → Linked n (inverse c) d → Cancels n s t
  -- so of a text and the one that invert answers for it
  pub answered : (e : jobs.Entry) (y : jobs.Exit) → Invert e y → y.number ≡ 0 → (h : Head) × (c : List Gate) × (judge Circuit e.text ≡ accepted h c) × Cancels h.lines e.text (take y.bytes y.area)
