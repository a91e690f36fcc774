-- The habits that every job keeps (document 01, "Lent memory and the ten numbers"; "Jobs added later keep these habits"), over any number of texts
-- and gate lists: judging in order, what a refusal leaves, what success leaves. Assumes nothing.
use Rattle.std.specs.Prelude.{ℕ, ◌-◌, ◌≡◌, Bool, cond, List, [], ◌∷◌, ◌++◌, map, length, drop, replicate, leb, ltb}
use Rattle.gates.specs.declared.Gate.{Gate}
use Rattle.gates.specs.declared.Gate.TheVariants.{Not}
use Rattle.text.specs.declared.Kind.{Kind}
use Rattle.text.specs.declared.Refusal.{Refusal}
use Rattle.text.specs.declared.Refusal.TheVariants.{Overlong, ShortList, ShortAnswer}
use Rattle.text.specs.Refusals.{number_of}
use Rattle.text.specs.Judging.{Judged, turned_away, accepted, Found, sound, breaks, Rule, rule, first, judge}

-- ---- judging in order

-- what was judged so far: nothing is refused, and this was read or made; or a refusal, with its text number and its line
pub data Judgement (A : Type 0) : Type 0 where
  fine : A → Judgement A
  away : Refusal → (text line : ℕ) → Judgement A

-- "Several texts are judged in the order in which the job takes them": what comes next is judged only where nothing was refused before
infixr 20 ◌then◌
abbrev pub ◌then◌ : {A B : Type 0} → Judgement A → (A → Judgement B) → Judgement B
fine a then f = f a
away r t l then f = away r t l

-- rules tried in order: their refusal is of this text number and line
unfoldable pub passes : Found → (text line : ℕ) → Judgement (Unit {0})
passes sound t l = fine tt
passes (breaks r) t l = away r t l

-- a rule of the job's own: where it is broken, the refusal is of this text number and line
unfoldable pub require : Bool → Refusal → (text line : ℕ) → Judgement (Unit {0})
require b r t l = cond b (fine tt) (away r t l)

-- rule 1 for a text of this size, then rule 2 for each gate list that is judged with it, of so many records: "A sole gate list is judged with the
-- first text, each of several with its own text"
unfoldable pub size_rules : ℕ → List ℕ → List Rule
size_rules size rooms = rule Overlong (ltb 60000 size) ∷ map (λ records. rule ShortList (ltb records 4096)) rooms

-- the text s of number t with the lists judged with it: "Rule 1 comes first, then 2, both with line 0", then what its lines are judged to be
unfoldable pub taken : {A : Type 0} → (text : ℕ) → List ℕ → List ℕ → Judgement A → Judgement A
taken t s rooms v = passes (first (size_rules (length s) rooms)) t 0 then λ _. v

-- a circuit, read or expanded, with its number of lines
pub record Circuit : Type 0 where
  pub lines : ℕ
  pub gates : List Gate

-- what the lines of the text of number t are judged to be
unfoldable pub told : (text : ℕ) → Judged → Judgement Circuit
told t (turned_away r l) = away r t l
told t (accepted h c) = fine (record { lines = h.lines; gates = c })

-- the text s of number t and of this kind, with which gate lists of so many records are judged
unfoldable pub text_judged : (text : ℕ) → Kind → List ℕ → List ℕ → Judgement Circuit
text_judged t k s rooms = taken t s rooms (told t (judge k s))

-- ---- memory lent, and what comes back

-- the gate lists in order, and the answer area, empty where the job has none
pub record Lent : Type 0 where
  pub lists : List (List Gate)
  pub area : List ℕ

-- "A job over several texts also returns a text number"
pub record Exit : Type 0 where
  pub number : ℕ
  pub line : ℕ
  pub text : ℕ
  pub count : ℕ
  pub lent : Lent

-- ---- a refusal

-- `not 0` in every record
abbrev pub cleared : List Gate → List Gate
cleared l = replicate (length l) (Not 0)

-- "Numbers 1 and 2 leave the gate list unchanged; the others leave `not 0` in every record"; document 02: "1 and 2 leave every lent list
-- unchanged, any other refusal leaves `not 0` throughout"
unfoldable pub left : Refusal → List Gate → List Gate
left r l = cond (leb (number_of r) 2) l (cleared l)

-- "A refusal returns its number, its line and count 0. It leaves the answer area unchanged"
unfoldable pub refusal : Refusal → (text line : ℕ) → Lent → Exit
refusal r t l m = record { number = number_of r; line = l; text = t; count = 0; lent = record { lists = map (left r) m.lists; area = m.area } }

-- ---- success

-- the count; the circuit that each list holds, in order; the bytes that stand at the front of the answer area, none where the job writes none
pub record Answer : Type 0 where
  pub count : ℕ
  pub circuits : List (List Gate)
  pub text : List ℕ

-- "a list holds the last circuit that the job made in it .., then `not 0`"
unfoldable pub filled : List Gate → List Gate → List Gate
filled c l = c ++ replicate (length l - length c) (Not 0)

-- each list its own circuit; there are as many lists as circuits
unfoldable pub all_filled : List (List Gate) → List (List Gate) → List (List Gate)
all_filled [] ls = ls
all_filled (c ∷ cs) [] = []
all_filled (c ∷ cs) (l ∷ ls) = filled c l ∷ all_filled cs ls

-- number 0, line 0, text number 0 and the count
unfoldable pub success : Answer → Lent → Exit
success w m = record { number = 0; line = 0; text = 0; count = w.count; lent = record { lists = all_filled w.circuits m.lists; area = w.text ++ drop (length w.text) m.area } }

-- "Rule 10 covers every answer area and comes last"
unfoldable pub answered : Answer → Lent → Exit
answered w m = cond (ltb (length m.area) (length w.text)) (refusal ShortAnswer 0 0 m) (success w m)

-- ---- what a job says

-- of the memory lent to it: the refusal, or an answer of those that are right for what was read
unfoldable pub Says : {A : Type 0} → Judgement A → (A → Answer → Type 0) → Lent → Exit → Type 0
Says (away r t l) Right m x = x ≡ refusal r t l m
Says (fine a) Right m x = (w : Answer) × Right a w × (x ≡ answered w m)
