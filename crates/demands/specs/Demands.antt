-- The three demands, as statements about what the jobs say. Assumes nothing.
use Rattle.std.specs.Prelude.{ℕ, ◌-◌, ◌≤◌, ◌<◌, ◌≡◌, ◌↔◌, ◌≢◌, true, List, [], ◌∷◌, ◌++◌, map, length, take, drop, replicate}
use Rattle.gates.specs.declared.Gate.{Gate}
use Rattle.gates.specs.declared.Gate.TheVariants.{Not}
use Rattle.gates.specs.Every.{Every}
use Rattle.gates.specs.Circuit.{Linked}
use Rattle.gates.specs.Reduced.{Reduced}
use Rattle.meaning.specs.Pattern.{Pattern, has}
use Rattle.meaning.specs.Amplitude.{nought}
use Rattle.meaning.specs.State.{basis, run, SameMatrix}
use Rattle.cascades.specs.Cascade.{Controlled, after, expand_all, Realises}
use Rattle.cascades.specs.Touching.{Touches, Touched, Named}
use Rattle.text.specs.declared.Head.{Head}
use Rattle.text.specs.Heads.{kept_lines, unkept}
use Rattle.text.specs.Text.{lines, gate, as_forms, head_forms, AllProper, cascade_text, circuit_text}
use Rattle.text.specs.declared.Kind.{Kind}
use Rattle.text.specs.declared.Kind.TheVariants.{Cascade, Circuit}
use Rattle.text.specs.Judging.{accepted, judge}
use Rattle.habits.specs.Demands.{Sized, Refuses, Accepts}
use Rattle.jobs.specs.Jobs.{Job, takes, Output, as_text, as_count, wanted, Entry, Exit, judged, Says}

-- ---- the list that a job gives

-- "The list that map or reduce gives is the gates of its answer text, in order; the one that quote gives is the first records of its gate
-- list, as many as the gates it counts"
unfoldable pub Gives : Output → ℕ → Exit → List Gate → Type 0
Gives as_text n x r = judge Circuit (take x.bytes x.area) ≡ accepted (unkept n) r
Gives as_count n x r = take x.gates x.list ≡ r

-- of an accepted text, the list given; "For a text that only rule 10 refuses, the same holds of the reduced list that these definitions give
-- its circuit"
pub data Listed (o : Output) (n : ℕ) (c : List Gate) (x : Exit) (r : List Gate) : Type 0 where
  given : x.number ≡ 0 → Gives o n x r → Listed o n c x r
  withheld : x.number ≡ 10 → Reduced n c r → Listed o n c x r

-- a run of either job on a text of n lines that rules 1 to 9 let pass: its circuit c, read or expanded, and its list r
pub record Ran (n : ℕ) (c r : List Gate) : Type 0 where
  pub job : Job
  pub entry : Entry
  pub exit : Exit
  pub head : Head
  pub says : Says job entry exit
  pub passed : judged (takes job) entry ≡ accepted head c
  pub lines : head.lines ≡ n
  pub listed : Listed (wanted job entry) n c exit r

-- ---- demand 1: every call answers, and the numbers are the table's

-- the text that rules 1 to 9 let pass: its head, and "the reduced list of the circuit read or expanded"
pub record Yields (j : Job) (e : Entry) (h : Head) (r : List Gate) : Type 0 where
  pub circuit : List Gate
  pub accepts : Accepts (takes j) e.text (length e.list ∷ []) h circuit
  pub reduced : Reduced h.lines circuit r

-- the table of numbers, "Given exactly if", each with its line
pub data Due (j : Job) (e : Entry) : ℕ → ℕ → Type 0 where
  -- 1 to 9: by the table of one text (crate habits), with which the gate list is judged
  refused : {n l : ℕ} → Refuses (takes j) e.text (length e.list ∷ []) n l → Due j e n l
  -- "map or reduce: answer text longer than its area": "Then 10, line 0"
  short_answer : (h : Head) (r : List Gate) → Yields j e h r → wanted j e ≡ as_text → length e.area < length (circuit_text h.lines r) → Due j e 10 0
  -- success: "Number 0, line 0"
  no_refusal : (h : Head) (r : List Gate) → Yields j e h r → (wanted j e ≡ as_text → length (circuit_text h.lines r) ≤ length e.area) → Due j e 0 0

-- what a refusal leaves
pub record RefusalLeaves (e : Entry) (x : Exit) : Type 0 where
  -- "A refusal returns its number, its line and count 0"
  pub countless : (x.gates ≡ 0) × (x.bytes ≡ 0)
  -- "It leaves the answer area unchanged"
  pub unchanged : x.area ≡ e.area
  -- "Numbers 1 and 2 leave the gate list unchanged; the others leave `not 0` in every record"
  pub early : x.number ≤ 2 → x.list ≡ e.list
  pub late : 3 ≤ x.number → x.list ≡ replicate (length e.list) (Not 0)

-- what success leaves, with the reduced list r below the head h
pub record SuccessLeaves (j : Job) (e : Entry) (x : Exit) (h : Head) (r : List Gate) : Type 0 where
  -- "On success the gate list holds first the reduced list of the circuit read or expanded, and `not 0` in every later record"
  pub list_first : take (length r) x.list ≡ r
  pub list_later : drop (length r) x.list ≡ replicate (length e.list - length r) (Not 0)
  -- "returns gates and bytes"
  pub gates_counted : x.gates ≡ length r
  pub bytes_written : wanted j e ≡ as_text → x.bytes ≡ length (circuit_text h.lines r)
  -- "The answer area holds that list as a circuit text, with the n of the text read, at its front, its other bytes unchanged"
  pub area_text : wanted j e ≡ as_text → take x.bytes x.area ≡ circuit_text h.lines r
  pub area_others : drop x.bytes x.area ≡ drop x.bytes e.area
  -- "an answer area of length 0 means quote only": no byte is written
  pub none_written : wanted j e ≡ as_count → x.bytes ≡ 0

pub record Demand1 (j : Job) (e : Entry) (x : Exit) : Type 0 where
  -- a number is given, with its line, exactly if the table says so
  pub by_table : (n l : ℕ) → ((x.number ≡ n) × (x.line ≡ l)) ↔ Due j e n l
  -- "an empty text gives line 1"
  pub empty : Sized e.text (length e.list ∷ []) → e.text ≡ [] → (x.number ≡ 3) × (x.line ≡ 1)
  pub refusal_leaves : 1 ≤ x.number → RefusalLeaves e x
  pub success_leaves : x.number ≡ 0 → (h : Head) × (r : List Gate) × Yields j e h r × SuccessLeaves j e x h r
  -- as many records and bytes as were lent
  pub lengths : (length x.list ≡ length e.list) × (length x.area ≡ length e.area)

-- ---- demand 2: the list does what the cascade does, from every pattern

-- what the kept lines of a cascade gs on n lines have from its expansion c and from its list r (document 02, order 8)
pub record KeptLines (n : ℕ) (kept : List ℕ) (gs : List Controlled) (c r : List Gate) : Type 0 where
  -- "The list written touches a kept line only if some mct names it", and so does the expansion
  pub expansion_touches : (i : ℕ) → has i kept ≡ true → Touched c i → Named gs i
  pub list_touches : (i : ℕ) → has i kept ≡ true → Touched r i → Named gs i
  -- so of a kept line that no mct names: no gate of the list acts on it or is controlled by it,
  pub untouched : (i : ℕ) → has i kept ≡ true → (Named gs i → ⊥) → Every (λ g. Touches g i → ⊥) r
  -- it has its old bit at the cascade's pattern, from every start pattern, and no pattern with another bit has a share
  pub old_bit : (i : ℕ) → has i kept ≡ true → (Named gs i → ⊥) → (y : Pattern) → after gs y i ≡ y i
  pub undisturbed : (i : ℕ) → i < n → has i kept ≡ true → (Named gs i → ⊥) → (y x : Pattern) → x i ≢ y i → run r (basis n y) x ≡ nought

-- the cascade that a text shows, on n lines with these kept ones; the circuit c and the list r of a run on the text
pub record ShownCascade (n : ℕ) (kept s : List ℕ) (c r : List Gate) : Type 0 where
  pub cascade : List Controlled
  pub shown : s ≡ cascade_text n kept cascade
  -- the text shows no other cascade, on no other number of lines, with no other kept lines, whose numbers have one or two digits
  pub only : (m : ℕ) (l : List ℕ) (gs : List Controlled) → AllProper (head_forms m l ++ as_forms gs) → s ≡ cascade_text m l gs → (n ≡ m) × (kept ≡ l) × (cascade ≡ gs)
  -- the circuit is its expansion
  pub expanded : c ≡ expand_all n kept cascade
  -- from each pattern the list ends in the cascade's pattern
  pub realised : Realises n cascade r
  pub keeps : KeptLines n kept cascade c r

-- the circuit c is the one that a text shows, on n lines, and no other
pub record ShownCircuit (n : ℕ) (s : List ℕ) (c : List Gate) : Type 0 where
  pub shown : s ≡ circuit_text n c
  pub only : (m : ℕ) (d : List Gate) → AllProper (lines m ∷ map gate d) → s ≡ circuit_text m d → (n ≡ m) × (c ≡ d)

-- what the text s of a run with circuit c and list r means: map takes a cascade text, with its kept lines, reduce a circuit text
unfoldable pub Meant : Kind → ℕ → List ℕ → List ℕ → List Gate → List Gate → Type 0
Meant Cascade n kept s c r = ShownCascade n kept s c r
Meant Circuit n kept s c r = ShownCircuit n s c

pub record Demand2 {n : ℕ} {c r : List Gate} (a : Ran n c r) : Type 0 where
  pub meant : Meant (takes a.job) n (kept_lines a.head) a.entry.text c r
  -- the list has the matrix of the circuit read or expanded
  pub matrix : SameMatrix n r c
  -- the quote is the list's number of gates
  pub counted : a.exit.number ≡ 0 → a.exit.gates ≡ length r

-- ---- demand 3: the lists given

-- two runs on the same number of lines
pub record Demand3 {n : ℕ} {c d r s : List Gate} (a : Ran n c r) (b : Ran n d s) : Type 0 where
  -- the lists are equal, gate for gate, exactly when a chain leads from one circuit to the other
  pub same : (r ≡ s) ↔ Linked n c d
  -- each is the reduced list of its circuit: linked to it, "of all circuits linked to it, one with the fewest gates, and among those the first
  -- in dictionary order"
  pub first : Reduced n c r
  pub second : Reduced n d s
