-- What is to be shown of invert, in the papers' words: the numbers by document 01's table, what refusals and success leave, that the list given
-- undoes the circuit, and that the inverse of the inverse is the circuit's reduced list. Assumes nothing.
use Rattle.std.specs.Prelude.{ℕ, ◌≤◌, ◌<◌, ◌≡◌, ◌↔◌, List, [], ◌∷◌, ◌++◌, length, take}
use Rattle.gates.specs.declared.Gate.{Gate}
use Rattle.gates.specs.Circuit.{Linked}
use Rattle.gates.specs.Inverse.{inverse}
use Rattle.gates.specs.Reduced.{Reduced}
use Rattle.meaning.specs.Amplitude.{doubled}
use Rattle.meaning.specs.Pattern.{Pattern}
use Rattle.meaning.specs.State.{basis, run, powered_gates}
use Rattle.text.specs.declared.Head.{Head}
use Rattle.text.specs.declared.Kind.TheVariants.{Circuit}
use Rattle.text.specs.Heads.{unkept}
use Rattle.text.specs.Text.{circuit_text}
use Rattle.text.specs.Judging.{accepted, judge}
use Rattle.habits.specs.Demands.{Refuses, Accepts}
use Rattle.jobs.specs.Jobs.{reducing, as_text, Entry, Exit, Says}
use Rattle.demands.specs.Demands.{Listed, RefusalLeaves, SuccessLeaves, ShownCircuit}
use Rattle.inversion.specs.Invert.{Invert}

-- ---- the numbers, and what is left

-- a text that rules 1 to 9 let pass: its head, its circuit c, and the reduced list r of the inverse
pub record Inverts (e : Entry) (h : Head) (c r : List Gate) : Type 0 where
  pub accepts : Accepts Circuit e.text (length e.list ∷ []) h c
  pub reduced : Reduced h.lines (inverse c) r

-- the table of numbers, "Given exactly if", each with its line
pub data Due (e : Entry) : ℕ → ℕ → Type 0 where
  -- 1 to 9: by the table of one text
  refused : {n l : ℕ} → Refuses Circuit e.text (length e.list ∷ []) n l → Due e n l
  -- "answer text longer than its area": "Then 10, line 0"
  short_answer : (h : Head) (c r : List Gate) → Inverts e h c r → length e.area < length (circuit_text h.lines r) → Due e 10 0
  -- success: "Number 0, line 0"
  no_refusal : (h : Head) (c r : List Gate) → Inverts e h c r → length (circuit_text h.lines r) ≤ length e.area → Due e 0 0

pub record Demand (e : Entry) (x : Exit) : Type 0 where
  -- a number is given, with its line, exactly if the table says so
  pub by_table : (n l : ℕ) → ((x.number ≡ n) × (x.line ≡ l)) ↔ Due e n l
  pub refusal_leaves : 1 ≤ x.number → RefusalLeaves e x
  pub success_leaves : x.number ≡ 0 → (h : Head) × (c : List Gate) × (r : List Gate) × Inverts e h c r × SuccessLeaves reducing e x h r
  -- as many records and bytes as were lent
  pub lengths : (length x.list ≡ length e.list) × (length x.area ≡ length e.area)

-- ---- the list that invert gives

-- a run on a text of n lines that rules 1 to 9 let pass: its circuit c, and the list r that is given, or that only rule 10 withholds
pub record Ran (n : ℕ) (c r : List Gate) : Type 0 where
  pub entry : Entry
  pub exit : Exit
  pub says : Invert entry exit
  pub accepts : Accepts Circuit entry.text (length entry.list ∷ []) (unkept n) c
  pub listed : Listed as_text n (inverse c) exit r

-- a circuit that leaves every start pattern of n lines as it was: "After m powered gates amplitude 1 is the number 2^m"
unfoldable pub Unmoved : ℕ → List Gate → Type 0
Unmoved n c = (y x : Pattern) → run c (basis n y) x ≡ doubled (powered_gates c) (basis n y x)

-- "Customers uncompute what they computed": the circuit c and then the list r, and the list and then the circuit
pub record Undoes (n : ℕ) (c r : List Gate) : Type 0 where
  pub after : Unmoved n (c ++ r)
  pub before : Unmoved n (r ++ c)

pub record Lists {n : ℕ} {c r : List Gate} (a : Ran n c r) : Type 0 where
  -- the text shows the circuit, and no other
  pub shown : ShownCircuit n a.entry.text c
  -- "reverses a circuit and exchanges v and vp, then reduces it"
  pub reduced : Reduced n (inverse c) r
  pub undoes : Undoes n c r
  -- the gates that are told are the list's; it has as many as the circuit's own reduced list
  pub counted : a.exit.number ≡ 0 → a.exit.gates ≡ length r
  pub as_many : {q : List Gate} → Reduced n c q → length q ≡ length r

-- ---- the inverse of the inverse

-- invert answers the text t as reduce answers the text s, whatever is lent: number, line, gates, bytes, every record and every byte
unfoldable pub AnsweredAs : (s t : List ℕ) → Type 0
AnsweredAs s t = (l : List Gate) (a : List ℕ) (x : Exit) → Invert (record { text = t; list = l; area = a }) x ↔ Says reducing (record { text = s; list = l; area = a }) x

-- "the inverse of the inverse is the circuit's reduced list"
pub record Twice : Type 0 where
  -- of any text that shows a circuit linked to the inverse of the other's
  pub linked : {n : ℕ} {c d : List Gate} (s t : List ℕ) → judge Circuit s ≡ accepted (unkept n) c → judge Circuit t ≡ accepted (unkept n) d → Linked n (inverse c) d → AnsweredAs s t
  -- so of the text that invert answers for the other
  pub answered : (e : Entry) (y : Exit) → Invert e y → y.number ≡ 0 → AnsweredAs e.text (take y.bytes y.area)
