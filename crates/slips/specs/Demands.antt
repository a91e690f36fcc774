-- What is to be shown of slip, in the papers' words: the numbers by document 01's table and document 02's order 9, what refusals and success leave,
-- that what is accepted is linked, that accepted slips compose, and that some slip leads to the reduced list. Assumes nothing.
use Rattle.std.specs.Prelude.{ℕ, ◌+◌, ◌≤◌, ◌≡◌, ◌↔◌, ◌≢◌, List, [], ◌∷◌, ◌++◌, length}
use Rattle.gates.specs.declared.Gate.{Gate}
use Rattle.gates.specs.Circuit.{Linked}
use Rattle.gates.specs.Reduced.{Reduced}
use Rattle.text.specs.declared.Head.{Head}
use Rattle.text.specs.declared.Kind.TheVariants.{Circuit}
use Rattle.stepping.specs.Slip.{SlipStep, ends_at, run, FirstRefused}
use Rattle.sliptext.specs.Demands.{AcceptsSlip, RefusesSlip}
use Rattle.habits.specs.Habits.{Exit}
use Rattle.habits.specs.Demands.{Refuses, Accepts, RefusalLeaves, Holds}
use Rattle.slips.specs.Slip.{Slip}

-- ---- the numbers, and what is left

-- all three texts are read without refusal: the text s with the list l, the slip t, the text u with the list m
pub record Read (s : List ℕ) (l : List Gate) (t u : List ℕ) (m : List Gate) (g : Head) (c : List Gate) (ss : List SlipStep) (h : Head) (d : List Gate) : Type 0 where
  pub first : Accepts Circuit s (length l ∷ []) g c
  pub slip : AcceptsSlip t ss
  pub second : Accepts Circuit u (length m ∷ []) h d

-- "each step is allowed on the circuit so far and the last circuit is the second, gate for gate", "on the same line count"
pub record Accepted (s : List ℕ) (l : List Gate) (t u : List ℕ) (m : List Gate) (g : Head) (c : List Gate) (ss : List SlipStep) (h : Head) (d : List Gate) : Type 0 where
  pub read : Read s l t u m g c ss h d
  pub lines : g.lines ≡ h.lines
  pub ends : run ss c ≡ ends_at d

-- the table: number, line and text number
pub data Due (s : List ℕ) (l : List Gate) (t u : List ℕ) (m : List Gate) : ℕ → ℕ → ℕ → Type 0 where
  -- "Several texts are judged in the order in which the job takes them"
  by_first : {n i : ℕ} → Refuses Circuit s (length l ∷ []) n i → Due s l t u m n i 1
  by_slip : {n i : ℕ} {g : Head} {c : List Gate} → Accepts Circuit s (length l ∷ []) g c → RefusesSlip t n i → Due s l t u m n i 2
  by_second : {n i : ℕ} {g : Head} {c : List Gate} {ss : List SlipStep} → Accepts Circuit s (length l ∷ []) g c → AcceptsSlip t ss → Refuses Circuit u (length m ∷ []) n i → Due s l t u m n i 3
  -- "Differing line counts give 11, before any step"
  different_lines : {g h : Head} {c d : List Gate} {ss : List SlipStep} → Read s l t u m g c ss h d → g.lines ≢ h.lines → Due s l t u m 11 0 0
  -- "12, a step not allowed, at its slip line"
  not_allowed : {g h : Head} {c d : List Gate} {ss : List SlipStep} {i : ℕ} → Read s l t u m g c ss h d → g.lines ≡ h.lines → FirstRefused 1 ss c i → Due s l t u m 12 i 2
  -- "13, the slip ends at another circuit, line 0"
  other_end : {g h : Head} {c d e : List Gate} {ss : List SlipStep} → Read s l t u m g c ss h d → g.lines ≡ h.lines → run ss c ≡ ends_at e → e ≢ d → Due s l t u m 13 0 0
  -- success: number 0, line 0, text number 0
  no_refusal : {g h : Head} {c d : List Gate} {ss : List SlipStep} → Accepted s l t u m g c ss h d → Due s l t u m 0 0 0

-- what success leaves of the lists l and m, where the second circuit is d: "the first list holds the circuit that the steps ended at, the second the
-- second circuit"
pub record SuccessLeaves (l m d : List Gate) (x : Exit) : Type 0 where
  pub list_1 : List Gate
  pub list_2 : List Gate
  pub lists : x.lent.lists ≡ list_1 ∷ list_2 ∷ []
  pub holds_1 : Holds d l list_1
  pub holds_2 : Holds d m list_2
  pub countless : x.count ≡ 0

pub record Demand (s : List ℕ) (l : List Gate) (t u : List ℕ) (m : List Gate) (x : Exit) : Type 0 where
  -- a number is given, with its line and its text number, exactly if the table says so
  pub by_table : (n i v : ℕ) → ((x.number ≡ n) × (x.line ≡ i) × (x.text ≡ v)) ↔ Due s l t u m n i v
  -- "It is accepted exactly when"
  pub accepted : (x.number ≡ 0) ↔ ((g : Head) × (c : List Gate) × (ss : List SlipStep) × (h : Head) × (d : List Gate) × Accepted s l t u m g c ss h d)
  pub refusal_leaves : 1 ≤ x.number → RefusalLeaves l m x
  pub success_leaves : x.number ≡ 0 → (g : Head) × (c : List Gate) × (ss : List SlipStep) × (h : Head) × (d : List Gate) × Accepted s l t u m g c ss h d × SuccessLeaves l m d x

-- ---- what is accepted

-- whatever lists of at least 4,096 records are lent, the slip t is accepted from the text s to the text u
unfoldable pub Leads : (s t u : List ℕ) → Type 0
Leads s t u = (l m : List Gate) (x : Exit) → 4096 ≤ length l → 4096 ≤ length m → Slip s l t u m x → x.number ≡ 0

pub record Slips : Type 0 where
  -- it does not depend on the lists
  pub any_lists : (s t u : List ℕ) (l m : List Gate) (x : Exit) → Slip s l t u m x → x.number ≡ 0 → Leads s t u
  -- "What is accepted is linked"
  pub linked : {s t u : List ℕ} {l m : List Gate} {g h : Head} {c d : List Gate} {ss : List SlipStep} → Accepted s l t u m g c ss h d → Linked g.lines c d
  -- a slip from a to b and one from b to c, one after the other, is one from a to c where its length allows
  pub compose : (s t u t' w : List ℕ) {ss ss' : List SlipStep} → Leads s t u → Leads u t' w → AcceptsSlip t ss → AcceptsSlip t' ss' → length ss + length ss' ≤ 4096 → Leads s (t ++ t') w
  -- "from every circuit some list of forward passes and merges, of whatever length, leads to its reduced list": these steps are accepted from a text
  -- of the circuit to one of its reduced list, in every slip that has them
  pub reduced : {s u rooms rooms' : List ℕ} {g h : Head} {c r : List Gate} → Accepts Circuit s rooms g c → Accepts Circuit u rooms' h r → g.lines ≡ h.lines → Reduced g.lines c r
      → (ss : List SlipStep) × (run ss c ≡ ends_at r) × ((t : List ℕ) → AcceptsSlip t ss → Leads s t u)
