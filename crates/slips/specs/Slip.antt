-- What slip says of a circuit text with its gate list, a slip, and a second circuit text with its gate list (document 02, order 9, "A slip that
-- goes with a reduction"): number, line, text number, count, and each record of both lists, for all inputs. Assumes nothing.
use Rattle.std.specs.Prelude.{ℕ, ◌≡◌, Bool, true, false, List, [], ◌∷◌, length, take, eqb, Result, Ok, Err}
use Rattle.gates.specs.declared.Gate.{Gate}
use Rattle.gates.specs.Code.{gates}
use Rattle.text.specs.declared.Head.{Head}
use Rattle.text.specs.declared.Kind.TheVariants as kind
use Rattle.text.specs.declared.Refusal.TheVariants.{DifferentLines, NotAllowed, OtherEnd}
use Rattle.std.specs.declared.cmp.Ordering.{Ordering}
use Rattle.std.specs.declared.cmp.Ordering.TheVariants.{Less, Equal, Greater}
use Rattle.text.specs.declared.TextRefused.{TextRefused}
use Rattle.ordering.specs.Comparing.{compare_gates, dictionary}
use Rattle.stepping.specs.Slip.{SlipStep, End, ends_at, refused_at, run}
use Rattle.stepping.specs.Stepped.{slip_steps}
use Rattle.sliptext.specs.SlipText.{slip_judged}
use Rattle.habits.specs.Habits.{Judgement, fine, away, ◌then◌, require, Circuit, text_judged, Exit, Answer, Says}
use Rattle.loading.specs.declared.Loaded.{Loaded}
use Rattle.loading.specs.Loaded.{Renderable}
use Rattle.records.specs.declared.DoneTwo.{DoneTwo}
use Rattle.jobs.specs.Handing.{HandsTwo}

-- how the steps end: at a circuit; "12, a step not allowed, at its slip line", the slip being text 2
unfoldable pub ended : End → Judgement (List Gate)
ended (ends_at e) = fine e
ended (refused_at l) = away NotAllowed 2 l

unfoldable pub is_equal : Ordering → Bool
is_equal Less = false
is_equal Equal = true
is_equal Greater = false

-- whether the one circuit is the other, "gate for gate"
unfoldable pub gate_for_gate : List Gate → List Gate → Bool
gate_for_gate c d = is_equal (dictionary compare_gates c d)

-- the circuit that the steps ended at, and the second: "13, the slip ends at another circuit, line 0"
unfoldable pub same_end : List Gate → List Gate → Judgement (List Gate × List Gate)
same_end e d = require (gate_for_gate e d) OtherEnd 0 0 then λ _. fine (e, d)

-- a circuit, a slip and a second circuit: "Differing line counts give 11, before any step"; then the steps; then where they end
unfoldable pub checked : Circuit → List SlipStep → Circuit → Judgement (List Gate × List Gate)
checked c ss d =
    require (eqb c.lines d.lines) DifferentLines 0 0 then λ _.
    ended (run ss c.gates) then λ e.
    same_end e d.gates

-- the text s with a list of k records, the slip t, the text u with a list of j records, and then their check
unfoldable pub judged : List ℕ → ℕ → List ℕ → List ℕ → ℕ → Judgement (List Gate × List Gate)
judged s k t u j =
    text_judged 1 kind.Circuit s (k ∷ []) then λ c.
    slip_judged 2 t then λ ss.
    text_judged 3 kind.Circuit u (j ∷ []) then λ d.
    checked c ss d

-- count 0; the first gate list holds the circuit that the steps ended at, the second one the second circuit
unfoldable pub Slipped : List Gate × List Gate → Answer → Type 0
Slipped (e, d) w = w ≡ record { count = 0; circuits = e ∷ d ∷ []; text = [] }

-- the contract: of the texts s, t and u and the lists l and m
unfoldable pub Slip : (s : List ℕ) (l : List Gate) (t u : List ℕ) (m : List Gate) → Exit → Type 0
Slip s l t u m x = Says (judged s (length l) t u (length m)) Slipped (record { lists = l ∷ m ∷ []; area = [] }) x

-- ---- what the functions beneath promise

-- the covered part, which is given only the lengths of the lists
abbrev pub Hands : List ℕ → ℕ → List ℕ → List ℕ → ℕ → DoneTwo → Type 0
Hands s k t u j d = HandsTwo (λ l m x. Slip s l t u m x) k j d

-- the circuit that was loaded as these parts: that of the first codes, below its head
abbrev pub circuit_of : Loaded → List ℕ → Circuit
circuit_of p codes = record { lines = p.head.lines; gates = gates (take p.gates codes) }

-- what is judged of a circuit, the steps of a slip and a second circuit that were loaded
unfoldable pub check_loaded : Loaded → (codes steps : List ℕ) → Loaded → List ℕ → Judgement (List Gate × List Gate)
check_loaded g codes steps h codes' = checked (circuit_of g codes) (slip_steps steps) (circuit_of h codes')

-- an accepted slip: both circuits have m gates, those of the first m codes each
pub record Accepts (v : Judgement (List Gate × List Gate)) (codes codes' : List ℕ) (h : Head) (m : ℕ) : Type 0 where
  pub judged : v ≡ fine (gates (take m codes), gates (take m codes'))
  pub renderable : Renderable h m codes
  pub renderable' : Renderable h m codes'

-- what is judged v was checked on these codes
abbrev pub ChecksTo : Judgement (List Gate × List Gate) → List ℕ → List ℕ → Result Loaded TextRefused → Type 0
ChecksTo v codes codes' (Ok p) = Accepts v codes codes' p.head p.gates
ChecksTo v codes codes' (Err r) = v ≡ away r.refusal r.text r.line
