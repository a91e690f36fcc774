-- What join says of two circuit texts, a gate list and an answer area (document 02, order 7, "Inverse and joining of circuits"): number, line, text
-- number, count, and each record and byte lent to it, for all inputs. Assumes nothing.
use Rattle.std.specs.Prelude.{ℕ, ◌+◌, ◌-◌, ◌≡◌, List, [], ◌∷◌, ◌++◌, length, take, eqb, leb}
use Rattle.gates.specs.declared.Gate.{Gate}
use Rattle.gates.specs.Code.{gates}
use Rattle.text.specs.declared.Head.{Head}
use Rattle.text.specs.declared.Kind.TheVariants as kind
use Rattle.text.specs.declared.Refusal.TheVariants.{TooMany, DifferentLines}
use Rattle.habits.specs.Habits.{Judgement, fine, away, ◌then◌, require, Circuit, text_judged, Exit, Says}
use Rattle.loading.specs.Loaded.{Renderable}
use Rattle.records.specs.declared.Done.{Done}
use Rattle.records.specs.declared.TextOutcome.{TextOutcome}
use Rattle.jobs.specs.Jobs.{as_text}
use Rattle.jobs.specs.Habits.{Right}
use Rattle.jobs.specs.Handing.{HandsText}
use Rattle.loading.specs.declared.Loaded.{Loaded}
use Rattle.std.specs.declared.result.Result.{Result}
use Rattle.std.specs.declared.result.Result.TheVariants.{Ok, Err}
use Rattle.text.specs.declared.TextRefused.{TextRefused}

-- "joins two circuits on the same number of lines, the first before the second": their plain join. "Turned away: 11, different line counts, line 0,
-- once both texts have been read without refusal and before the join's own 9"; "A join whose gates together pass 4,096 before reduction is refused
-- by 9 at the first gate over, with the second text's line": line 2 has its first gate
unfoldable pub plain_join : Circuit → Circuit → Judgement Circuit
plain_join c d =
    require (eqb c.lines d.lines) DifferentLines 0 0 then λ _.
    require (leb (length c.gates + length d.gates) 4096) TooMany 2 (4096 - length c.gates + 2) then λ _.
    fine (record { lines = c.lines; gates = c.gates ++ d.gates })

-- the text s with a list of k records, the text t with none, and then their join
unfoldable pub judged : List ℕ → ℕ → List ℕ → Judgement Circuit
judged s k t =
    text_judged 1 kind.Circuit s (k ∷ []) then λ c.
    text_judged 2 kind.Circuit t [] then λ d.
    plain_join c d

-- the contract: of the texts s and t, the list l and the area a. "and reduces": the answer is the reduced list of the join as a circuit text, the
-- count its bytes, and the gate list holds it
unfoldable pub Join : (s : List ℕ) (l : List Gate) (t a : List ℕ) → Exit → Type 0
Join s l t a x = Says (judged s (length l) t) (Right as_text) (record { lists = l ∷ []; area = a }) x

-- ---- what the functions beneath promise

-- the covered part, which is given only the length of the list
abbrev pub Hands : List ℕ → ℕ → List ℕ → List ℕ → Done TextOutcome → List ℕ → Type 0
Hands s room t a d a' = HandsText (λ l x. Join s l t a x) room d a'

-- the circuit of the first m codes, below its head
abbrev pub circuit_of : Head → ℕ → List ℕ → Circuit
circuit_of h m codes = record { lines = h.lines; gates = gates (take m codes) }

-- the join of two that were loaded
unfoldable pub join_circuits : Head → ℕ → List ℕ → Head → ℕ → List ℕ → Judgement Circuit
join_circuits g m codes h n more = plain_join (circuit_of g m codes) (circuit_of h n more)

-- an accepted join: its gates are those of the first m codes
pub record Accepts (v : Judgement Circuit) (codes : List ℕ) (h : Head) (m : ℕ) : Type 0 where
  pub judged : v ≡ fine (circuit_of h m codes)
  pub renderable : Renderable h m codes

-- what is judged v was loaded into the codes
abbrev pub JoinsTo : Judgement Circuit → List ℕ → Result Loaded TextRefused → Type 0
JoinsTo v codes (Ok x) = Accepts v codes x.head x.gates
JoinsTo v codes (Err e) = v ≡ away e.refusal e.text e.line
