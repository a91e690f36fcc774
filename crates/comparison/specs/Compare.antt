-- What compare says of two circuit texts, each with its gate list (document 02, order 1, "Are two files one circuit"): number, line, text
-- number, count, and each record of both lists, for all inputs. Assumes nothing.
use Rattle.std.specs.Prelude.{ℕ, ◌≡◌, List, [], ◌∷◌, length, take}
use Rattle.gates.specs.declared.Gate.{Gate}
use Rattle.gates.specs.Reduced.{Reduced}
use Rattle.gates.specs.Code.{gates}
use Rattle.text.specs.declared.Head.{Head}
use Rattle.text.specs.declared.Kind.TheVariants as kind
use Rattle.std.specs.declared.cmp.Ordering.{Ordering}
use Rattle.ordering.specs.Comparing.{count_of, compare_lists}
use Rattle.habits.specs.Habits.{Judgement, fine, ◌then◌, Circuit, text_judged, Exit, Answer, Says}
use Rattle.loading.specs.declared.Loaded.{Loaded}
use Rattle.std.specs.declared.result.Result.{Result}
use Rattle.std.specs.declared.result.Result.TheVariants.{Ok, Err}
use Rattle.text.specs.declared.Refused.{Refused}
use Rattle.records.specs.declared.DoneTwo.{DoneTwo}
use Rattle.outcomes.specs.Outcomes.{refused_two, succeeded_two}
use Rattle.jobs.specs.Handing.{HandsTwo}

-- "Refusals come in the texts' order": the text s with a list of k records, then the text t with one of j
unfoldable pub judged : List ℕ → ℕ → List ℕ → ℕ → Judgement (Circuit × Circuit)
judged s k t j =
    text_judged 1 kind.Circuit s (k ∷ []) then λ c.
    text_judged 2 kind.Circuit t (j ∷ []) then λ d.
    fine (c, d)

-- the two circuits compare so: "says less, equal or greater (count 0, 1, 2): by number of lines first, then by dictionary order of the reduced
-- lists"; each gate list holds its reduced list
unfoldable pub Compared : Circuit × Circuit → Answer → Type 0
Compared (c, d) w =
    (p : List Gate) × (q : List Gate) × Reduced c.lines c.gates p × Reduced d.lines d.gates q
    × (w ≡ record { count = count_of (compare_lists c.lines p d.lines q); circuits = p ∷ q ∷ []; text = [] })

-- the contract: of the texts s and t and the lists l and m
unfoldable pub Compare : (s : List ℕ) (l : List Gate) (t : List ℕ) (m : List Gate) → Exit → Type 0
Compare s l t m x = Says (judged s (length l) t (length m)) Compared (record { lists = l ∷ m ∷ []; area = [] }) x

-- ---- what the functions beneath promise

-- the covered part, which is given only the lengths of the lists
abbrev pub Hands : List ℕ → ℕ → List ℕ → ℕ → DoneTwo → Type 0
Hands s k t j d = HandsTwo (λ l m x. Compare s l t m x) k j d

-- how the lists of the first m and the first n codes compare, below their heads
unfoldable pub comparison : Head → ℕ → List ℕ → Head → ℕ → List ℕ → Ordering
comparison g m codes h n codes' = compare_lists g.lines (gates (take m codes)) h.lines (gates (take n codes'))

-- what is handed over where the first text is accepted, by the second's reduced list or its refusal
unfoldable pub compared_done : Head → ℕ → Result Loaded Refused → ℕ → ℕ → List ℕ → List ℕ → DoneTwo
compared_done g m (Ok x) k j codes codes' = succeeded_two m x.gates (count_of (comparison g m codes x.head x.gates codes')) k j codes codes'
compared_done g m (Err e) k j codes codes' = refused_two e.refusal 2 e.line k j codes codes'
