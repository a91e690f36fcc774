-- What loading a text leaves: the judgement of the text, and its circuit as codes. Assumes nothing.
use Rattle.std.specs.Prelude.{◌≡◌, cond, ◌&&◌, eqb, List, ℕ, ◌+◌, ◌≤◌, ◌<◌, length, take, drop}
use Rattle.gates.specs.Code.{gates, AllCodes}
use Rattle.text.specs.declared.Head.{Head}
use Rattle.text.specs.declared.Kind.{Kind}
use Rattle.text.specs.declared.Kind.TheVariants.{Cascade, Circuit}
use Rattle.text.specs.Reading.{cut}
use Rattle.text.specs.Heads.{kept_lines}
use Rattle.text.specs.Judging.{Judged, turned_away, accepted, read_all, judge_lines, judge}
use Rattle.cascades.specs.Expansion.{expansion, Expandable}
use Rattle.cascades.specs.Signs.{between_nots}
use Rattle.cascades.specs.Cascade.{Below}
use Rattle.judging.specs.Seen.{judge_at}
use Rattle.loading.specs.declared.Progress.{Progress}
use Rattle.loading.specs.declared.Loaded.{Loaded}
use Rattle.std.specs.declared.result.Result.{Result}
use Rattle.std.specs.declared.result.Result.TheVariants.{Ok, Err}
use Rattle.text.specs.declared.Refused.{Refused}
use Rattle.tokens.specs.declared.Parsed.{Parsed}

-- the first m codes of the list l can be written as a text below the head h
pub record Renderable (h : Head) (m : ℕ) (l : List ℕ) : Type 0 where
  pub narrow : h.lines ≤ 32
  pub few : m ≤ 4096
  pub codes : AllCodes 32 (take m l)

-- an accepted text with the head h: its circuit, read or expanded, is the gates of the first m codes of the list l; nothing is said of the other
-- codes, nor of any where the text is refused
pub record Accepts (j : Judged) (l : List ℕ) (h : Head) (m : ℕ) : Type 0 where
  pub judged : j ≡ accepted h (gates (take m l))
  pub renderable : Renderable h m l

-- a text that is judged j was loaded into the list l
abbrev pub LoadsTo : Judged → List ℕ → Result Loaded Refused → Type 0
LoadsTo j l (Ok x) = Accepts j l x.head x.gates
LoadsTo j l (Err e) = j ≡ turned_away e.refusal e.line

-- ---- between two lines

-- `before` gate lines were taken, below the head h, that made the first m codes
abbrev pub standing : ℕ → Head → ℕ → Progress
standing before h m = record { lines = before; loaded = record { head = h; gates = m } }

-- what the whole text s is judged to be: the gate lines from the place on are judged after those that were taken
abbrev pub gate_lines_from : Kind → List ℕ → ℕ → ℕ → Head → ℕ → List ℕ → Judged
gate_lines_from k s at before h m l = judge_lines k h before (gates (take m l)) (read_all (cut (drop at s)))

-- in a cascade, after no gate line and below a head that keeps nothing, a keep line may still stand first
unfoldable pub lines_from : Kind → List ℕ → ℕ → ℕ → Head → ℕ → List ℕ → Judged
lines_from Circuit s at before h m l = gate_lines_from Circuit s at before h m l
lines_from Cascade s at before h m l = cond (eqb before 0 && eqb h.kept 0) (judge_at Cascade h.lines s at) (gate_lines_from Cascade s at before h m l)

abbrev pub judged_from : Kind → List ℕ → ℕ → Progress → List ℕ → Judged
judged_from k s at p l = lines_from k s at p.lines p.loaded.head p.loaded.gates l

-- at most 256 mct lines were taken, and none makes no code; a line of a circuit makes one code
abbrev pub Counted : Kind → ℕ → ℕ → Type 0
Counted Cascade before m = (before ≤ 256) × (before ≡ 0 → m ≡ 0)
Counted Circuit before m = before ≡ m

-- what holds of the lines that were taken, and of the codes that they made
pub record SoFar (k : Kind) (before : ℕ) (h : Head) (m : ℕ) (l : List ℕ) : Type 0 where
  pub some : 1 ≤ h.lines
  pub narrow : h.lines ≤ 32
  pub counted : Counted k before m
  pub few : m ≤ 4096
  pub codes : AllCodes 32 (take m l)

abbrev pub Sound : Kind → Progress → List ℕ → Type 0
Sound k p l = SoFar k p.lines p.loaded.head p.loaded.gates l

-- the loading of the text s stands at the place `at` and at p, and s is judged j
pub record Stands (k : Kind) (j : Judged) (s : List ℕ) (at : ℕ) (p : Progress) (l : List ℕ) : Type 0 where
  pub inside : at ≤ length s
  pub judged : judged_from k s at p l ≡ j
  pub sound : Sound k p l

-- line 1 was read, from the place `at` on, and the loading stands at q, whatever kind of text it is, and whatever stands in the list; or the text is
-- turned away
pub record BegunAt (s : List ℕ) (at : ℕ) (q : Parsed Progress) : Type 0 where
  pub forward : at ≤ q.end
  pub stands : (k : Kind) (l : List ℕ) → Stands k (judge k (drop at s)) s q.end q.value l

abbrev pub Begun : List ℕ → ℕ → Result (Parsed Progress) Refused → Type 0
Begun s at (Ok q) = BegunAt s at q
Begun s at (Err e) = (k : Kind) → judge k (drop at s) ≡ turned_away e.refusal e.line

-- a line can be taken at the place `at`
pub record Ready (k : Kind) (s : List ℕ) (at : ℕ) (p : Progress) (l : List ℕ) : Type 0 where
  pub more : at < length s
  pub room : 4096 ≤ length l
  pub sound : Sound k p l

-- it was taken from a text that is judged j: the place moved forward, and j is what the text is judged to be still; or the text is turned away
pub record TakenAt (k : Kind) (j : Judged) (s : List ℕ) (at : ℕ) (q : Parsed Progress) (l' : List ℕ) : Type 0 where
  pub forward : at < q.end
  pub stands : Stands k j s q.end q.value l'

abbrev pub TakenAs : Kind → Judged → List ℕ → ℕ → Result (Parsed Progress) Refused → List ℕ → Type 0
TakenAs k j s at (Ok q) l' = TakenAt k j s at q l'
TakenAs k j s at (Err e) l' = j ≡ turned_away e.refusal e.line

abbrev pub Taken : Kind → List ℕ → ℕ → Progress → List ℕ → Result (Parsed Progress) Refused → List ℕ → Type 0
Taken k s at p l q l' = TakenAs k (judged_from k s at p l) s at q l'

-- ---- the expansion of an mct gate

-- the gate with controls on the lines cs, of which these are negated, can be expanded, and its expansion written from code m on
pub record ExpansionFits (h : Head) (t : ℕ) (cs negated : List ℕ) (m room : ℕ) : Type 0 where
  pub narrow : h.lines ≤ 32
  pub expandable : Expandable h.lines (kept_lines h) cs t
  pub below : Below h.lines cs
  pub fits : m + length (between_nots negated (expansion h.lines (kept_lines h) cs t)) ≤ room
