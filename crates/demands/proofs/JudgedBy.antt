-- What map and reduce say if texts are judged in another way: the definitions of now, with the judging of a text for a parameter. So they said it
-- before orders 4, 5, 6 and 8. Assumes nothing.
use Prim.Native.Nat.{ℕ}
use mathlib.Core.Path.{◌≡◌}
use mathlib.Core.List.{List, [], ◌∷◌}
use lib.ListN.{length}
use Rattle.text.specs.declared.Kind.{Kind}
use Rattle.text.specs.declared.Kind.TheVariants.{Cascade, Circuit}
use Rattle.text.specs.Judging as judging
use Rattle.text.specs.Judging.{Judged, first, or_else}
use Rattle.habits.specs.Habits.{size_rules}
use Rattle.jobs.specs.Jobs as now
use Rattle.jobs.specs.Jobs.{Job, mapping, reducing, takes, Entry, Exit, Settled}

module _ (judge : Kind → List ℕ → Judged) where
  unfoldable pub judged_text : Kind → List ℕ → ℕ → Judged
  judged_text k s records = or_else (first (size_rules (length s) (records ∷ []))) 0 (judge k s)

  unfoldable pub judged : Kind → Entry → Judged
  judged k e = judged_text k e.text (length e.list)

  unfoldable pub Says : Job → Entry → Exit → Type 0
  Says j e x = Settled j e (judged (takes j) e) x

  -- ---- what is said goes by what the lines are judged to be

  text_same : (k : Kind) (s : List ℕ) (records : ℕ) → judging.judge k s ≡ judge k s → now.judged_text k s records ≡ judged_text k s records
  unfolding now.judged_text judged_text
  text_same k s records e = rw e

  -- number, line, gates, bytes, every record and every byte
  pub says_same : (j : Job) (e : Entry) (x : Exit) → judging.judge (takes j) e.text ≡ judge (takes j) e.text → now.Says j e x ≡ Says j e x
  unfolding now.Says Says now.judged judged
  says_same j e x q = rw (text_same (takes j) e.text (length e.list) q)

-- ---- texts that are judged as now

-- of the texts of a job: those of a kind for map, all for reduce
abbrev pub Unchanged : (List ℕ → Type 0) → Job → List ℕ → Type 0
Unchanged Same mapping s = Same s
Unchanged Same reducing s = Unit {0}

-- the cascades of this kind are judged as now, and all circuit texts
pub record AsNow (judge : Kind → List ℕ → Judged) (Same : List ℕ → Type 0) : Type 0 where
  pub cascades : (s : List ℕ) → Same s → judging.judge Cascade s ≡ judge Cascade s
  pub circuits : (s : List ℕ) → judging.judge Circuit s ≡ judge Circuit s

module _ (judge : Kind → List ℕ → Judged) (Same : List ℕ → Type 0) (w : AsNow judge Same) where
  judged_same : (j : Job) (s : List ℕ) → Unchanged Same j s → judging.judge (takes j) s ≡ judge (takes j) s
  unfolding takes
  judged_same mapping s u = w.cascades s u
  judged_same reducing s u = w.circuits s

  pub text_as_now : (j : Job) (s : List ℕ) (records : ℕ) → Unchanged Same j s → now.judged_text (takes j) s records ≡ judged_text judge (takes j) s records
  text_as_now j s records u = text_same judge (takes j) s records (judged_same j s u)

  pub says_as_now : (j : Job) (e : Entry) (x : Exit) → Unchanged Same j e.text → now.Says j e x ≡ Says judge j e x
  says_as_now j e x u = says_same judge j e x (judged_same j e.text u)
