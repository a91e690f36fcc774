-- What compare says if texts are judged in another way: the definitions of now, with the judging of a text for a parameter; and that it says still,
-- of every two texts, what it said before orders 4, 5, 6 and 8. Assumes nothing.
use Prim.Native.Nat.{ℕ}
use mathlib.Core.Path.{◌≡◌}
use mathlib.Core.List.{List, [], ◌∷◌}
use lib.ListN.{length}
use Rattle.gates.specs.declared.Gate.{Gate}
use Rattle.text.specs.declared.Kind.{Kind}
use Rattle.text.specs.declared.Kind.TheVariants as kind
use Rattle.text.specs.Judging as judging
use Rattle.text.specs.Judging.{Judged}
use Rattle.text.proofs.Unsigned as unsigned
use Rattle.text.proofs.Signless as signless
use Rattle.text.proofs.Lowest as lowest
use Rattle.text.proofs.WideFirst as wide_first
use Rattle.text.proofs.Keepless as keepless
use Rattle.habits.specs.Habits as habits
use Rattle.habits.specs.Habits.{Judgement, fine, ◌then◌, Circuit, Exit, Says}
use Rattle.habits.proofs.JudgedBy.{text_judged}
use Rattle.comparison.specs.Compare as now
use Rattle.comparison.specs.Compare.{Compared}

module _ (judge : Kind → List ℕ → Judged) where
  unfoldable pub judged : List ℕ → ℕ → List ℕ → ℕ → Judgement (Circuit × Circuit)
  judged s k t j =
      text_judged judge 1 kind.Circuit s (k ∷ []) then λ c.
      text_judged judge 2 kind.Circuit t (j ∷ []) then λ d.
      fine (c, d)

  unfoldable pub Compare : (s : List ℕ) (l : List Gate) (t : List ℕ) (m : List Gate) → Exit → Type 0
  Compare s l t m x = Says (judged s (length l) t (length m)) Compared (record { lists = l ∷ m ∷ []; area = [] }) x

  -- number, line, text number, count, and every record of both lists, where circuit texts are judged as now
  compare_same : ((s : List ℕ) → judging.judge kind.Circuit s ≡ judge kind.Circuit s) → (s : List ℕ) (l : List Gate) (t : List ℕ) (m : List Gate) (x : Exit) → now.Compare s l t m x ≡ Compare s l t m x
  unfolding now.Compare Compare now.judged judged habits.text_judged text_judged
  compare_same e s l t m x = rw (e s, e t)

-- before controls had signs
pub signless_compare : (s : List ℕ) (l : List Gate) (t : List ℕ) (m : List Gate) (x : Exit) → now.Compare s l t m x ≡ Compare unsigned.judge s l t m x
signless_compare = compare_same unsigned.judge signless.circuits_before

-- when spare lines were the lowest ones
pub lowest_compare : (s : List ℕ) (l : List Gate) (t : List ℕ) (m : List Gate) (x : Exit) → now.Compare s l t m x ≡ Compare lowest.judge s l t m x
lowest_compare = compare_same lowest.judge lowest.circuits_before

-- when rule 7 was tried before rule 8
pub wide_first_compare : (s : List ℕ) (l : List Gate) (t : List ℕ) (m : List Gate) (x : Exit) → now.Compare s l t m x ≡ Compare wide_first.judge s l t m x
wide_first_compare = compare_same wide_first.judge wide_first.circuits_before

-- before there were keep lines
pub keepless_compare : (s : List ℕ) (l : List Gate) (t : List ℕ) (m : List Gate) (x : Exit) → now.Compare s l t m x ≡ Compare keepless.judge s l t m x
keepless_compare = compare_same keepless.judge keepless.circuits_before
