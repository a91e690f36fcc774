-- Join says of every two texts what it said before there were keep lines. Assumes nothing.
use Prim.Native.Nat.{ℕ}
use mathlib.Core.Path.{◌≡◌}
use mathlib.Core.List.{List, [], ◌∷◌}
use lib.ListN.{length}
use Rattle.gates.specs.declared.Gate.{Gate}
use Rattle.text.specs.declared.Kind.{Kind}
use Rattle.text.specs.declared.Kind.TheVariants as kind
use Rattle.text.specs.Judging.{Judged}
use Rattle.text.proofs.Keepless.{judge, circuits_before}
use Rattle.habits.specs.Habits as habits
use Rattle.habits.specs.Habits.{Judgement, ◌then◌, Circuit, Exit, Says}
use Rattle.habits.proofs.JudgedBy.{text_judged}
use Rattle.jobs.specs.Jobs.{as_text}
use Rattle.jobs.specs.Habits.{Right}
use Rattle.joins.specs.Join as now
use Rattle.joins.specs.Join.{plain_join}

-- join, with the judging of a text for a parameter
unfoldable pub judged : (Kind → List ℕ → Judged) → List ℕ → ℕ → List ℕ → Judgement Circuit
judged judge s k t =
    text_judged judge 1 kind.Circuit s (k ∷ []) then λ c.
    text_judged judge 2 kind.Circuit t [] then λ d.
    plain_join c d

unfoldable pub Join : (Kind → List ℕ → Judged) → (s : List ℕ) (l : List Gate) (t a : List ℕ) → Exit → Type 0
Join judge s l t a x = Says (judged judge s (length l) t) (Right as_text) (record { lists = l ∷ []; area = a }) x

-- number, line, text number, count, every record and every byte
pub keepless_join : (s : List ℕ) (l : List Gate) (t a : List ℕ) (x : Exit) → now.Join s l t a x ≡ Join judge s l t a x
unfolding now.Join Join now.judged judged habits.text_judged text_judged
keepless_join s l t a x = rw (circuits_before s, circuits_before t)
