-- What a text of a job over several texts is judged to be if its lines are judged in another way: the definition of now, with the judging of a text for a
-- parameter. Assumes nothing.
use Prim.Native.Nat.{ℕ}
use mathlib.Core.List.{List}
use Rattle.text.specs.declared.Kind.{Kind}
use Rattle.text.specs.Judging.{Judged}
use Rattle.habits.specs.Habits.{Judgement, Circuit, taken, told}

unfoldable pub text_judged : (Kind → List ℕ → Judged) → (text : ℕ) → Kind → List ℕ → List ℕ → Judgement Circuit
text_judged judge t k s rooms = taken t s rooms (told t (judge k s))
