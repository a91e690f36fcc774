-- Controls that rise, with or without signs: no line is among them twice, and the negated ones rise, so that each NOT of an expansion stands
-- after those on lower lines. Assumes nothing.
use mathlib.Core.Path.{◌≡◌, refl}
use mathlib.Core.Bool.{Bool, true, false, cond}
use mathlib.Core.List.{List, [], ◌∷◌, map}
use Prim.Native.Nat.{ℕ, ◌<◌}
use native.Mathlib.Omega.{arith}
use lib.Dec.{ltb}
use borrow.Author.Tests.{ltb-true, lt-ltb, ne_eqb}
use Rattle.meaning.specs.Pattern.{has, distinct}
use Rattle.meaning.proofs.Flips.{both}
use Rattle.cascades.specs.declared.Control.{Control}
use Rattle.cascades.specs.Control.{positive, negative, control_lines, negated_lines}
use Rattle.text.specs.Judging.{rising}

-- `3 -3`, `-3 3` and `-3 -3` don't rise
same_line_again : map (λ cs. rising (control_lines cs)) ((positive 3 ∷ negative 3 ∷ []) ∷ (negative 3 ∷ positive 3 ∷ []) ∷ (negative 3 ∷ negative 3 ∷ []) ∷ []) ≡ false ∷ false ∷ false ∷ []
unfolding rising control_lines
same_line_again = refl

-- strictly rising controls differ
low_out : (j c : ℕ) (cs : List ℕ) → j < c → rising (c ∷ cs) ≡ true → has j (c ∷ cs) ≡ false
unfolding has rising
low_out j c [] h e = rw (ne_eqb j c (λ q. omega arith))
low_out j c (d ∷ cs) h e =
    let u = both (ltb c d) (rising (d ∷ cs)) e in
    let l = ltb-true c d u.0 in
    rw (ne_eqb j c (λ q. omega arith), low_out j d cs (omega arith) u.1)

pub rising_distinct : (cs : List ℕ) → rising cs ≡ true → distinct cs ≡ true
unfolding distinct rising has
rising_distinct [] e = refl
rising_distinct (c ∷ []) e = refl
rising_distinct (c ∷ d ∷ cs) e =
    let u = both (ltb c d) (rising (d ∷ cs)) e in
    rw (low_out c d cs (ltb-true c d u.0) u.1, rising_distinct (d ∷ cs) u.1)

-- ---- signs

-- a lower line may stand in front in the place of the first
rising_lower : (c d : ℕ) (l : List ℕ) → c < d → rising (d ∷ l) ≡ true → rising (c ∷ l) ≡ true
unfolding rising
rising_lower c d [] h e = refl
rising_lower c d (b ∷ l) h e = let u = both (ltb d b) (rising (b ∷ l)) e in let k : d < b = ltb-true d b u.0 in rw (lt-ltb c b (omega arith), u.1)

rising_from : (i : ℕ) (cs : List Control) → rising (i ∷ control_lines cs) ≡ true → rising (i ∷ negated_lines cs) ≡ true
unfolding rising control_lines negated_lines
rising_from i [] e = refl
rising_from i (c ∷ cs) e =
    let u = both (ltb i c.line) (rising (c.line ∷ control_lines cs)) e in
    go c.negated (rising_from c.line cs u.1) (rising_from i cs (rising_lower i c.line (control_lines cs) (ltb-true i c.line u.0) u.1))
  where
    go : (s : Bool) → rising (c.line ∷ negated_lines cs) ≡ true → rising (i ∷ negated_lines cs) ≡ true → rising (i ∷ cond s (c.line ∷ negated_lines cs) (negated_lines cs)) ≡ true
    go true f h = rw ((both (ltb i c.line) (rising (c.line ∷ control_lines cs)) e).0, f)
    go false f h = h

rising_tail : (i : ℕ) (l : List ℕ) → rising (i ∷ l) ≡ true → rising l ≡ true
unfolding rising
rising_tail i [] e = refl
rising_tail i (b ∷ l) e = (both (ltb i b) (rising (b ∷ l)) e).1

-- the negated lines of rising controls rise: so each NOT of an expansion stands after those on lower lines
pub negated_rising : (cs : List Control) → rising (control_lines cs) ≡ true → rising (negated_lines cs) ≡ true
unfolding rising control_lines negated_lines
negated_rising [] e = refl
negated_rising (c ∷ cs) e = go c.negated (rising_from c.line cs e)
  where
    go : (s : Bool) → rising (c.line ∷ negated_lines cs) ≡ true → rising (cond s (c.line ∷ negated_lines cs) (negated_lines cs)) ≡ true
    go true h = h
    go false h = rising_tail c.line (negated_lines cs) h
