-- Rules tried in order, and rules 1 and 2: what each of them refuses, and what both let pass. Assumes nothing.
use Prim.Native.Nat.{ℕ, ◌≤◌, ◌<◌}
use mathlib.Core.Path.{◌≡◌, refl}
use mathlib.Core.Bool.{Bool, true, false}
use mathlib.Core.List.{List, [], ◌∷◌, map}
use native.Mathlib.Omega.{arith}
use lib.ListN.{length}
use lib.Dec.{ltb}
use borrow.Author.Tests.{ltb-true, ltb-false}
use Rattle.gates.specs.Every.{Every}
use Rattle.text.specs.declared.Refusal.{Refusal}
use Rattle.text.specs.declared.Refusal.TheVariants.{Overlong, ShortList}
use Rattle.text.specs.Judging.{Found, sound, breaks, Rule, rule, first}
use Rattle.habits.specs.Habits.{Judgement, away, ◌then◌, passes, size_rules, taken}
use Rattle.habits.specs.Demands.{Sized}

-- ---- rules in order

-- a refusal that was found is in O
abbrev pub In : (Refusal → Type 0) → Found → Type 0
In O sound = Unit {0}
In O (breaks r) = O r

-- the refusal of each rule that is broken is in O
abbrev pub AllIn : (Refusal → Type 0) → List Rule → Type 0
AllIn O [] = Unit {0}
AllIn O (rule r b ∷ rs) = (b ≡ true → O r) × AllIn O rs

-- so is that of the first of them
pub first_in : (O : Refusal → Type 0) (rs : List Rule) → AllIn O rs → In O (first rs)
unfolding first
first_in O [] a = tt
first_in O (rule r true ∷ rs) a = a.0 refl
first_in O (rule r false ∷ rs) a = first_in O rs a.1

-- ---- rules 1 and 2

-- each list has at least 4,096 records
abbrev pub Roomy : List ℕ → Type 0
Roomy = Every (λ records. 4096 ≤ records)

-- rule 2 for each list
abbrev list_rules : List ℕ → List Rule
list_rules rooms = map (λ records. rule ShortList (ltb records 4096)) rooms

-- what they find
data Rooms (rooms : List ℕ) : Found → Type 0 where
  lacking : (Roomy rooms → ⊥) → Rooms rooms (breaks ShortList)
  roomy : Roomy rooms → Rooms rooms sound

rooms_found : (rooms : List ℕ) → Rooms rooms (first (list_rules rooms))
unfolding first
rooms_found [] = roomy tt
rooms_found (n ∷ rooms) = go (ltb n 4096) refl (rooms_found rooms)
  where
    more : {f : Found} → 4096 ≤ n → Rooms rooms f → Rooms (n ∷ rooms) f
    more h (lacking k) = lacking (λ r. k r.1)
    more h (roomy r) = roomy (h, r)

    go : (b : Bool) → ltb n 4096 ≡ b → Rooms rooms (first (list_rules rooms)) → Rooms (n ∷ rooms) (first (rule ShortList b ∷ list_rules rooms))
    go true e i = lacking (λ r. omega (arith, ltb-true n 4096 e, r.0))
    go false e i = more (ltb-false n 4096 e) i

-- what rules 1 and 2 find of the text s and of the lists judged with it: one case and no other
pub data Sizes (s rooms : List ℕ) : Found → Type 0 where
  too_long : 60000 < length s → Sizes s rooms (breaks Overlong)
  too_few : length s ≤ 60000 → (Roomy rooms → ⊥) → Sizes s rooms (breaks ShortList)
  passing : Sized s rooms → Sizes s rooms sound

pub sizes : (s rooms : List ℕ) → Sizes s rooms (first (size_rules (length s) rooms))
unfolding first size_rules
sizes s rooms = go (ltb 60000 (length s)) refl
  where
    by : {f : Found} → length s ≤ 60000 → Rooms rooms f → Sizes s rooms f
    by h (lacking k) = too_few h k
    by h (roomy r) = passing (record { small = h; room = r })

    go : (b : Bool) → ltb 60000 (length s) ≡ b → Sizes s rooms (first (rule Overlong b ∷ list_rules rooms))
    go true e = too_long (ltb-true 60000 (length s) e)
    go false e = by (ltb-false 60000 (length s) e) (rooms_found rooms)

-- ---- a text with the lists judged with it, whose lines are judged to be v

module _ {A : Type 0} (t : ℕ) (s rooms : List ℕ) (v : Judgement A) where
  -- rule 1 refuses it
  pub taken_overlong : 60000 < length s → taken t s rooms v ≡ away Overlong t 0
  unfolding taken passes
  taken_overlong h = go (sizes s rooms)
    where
      go : {f : Found} → Sizes s rooms f → (passes f t 0 then λ _. v) ≡ away Overlong t 0
      go (too_long k) = refl
      go (too_few k l) = absurd (omega arith)
      go (passing z) = let k = z.small in absurd (omega arith)

  -- rule 2 refuses it
  pub taken_short : length s ≤ 60000 → (Roomy rooms → ⊥) → taken t s rooms v ≡ away ShortList t 0
  unfolding taken passes
  taken_short h l = go (sizes s rooms)
    where
      go : {f : Found} → Sizes s rooms f → (passes f t 0 then λ _. v) ≡ away ShortList t 0
      go (too_long k) = absurd (omega arith)
      go (too_few k i) = refl
      go (passing z) = absurd (l z.room)

  -- what both let pass is judged by its lines
  pub taken_passes : Sized s rooms → taken t s rooms v ≡ v
  unfolding taken passes
  taken_passes z = go (sizes s rooms)
    where
      go : {f : Found} → Sizes s rooms f → (passes f t 0 then λ _. v) ≡ v
      go (too_long k) = let h = z.small in absurd (omega arith)
      go (too_few k l) = absurd (l z.room)
      go (passing y) = refl
