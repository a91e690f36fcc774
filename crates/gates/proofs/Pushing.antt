-- Pushing a gate onto a circuit from the right: it goes left over gates that it passes, to a gate of its site, with which it merges, or to
-- where the order of sites has it; and the normal form of lists that pushes keep. Assumes nothing.
use mathlib.Core.Path.{◌≡◌}
use mathlib.Core.List.{List, [], ◌∷◌, ◌++◌}
use Prim.Native.Nat.{suc, ◌+◌, ◌%◌, ◌<◌}
use native.Mathlib.Omega.{arith}
use native.Mathlib.Decide.{ℕ_discrete, dec_lt}
use Rattle.gates.specs.declared.Gate.{Gate}
use Rattle.gates.specs.declared.Gate.TheVariants.{Not, Powered}
use Rattle.gates.specs.Circuit.{target, slot, power, powered, Passes}
use Rattle.gates.specs.Sites.{Same, Less, low, tie, Free, free_nil, free_cons, Front}

-- a and g, of one site, as one gate or none
unfoldable pub merged : Gate → Gate → List Gate
merged (Not t) g = []
merged (Powered p c t) g = powered ((p + power g) % 4) c t

-- ---- what a gate does at another

pub free_head : {g a : Gate} {v : List Gate} → Free g (a ∷ v) → Passes g a
free_head (free_cons p f) = p

pub free_tail : {g a : Gate} {v : List Gate} → Free g (a ∷ v) → Free g v
free_tail (free_cons p f) = f

-- g does not merge with a, or does not go before a, with v behind
abbrev pub NotMeets : Gate → List Gate → Gate → Type 0
NotMeets a v g = Free g v → Same a g → ⊥

abbrev pub NotEnters : Gate → List Gate → Gate → Type 0
NotEnters a v g = Free g v → Passes a g → Less g a → ⊥

-- what g does at a, with v behind: merge with a, go before a, or stay behind a
pub data Turn (a : Gate) (v : List Gate) (g : Gate) : Type 0 where
  meets : Free g v → Same a g → Turn a v g
  enters : Free g v → Passes a g → Less g a → Turn a v g
  stays : NotMeets a v g → NotEnters a v g → Turn a v g

-- ---- which of the three it is: each function's type says what it decides

unfoldable pub passes_dec : (g h : Gate) → Dec (Passes g h)
passes_dec g h = go (ℕ_discrete (suc (target g)) (slot h)) (ℕ_discrete (suc (target h)) (slot g))
  where
    go : Dec (suc (target g) ≡ slot h) → Dec (suc (target h) ≡ slot g) → Dec (Passes g h)
    go (yes e) d = no (λ p. omega arith)
    go (no a) (yes e) = no (λ p. omega arith)
    go (no a) (no b) = yes (omega arith)

unfoldable pub same_dec : (g h : Gate) → Dec (Same g h)
same_dec g h = go (ℕ_discrete (target g) (target h)) (ℕ_discrete (slot g) (slot h))
  where
    go : Dec (target g ≡ target h) → Dec (slot g ≡ slot h) → Dec (Same g h)
    go (yes e) (yes f) = yes (record { targets = e; controls = f })
    go (yes e) (no f) = no (λ s. f s.controls)
    go (no e) d = no (λ s. e s.targets)

pub not_less : {g h : Gate} → (target g < target h → ⊥) → (target g ≡ target h → slot g < slot h → ⊥) → Less g h → ⊥
not_less a b (low l) = a l
not_less a b (tie e l) = b e l

unfoldable pub less_dec : (g h : Gate) → Dec (Less g h)
less_dec g h = go (dec_lt (target g) (target h)) (ℕ_discrete (target g) (target h)) (dec_lt (slot g) (slot h))
  where
    go : Dec (target g < target h) → Dec (target g ≡ target h) → Dec (slot g < slot h) → Dec (Less g h)
    go (yes l) d m = yes (low l)
    go (no l) (yes e) (yes m) = yes (tie e m)
    go (no l) (yes e) (no m) = no (λ x. not_less l (λ e. m) x)
    go (no l) (no e) m = no (λ x. not_less l (λ f. absurd (e f)) x)

unfoldable pub free_dec : (g : Gate) (v : List Gate) → Dec (Free g v)
free_dec g [] = yes free_nil
free_dec g (a ∷ v) = go (passes_dec g a) (free_dec g v)
  where
    go : Dec (Passes g a) → Dec (Free g v) → Dec (Free g (a ∷ v))
    go (yes p) (yes f) = yes (free_cons p f)
    go (yes p) (no f) = no (λ x. f (free_tail x))
    go (no p) d = no (λ x. p (free_head x))

unfoldable pub turn_of : (a : Gate) (v : List Gate) (g : Gate) → Dec (Free g v) → Dec (Same a g) → Dec (Passes a g) → Dec (Less g a) → Turn a v g
turn_of a v g (no f) s p l = stays (λ x. absurd (f x)) (λ x. absurd (f x))
turn_of a v g (yes f) (yes s) p l = meets f s
turn_of a v g (yes f) (no s) (yes p) (yes l) = enters f p l
turn_of a v g (yes f) (no s) (yes p) (no l) = stays (λ x. s) (λ x q. l)
turn_of a v g (yes f) (no s) (no p) l = stays (λ x. s) (λ x q. absurd (p q))

unfoldable pub turn : (a : Gate) (v : List Gate) (g : Gate) → Turn a v g
turn a v g = turn_of a v g (free_dec g v) (same_dec a g) (passes_dec a g) (less_dec g a)

-- ---- pushing

-- the list a ∷ v after g, where w is v after g
unfoldable pub place : {a : Gate} {v : List Gate} {g : Gate} → Turn a v g → List Gate → List Gate
place {a} {v} {g} (meets f s) w = merged a g ++ v
place {a} {v} {g} (enters f p l) w = g ∷ a ∷ v
place {a} {v} {g} (stays m i) w = a ∷ w

-- a list after g
unfoldable pub push : List Gate → Gate → List Gate
push [] g = g ∷ []
push (a ∷ v) g = place (turn a v g) (push v g)

-- the gates of a list pushed one after the other
abbrev pub pushes : List Gate → List Gate → List Gate
pushes v [] = v
pushes v (g ∷ c) = pushes (push v g) c

-- ---- normal form

-- each site in front of v that passes a comes after a
abbrev pub Lowest : Gate → List Gate → Type 0
Lowest a v = (s : Gate) → Front s v → Passes s a → Less a s

-- behind each gate, all that could come forward to it is later than it
pub data Normal : List Gate → Type 0 where
  normal_nil : Normal []
  normal_cons : {a : Gate} {v : List Gate} → Normal v → Lowest a v → Normal (a ∷ v)
