-- Reading is unambiguous: forms with the same text are the same forms (`rendered_is` of Printed), so two circuits, or two cascades, with the
-- same text are equal. Assumes nothing.
use mathlib.Core.Path.{◌≡◌, refl, sym}
use mathlib.Core.List.{List, [], ◌∷◌, ◌++◌, map}
use Prim.Native.Nat.{ℕ}
use native.Mathlib.Omega.{arith}
use Rattle.gates.specs.declared.Gate.{Gate}
use Rattle.cascades.specs.Cascade.{Controlled}
use Rattle.text.specs.Text.{Form, lines, keep, gate, mct, as_forms, keep_forms, head_forms, AllProper, circuit_text, cascade_text}
use Rattle.text.proofs.Printed.{rendered_is}

nil_cons : {A : Type 0} {a : A} {l : List A} → [] ≡ a ∷ l → ⊥
nil_cons e = let z : ◌≡◌ {A = ℕ} 0 1 = cc in omega arith

cons_nil : {A : Type 0} {a : A} {l : List A} → a ∷ l ≡ [] → ⊥
cons_nil e = let z : ◌≡◌ {A = ℕ} 0 1 = cc in omega arith

gates_is : (c d : List Gate) → map gate c ≡ map gate d → c ≡ d
gates_is [] [] e = refl
gates_is [] (h ∷ d) e = absurd (nil_cons e)
gates_is (g ∷ c) [] e = absurd (cons_nil e)
gates_is (g ∷ c) (h ∷ d) e =
    let i : gate g ≡ gate h = cc in
    let k : g ≡ h = cc in
    let r : map gate c ≡ map gate d = cc in
    let t : c ≡ d = gates_is c d r in
    cc

mcts_is : (gs hs : List Controlled) → as_forms gs ≡ as_forms hs → gs ≡ hs
mcts_is [] [] e = refl
mcts_is [] (h ∷ hs) e = absurd (nil_cons e)
mcts_is (g ∷ gs) [] e = absurd (cons_nil e)
mcts_is (g ∷ gs) (h ∷ hs) e =
    let i : mct g.controls g.target ≡ mct h.controls h.target = cc in
    let a : g.controls ≡ h.controls = cc in
    let b : g.target ≡ h.target = cc in
    let k : g ≡ h = same_controlled g h a b in
    let r : as_forms gs ≡ as_forms hs = cc in
    let t : gs ≡ hs = mcts_is gs hs r in
    cc
  where
    same_controlled : (u w : Controlled) → u.controls ≡ w.controls → u.target ≡ w.target → u ≡ w
    same_controlled u w p q = λ i. record { controls = p i; target = q i }

headed_is : (n m : ℕ) (fs gs : List Form) → lines n ∷ fs ≡ lines m ∷ gs → (n ≡ m) × (fs ≡ gs)
headed_is n m fs gs e = let i : lines n ≡ lines m = cc in (cc, cc)

-- two circuits with the same text are on the same lines and equal, where their numbers have one or two digits
pub circuit_text_is : (n m : ℕ) (c d : List Gate) → AllProper (lines n ∷ map gate c) → AllProper (lines m ∷ map gate d) → circuit_text n c ≡ circuit_text m d → (n ≡ m) × (c ≡ d)
unfolding circuit_text
circuit_text_is n m c d p q e = let r = headed_is n m (map gate c) (map gate d) (rendered_is (lines n ∷ map gate c) (lines m ∷ map gate d) p q e) in (r.0, gates_is c d r.1)

-- no mct form is a keep form
no_keep : (gs : List Controlled) {l : List ℕ} {fs : List Form} → as_forms gs ≡ keep l ∷ fs → ⊥
no_keep [] e = nil_cons e
no_keep (g ∷ gs) {l} e = let i : mct g.controls g.target ≡ keep l = cc in let z : ◌≡◌ {A = ℕ} 0 1 = cc in omega arith

below_is : (k l : List ℕ) (gs hs : List Controlled) → keep_forms k ++ as_forms gs ≡ keep_forms l ++ as_forms hs → (k ≡ l) × (gs ≡ hs)
unfolding keep_forms
below_is [] [] gs hs e = (refl, mcts_is gs hs e)
below_is [] (b ∷ l) gs hs e = absurd (no_keep gs e)
below_is (a ∷ k) [] gs hs e = absurd (no_keep hs (sym e))
below_is (a ∷ k) (b ∷ l) gs hs e =
    let i : keep (a ∷ k) ≡ keep (b ∷ l) = cc in
    let r : as_forms gs ≡ as_forms hs = cc in
    (cc, mcts_is gs hs r)

-- and so are two cascades, with the same kept lines
pub cascade_text_is : (n m : ℕ) (k l : List ℕ) (gs hs : List Controlled) → AllProper (head_forms n k ++ as_forms gs) → AllProper (head_forms m l ++ as_forms hs) → cascade_text n k gs ≡ cascade_text m l hs → (n ≡ m) × (k ≡ l) × (gs ≡ hs)
unfolding cascade_text head_forms
cascade_text_is n m k l gs hs p q e =
    let r = headed_is n m (keep_forms k ++ as_forms gs) (keep_forms l ++ as_forms hs) (rendered_is (lines n ∷ (keep_forms k ++ as_forms gs)) (lines m ∷ (keep_forms l ++ as_forms hs)) p q e) in
    let w = below_is k l gs hs r.1 in
    (r.0, w.0, w.1)
