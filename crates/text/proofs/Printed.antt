-- What is read is what is written: `reads` and `read_only`. Assumes nothing.
use mathlib.Core.Path.{◌≡◌, refl, sym, ap, ◌∙◌, subst, subst₂}
use mathlib.Core.Logic.{◌⊎◌, inl, inr, ◌≢◌, ⊎_elim}
use mathlib.Core.Bool.{Bool, true, false, cond, not, ◌&&◌}
use mathlib.Core.List.{List, [], ◌∷◌, ◌++◌, append_assoc, append-nil}
use Prim.Native.Nat.{ℕ, zero, suc, ◌+◌, ◌-◌, ◌*◌, ◌/◌, ◌%◌, ◌≤◌, ◌<◌}
use native.Mathlib.Omega.{arith}
use lib.ListN.{length, length-append}
use lib.Dec.{eqb, ltb, leb}
use borrow.Author.Tests.{ne_eqb, le-leb, le-ltb, lt-ltb, eqb-true, eqb-false, leb-true, ltb-true, ltb-false, not-true}
use Rattle.gates.specs.declared.Gate.TheVariants.{Not, Powered}
use Rattle.meaning.proofs.Flips.{both}
use Rattle.cascades.specs.declared.Control.{Control}
use Rattle.cascades.specs.Control.{positive, negative, control_lines, negated_lines}
use Rattle.cascades.proofs.Signless.{positive_lines, none_negated}
use Rattle.text.specs.Text.{Short, Proper, rendered, AllProper, Form, lines, keep, gate, mct, bytes, digits, written, spaced, unsigned, one, two, word, render}
use Rattle.text.specs.Reading.{Got, got, none, bind, if_got, strip, digit, second, num, tail, pair, signed, control, controls, list, many, without_sign, numbers, lines_body, keep_body, not_body, mct_body, powered_body, parse, in_form, unformed, whole, read, longer, cut}

-- ---- booleans and answers

pub none_got : {A : Type 0} {a : A} {s : List ℕ} → none ≡ got a s → ⊥
none_got e = let z : ◌≡◌ {A = ℕ} 0 1 = cc in omega arith

pub unbind : {A B : Type 0} (g : Got A) (f : A → List ℕ → Got B) {b : B} {r : List ℕ} → bind g f ≡ got b r → (a : A) × (s : List ℕ) × (g ≡ got a s) × (f a s ≡ got b r)
unbind (got a s) f e = (a, s, refl, e)
unbind none f e = absurd (none_got e)

unelse : {A B : Type 0} (g : Got A) (f : A → List ℕ → Got B) (z : Got B) {b : B} {r : List ℕ} → if_got g f z ≡ got b r → ((a : A) × (s : List ℕ) × (g ≡ got a s) × (f a s ≡ got b r)) ⊎ (z ≡ got b r)
unelse (got a s) f z e = inl (a, s, refl, e)
unelse none f z e = inr e

-- the same answer, and the same bytes after it
pub got_is : {A : Type 0} {a b : A} {s t : List ℕ} → got a s ≡ got b t → (a ≡ b) × (s ≡ t)
got_is e = (cc, cc)

-- ---- words

pub strip_sound : (w s r : List ℕ) → strip w s ≡ got tt r → s ≡ w ++ r
unfolding strip
strip_sound [] s r e = cc
strip_sound (a ∷ w) [] r e = absurd (none_got e)
strip_sound (a ∷ w) (b ∷ s) r e = go (strip_sound w s r) (eqb b a) refl e
  where
    go : (strip w s ≡ got tt r → s ≡ w ++ r) → (t : Bool) → eqb b a ≡ t → cond t (strip w s) none ≡ got tt r → b ∷ s ≡ a ∷ w ++ r
    go f true q h = let x : b ≡ a = eqb-true b a q in let y : s ≡ w ++ r = f h in cc
    go f false q h = absurd (none_got h)

-- ---- numbers

pub digit_yes : (a : ℕ) → 48 ≤ a → a ≤ 57 → digit a ≡ true
digit_yes a h k = rw (le-leb 48 a h, le-leb a 57 k)

-- a 0 stands alone: of `03` it is the number, and 3 is left
zero_alone : num (bytes "03") ≡ got 0 (bytes "3")
unfolding num
zero_alone = refl

num_digits : (n b : ℕ) (s : List ℕ) → n < 100 → digit b ≡ false → num (digits n ++ b ∷ s) ≡ got n (b ∷ s)
unfolding num digits second
num_digits n b s h d = go (ltb n 10) refl (eqb n 0) refl
  where
    go : (t : Bool) → ltb n 10 ≡ t → (u : Bool) → eqb n 0 ≡ u → num (cond t ((48 + n) ∷ []) ((48 + n / 10) ∷ (48 + n % 10) ∷ []) ++ b ∷ s) ≡ got n (b ∷ s)
    go true e true z = let e' = eqb-true n 0 z in rw e'
    go true e false z =
        let l = ltb-true n 10 e in
        let m = eqb-false n 0 z in
        let k : 48 + n ≡ 48 → ⊥ = λ q. m (omega arith) in
        let x : 48 + n - 48 ≡ n = omega arith in
        rw (digit_yes (48 + n) (omega arith) (omega arith), ne_eqb (48 + n) 48 k, d, x)
    go false e u z =
        let l = ltb-false n 10 e in
        let k : 48 + n / 10 ≡ 48 → ⊥ = λ q. omega arith in
        let x : (48 + n / 10 - 48) * 10 + (48 + n % 10 - 48) ≡ n = omega arith in
        rw (digit_yes (48 + n / 10) (omega arith) (omega arith), ne_eqb (48 + n / 10) 48 k, digit_yes (48 + n % 10) (omega arith) (omega arith), x)

digits_one : (n : ℕ) → n < 10 → digits n ≡ (48 + n) ∷ []
unfolding digits
digits_one n h = rw (lt-ltb n 10 h)

digits_two : (n : ℕ) → 10 ≤ n → digits n ≡ (48 + n / 10) ∷ (48 + n % 10) ∷ []
unfolding digits
digits_two n h = rw (le-ltb n 10 h)

one_digit : (a n : ℕ) (s r : List ℕ) → 48 ≤ a → a ≤ 57 → ◌≡◌ {A = Got ℕ} (got (a - 48) s) (got n r) → (a ∷ s ≡ digits n ++ r) × (n < 100)
one_digit a n s r h k e =
    let x : a - 48 ≡ n = cc in
    let y : s ≡ r = cc in
    let z : a ≡ 48 + n = omega arith in
    (rw (digits_one n (omega arith), z, y), omega arith)

second_sound : (a : ℕ) (s : List ℕ) (n : ℕ) (r : List ℕ) → 48 ≤ a → a ≤ 57 → (a ≡ 48 → ⊥) → second (a - 48) s ≡ got n r → (a ∷ s ≡ digits n ++ r) × (n < 100)
unfolding second
second_sound a [] n r h k m e = one_digit a n [] r h k e
second_sound a (b ∷ s) n r h k m e = go (digit b) refl e
  where
    go : (t : Bool) → digit b ≡ t → cond t (got ((a - 48) * 10 + (b - 48)) s) (got (a - 48) (b ∷ s)) ≡ got n r → (a ∷ b ∷ s ≡ digits n ++ r) × (n < 100)
    go false d q = one_digit a n (b ∷ s) r h k q
    go true d q =
        let dd = both (leb 48 b) (leb b 57) d in
        let d0 = leb-true 48 b dd.0 in
        let d1 = leb-true b 57 dd.1 in
        let m1 : a ≢ 48 = m in
        let x : (a - 48) * 10 + (b - 48) ≡ n = cc in
        let y : s ≡ r = cc in
        let u : a ≡ 48 + n / 10 = omega arith in
        let w : b ≡ 48 + n % 10 = omega arith in
        (rw (digits_two n (omega arith)) (ap (λ (l : List ℕ). a ∷ b ∷ l) y ∙ ap (λ (z : ℕ). z ∷ b ∷ r) u ∙ ap (λ (z : ℕ). (48 + n / 10) ∷ z ∷ r) w), omega arith)

num_sound : (s : List ℕ) (n : ℕ) (r : List ℕ) → num s ≡ got n r → (s ≡ digits n ++ r) × (n < 100)
unfolding num digits
num_sound [] n r e = absurd (none_got e)
num_sound (a ∷ s) n r e = go (digit a) refl (eqb a 48) refl e
  where
    go : (t : Bool) → digit a ≡ t → (u : Bool) → eqb a 48 ≡ u → cond t (cond u (got 0 s) (second (a - 48) s)) none ≡ got n r → (a ∷ s ≡ digits n ++ r) × (n < 100)
    go false d u z q = absurd (none_got q)
    go true d true z q =
        let x : 0 ≡ n = cc in
        let y : s ≡ r = cc in
        (rw (← x, y, eqb-true a 48 z), omega arith)
    go true d false z q =
        let dd = both (leb 48 a) (leb a 57) d in
        second_sound a s n r (leb-true 48 a dd.0) (leb-true a 57 dd.1) (eqb-false a 48 z) q

-- ---- `t)`, `c t)`

tail_one : (t : ℕ) (r : List ℕ) → t < 100 → tail (one t ++ r) ≡ got t r
unfolding tail one strip
tail_one t r h = rw (append_assoc (digits t) (41 ∷ 10 ∷ []) r, num_digits t 41 (10 ∷ r) h refl)

tail_sound : (s : List ℕ) (t : ℕ) (r : List ℕ) → tail s ≡ got t r → (s ≡ one t ++ r) × (t < 100)
unfolding tail one
tail_sound s t r e =
    let w = unbind (num s) _ e in
    let x = unbind (strip (41 ∷ 10 ∷ []) w.1) _ w.3 in
    go w.0 w.1 x.1 w.2 x.2 x.3
  where
    go : (t' : ℕ) (s' r' : List ℕ) → num s ≡ got t' s' → strip (41 ∷ 10 ∷ []) s' ≡ got tt r' → got t' r' ≡ got t r → (s ≡ (digits t ++ 41 ∷ 10 ∷ []) ++ r) × (t < 100)
    go t' s' r' e₁ e₂ e₃ =
        let n = num_sound s t' s' e₁ in
        let y : t' ≡ t = cc in
        let z : r' ≡ r = cc in
        (n.0 ∙ ap (λ (l : List ℕ). digits t' ++ l) (strip_sound (41 ∷ 10 ∷ []) s' r' e₂) ∙ rw (y, z, append_assoc (digits t) (41 ∷ 10 ∷ []) r), rw y at n.1)

-- what comes before a space and the target
pub target_sound : {A : Type 0} (g : Got A) {a : A} {t : ℕ} {r : List ℕ} → bind {B = A × ℕ} g (λ b s. bind (strip (32 ∷ []) s) (λ _ s'. bind (tail s') (λ u s''. got (b, u) s''))) ≡ got (a, t) r → (g ≡ got a (32 ∷ one t ++ r)) × (t < 100)
target_sound {A} g {a} {t} {r} e =
    let w = unbind g _ e in
    let x = unbind (strip (32 ∷ []) w.1) _ w.3 in
    let u = unbind (tail x.1) _ x.3 in
    go w.0 u.0 w.1 x.1 u.1 w.2 x.2 u.2 (got_is u.3)
  where
    go : (b : A) (u : ℕ) (s s' s'' : List ℕ) → g ≡ got b s → strip (32 ∷ []) s ≡ got tt s' → tail s' ≡ got u s'' → (◌≡◌ {A = A × ℕ} (b, u) (a, t)) × (s'' ≡ r) → (g ≡ got a (32 ∷ one t ++ r)) × (t < 100)
    go b u s s' s'' e₁ e₂ e₃ k =
        let q = tail_sound s' u s'' e₃ in
        let i : b ≡ a = ap (λ (p : A × ℕ). p.0) k.0 in
        let j : u ≡ t = ap (λ (p : A × ℕ). p.1) k.0 in
        (e₁ ∙ rw (i, strip_sound (32 ∷ []) s s' e₂, q.0, j, k.1), rw j at q.1)

pair_two : (c t : ℕ) (r : List ℕ) → c < 100 → t < 100 → pair (two c t ++ r) ≡ got (c, t) r
unfolding pair two strip
pair_two c t r h k = rw (append_assoc (digits c) (32 ∷ one t) r, num_digits c 32 (one t ++ r) h refl, tail_one t r k)

pair_sound : (s : List ℕ) (c t : ℕ) (r : List ℕ) → pair s ≡ got (c, t) r → (s ≡ two c t ++ r) × (c < 100) × (t < 100)
unfolding pair two
pair_sound s c t r e =
    let h = target_sound (num s) e in
    let n = num_sound s c (32 ∷ one t ++ r) h.0 in
    (n.0 ∙ sym (append_assoc (digits c) (32 ∷ one t) r), n.1, h.1)

-- ---- controls

-- `-0` and `-12` are controls with a sign; of `--1` there is none; a sign is written, and stands at no target
minus_zero : signed (bytes "-0)") ≡ got (negative 0) (bytes ")")
unfolding signed strip num second
minus_zero = refl

minus_written : written (negative 12) ≡ bytes "-12"
unfolding written digits
minus_written = refl

minus_twice : signed (bytes "--1)") ≡ none
unfolding signed strip num second
minus_twice = refl

minus_at_target : many (bytes ") -1)\n") ≡ none
unfolding many list strip tail num second signed
minus_at_target = refl

-- a number begins with none of the bytes below `0`
pub strip_digits : (b c : ℕ) (s : List ℕ) → b < 48 → strip (b ∷ []) (digits c ++ s) ≡ none
unfolding strip digits
strip_digits b c s h = go (ltb c 10)
  where
    go : (t : Bool) → strip (b ∷ []) (cond t ((48 + c) ∷ []) ((48 + c / 10) ∷ (48 + c % 10) ∷ []) ++ s) ≡ none
    go true = rw (ne_eqb (48 + c) b (λ q. omega (arith, h)))
    go false = rw (ne_eqb (48 + c / 10) b (λ q. omega (arith, h)))

signed_written : (c : Control) (b : ℕ) (s : List ℕ) → c.line < 100 → digit b ≡ false → signed (written c ++ b ∷ s) ≡ got c (b ∷ s)
unfolding signed written
signed_written c b s h d = go c.negated refl
  where
    go : (g : Bool) → c.negated ≡ g → signed (cond g (bytes "-" ++ digits c.line) (digits c.line) ++ b ∷ s) ≡ got c (b ∷ s)
    go true e = unfold strip in rw (num_digits c.line b s h d, ← e)
    go false e = rw (strip_digits 45 c.line (b ∷ s) (omega arith), num_digits c.line b s h d, ← e)

signed_sound : (s : List ℕ) (c : Control) (r : List ℕ) → signed s ≡ got c r → (s ≡ written c ++ r) × (c.line < 100)
unfolding signed
signed_sound s c r e = go (unelse (strip (45 ∷ []) s) _ _ e)
  where
    sign : (g : Bool) (n : ℕ) (s' r' : List ℕ) → s' ≡ digits n ++ r' → cond g (45 ∷ s') s' ≡ written (record { line = n; negated = g }) ++ r'
    sign true n s' r' q = unfold written in ap (λ (l : List ℕ). 45 ∷ l) q
    sign false n s' r' q = unfold written in q

    -- a number n after the bytes of the sign g
    done : (g : Bool) (n : ℕ) (s' r' : List ℕ) → num s' ≡ got n r' → ◌≡◌ {A = Got Control} (got (record { line = n; negated = g }) r') (got c r) → (cond g (45 ∷ s') s' ≡ written c ++ r) × (c.line < 100)
    done g n s' r' e₁ e₂ =
        let q = num_sound s' n r' e₁ in
        let k = got_is e₂ in
        rw (← k.0, ← k.1) (sign g n s' r' q.0, q.1)

    go : ((a : Unit {0}) × (s' : List ℕ) × (strip (45 ∷ []) s ≡ got a s') × (◌≡◌ {A = Got Control} (bind (num s') (λ n. got (record { line = n; negated = true }))) (got c r))) ⊎ (◌≡◌ {A = Got Control} (bind (num s) (λ n. got (record { line = n; negated = false }))) (got c r)) → (s ≡ written c ++ r) × (c.line < 100)
    go (inl x) = let w = unbind (num x.1) _ x.3 in let d = done true w.0 x.1 w.1 w.2 w.3 in (strip_sound (45 ∷ []) s x.1 x.2 ∙ d.0, d.1)
    go (inr y) = let w = unbind (num s) _ y in done false w.0 s w.1 w.2 w.3

control_more : (c : Control) (s : List ℕ) → c.line < 100 → control (written c ++ 32 ∷ s) ≡ got (c, true) s
unfolding control strip
control_more c s h = rw (signed_written c 32 s h refl)

control_last : (c : Control) (s : List ℕ) → c.line < 100 → control (written c ++ 41 ∷ s) ≡ got (c, false) s
unfolding control strip
control_last c s h = rw (signed_written c 41 s h refl)

controls_spaced : (k : ℕ) (c : Control) (cs : List Control) (r : List ℕ) → length cs < k → Short (c ∷ cs) → controls k (spaced (c ∷ cs) ++ 41 ∷ r) ≡ got (c ∷ cs) r
unfolding controls spaced
controls_spaced zero c cs r h m = absurd (omega arith)
controls_spaced (suc k) c [] r h m = rw (control_last c r m.0)
controls_spaced (suc k) c (d ∷ cs) r h m =
    rw (append_assoc (written c) (32 ∷ spaced (d ∷ cs)) (41 ∷ r), control_more c (spaced (d ∷ cs) ++ 41 ∷ r) m.0, controls_spaced k d cs r (omega arith) m.1)

pub control_sound : (s : List ℕ) (c : Control) (b : Bool) (r : List ℕ) → control s ≡ got (c, b) r → (s ≡ written c ++ (cond b 32 41) ∷ r) × (c.line < 100)
unfolding control
control_sound s c b r e = let w = unbind (signed s) _ e in go w.0 w.1 w.2 (unelse (strip (32 ∷ []) w.1) _ _ w.3)
  where
    done : (c' : Control) (b' : Bool) (s' r' : List ℕ) → signed s ≡ got c' s' → strip (cond b' 32 41 ∷ []) s' ≡ got tt r' → ◌≡◌ {A = Got (Control × Bool)} (got (c', b') r') (got (c, b) r) → (s ≡ written c ++ (cond b 32 41) ∷ r) × (c.line < 100)
    done c' b' s' r' e₁ e₂ e₃ =
        let n = signed_sound s c' s' e₁ in
        let i : c' ≡ c = ap (λ (p : Control × Bool). p.0) (got_is e₃).0 in
        let j : b' ≡ b = ap (λ (p : Control × Bool). p.1) (got_is e₃).0 in
        let z : r' ≡ r = cc in
        (n.0 ∙ ap (λ (l : List ℕ). written c' ++ l) (strip_sound (cond b' 32 41 ∷ []) s' r' e₂) ∙ rw (i, j, z), rw i at n.1)

    go : (c' : Control) (s' : List ℕ) → signed s ≡ got c' s'
        → ((a : Unit {0}) × (s'' : List ℕ) × (strip (32 ∷ []) s' ≡ got a s'') × (◌≡◌ {A = Got (Control × Bool)} (got (c', true) s'') (got (c, b) r))) ⊎ (◌≡◌ {A = Got (Control × Bool)} (bind (strip (41 ∷ []) s') (λ _ s''. got (c', false) s'')) (got (c, b) r))
        → (s ≡ written c ++ (cond b 32 41) ∷ r) × (c.line < 100)
    go c' s' e₁ (inl x) = done c' true s' x.1 e₁ x.2 x.3
    go c' s' e₁ (inr y) = let x = unbind (strip (41 ∷ []) s') _ y in done c' false s' x.1 e₁ x.2 x.3

-- a list of controls that is not empty
abbrev Some : List Control → Type 0
Some [] = ⊥
Some (c ∷ cs) = Unit {0}

controls_sound : (k : ℕ) (s : List ℕ) (cs : List Control) (r : List ℕ) → controls k s ≡ got cs r → (s ≡ spaced cs ++ 41 ∷ r) × Short cs × Some cs
unfolding controls spaced
controls_sound zero s cs r e = absurd (none_got e)
controls_sound (suc k) s cs r e =
    let w = unbind (control s) _ e in
    go w.0.0 w.0.1 w.1 w.2 w.3 (controls_sound k)
  where
    more : (c : Control) (s' : List ℕ) (ds : List Control) (r' : List ℕ) → control s ≡ got (c, true) s' → (s' ≡ spaced ds ++ 41 ∷ r') × Short ds × Some ds → (s ≡ spaced (c ∷ ds) ++ 41 ∷ r') × Short (c ∷ ds) × Some (c ∷ ds)
    more c s' [] r' e₁ h = absurd h.2
    more c s' (d ∷ ds) r' e₁ h =
        let q = control_sound s c true s' e₁ in
        (q.0 ∙ ap (λ (l : List ℕ). written c ++ 32 ∷ l) h.0 ∙ sym (append_assoc (written c) (32 ∷ spaced (d ∷ ds)) (41 ∷ r')), (q.1, h.1), tt)

    go : (c : Control) (b : Bool) (s' : List ℕ) → control s ≡ got (c, b) s'
        → cond b (bind (controls k s') (λ ds s''. got (c ∷ ds) s'')) (got (c ∷ []) s') ≡ got cs r
        → ((s : List ℕ) (ds : List Control) (r : List ℕ) → controls k s ≡ got ds r → (s ≡ spaced ds ++ 41 ∷ r) × Short ds × Some ds)
        → (s ≡ spaced cs ++ 41 ∷ r) × Short cs × Some cs
    go c false s' e₁ e₂ f =
        let q = control_sound s c false s' e₁ in
        let y : c ∷ [] ≡ cs = cc in
        let z : s' ≡ r = cc in
        rw (← y, ← z) (q.0, (q.1, tt), tt)
    go c true s' e₁ e₂ f =
        let w = unbind (controls k s') _ e₂ in
        let y : c ∷ w.0 ≡ cs = cc in
        let z : w.1 ≡ r = cc in
        subst₂ (λ (l : List Control) (m : List ℕ). (s ≡ spaced l ++ 41 ∷ m) × Short l × Some l) y z (more c s' w.0 w.1 e₁ (f s' w.0 w.1 w.2))

strip_written : (c : Control) (s : List ℕ) → strip (41 ∷ []) (written c ++ s) ≡ none
unfolding written
strip_written c s = go c.negated
  where
    go : (g : Bool) → strip (41 ∷ []) (cond g (bytes "-" ++ digits c.line) (digits c.line) ++ s) ≡ none
    go true = unfold strip in refl
    go false = strip_digits 41 c.line s (omega arith)

-- the printed controls are none shorter than their number
spaced_long : (c : Control) (cs : List Control) (r : List ℕ) → length cs < length (spaced (c ∷ cs) ++ 41 ∷ r)
unfolding spaced
spaced_long c [] r = rw (length-append (written c) (41 ∷ r)) (omega arith)
spaced_long c (d ∷ cs) r =
    let h = spaced_long d cs r in
    rw (append_assoc (written c) (32 ∷ spaced (d ∷ cs)) (41 ∷ r), length-append (written c) (32 ∷ spaced (d ∷ cs) ++ 41 ∷ r)) (omega arith)

strip_spaced : (c : Control) (cs : List Control) (r : List ℕ) → strip (41 ∷ []) (spaced (c ∷ cs) ++ 41 ∷ r) ≡ none
unfolding spaced
strip_spaced c [] r = strip_written c (41 ∷ r)
strip_spaced c (d ∷ cs) r = rw (append_assoc (written c) (32 ∷ spaced (d ∷ cs)) (41 ∷ r)) (strip_written c (32 ∷ spaced (d ∷ cs) ++ 41 ∷ r))

list_spaced : (cs : List Control) (r : List ℕ) → Short cs → list (spaced cs ++ 41 ∷ r) ≡ got cs r
unfolding list
list_spaced [] r m = unfold strip spaced in refl
list_spaced (c ∷ cs) r m = rw (strip_spaced c cs r) (controls_spaced (length (spaced (c ∷ cs) ++ 41 ∷ r)) c cs r (spaced_long c cs r) m)

list_none : (s : List ℕ) (cs : List Control) (r s' : List ℕ) → strip (41 ∷ []) s ≡ got tt s' → got [] s' ≡ got cs r → (s ≡ spaced cs ++ 41 ∷ r) × Short cs
unfolding spaced
list_none s cs r s' e₁ e₂ =
    let y : [] ≡ cs = cc in
    let z : s' ≡ r = cc in
    rw (← y, ← z) (strip_sound (41 ∷ []) s s' e₁, tt)

list_sound : (s : List ℕ) (cs : List Control) (r : List ℕ) → list s ≡ got cs r → (s ≡ spaced cs ++ 41 ∷ r) × Short cs
unfolding list
list_sound s cs r e = go (unelse (strip (41 ∷ []) s) _ _ e)
  where
    go : ((a : Unit {0}) × (s' : List ℕ) × (strip (41 ∷ []) s ≡ got a s') × (got [] s' ≡ got cs r)) ⊎ (controls (length s) s ≡ got cs r) → (s ≡ spaced cs ++ 41 ∷ r) × Short cs
    go (inl x) = list_none s cs r x.1 x.2 x.3
    go (inr y) = let h = controls_sound (length s) s cs r y in (h.0, h.1)

-- ---- numbers without a sign

-- of `(keep)` and `(keep )` nothing is kept, nor of a number with a sign
nothing_kept : numbers (bytes ")\n") ≡ none
unfolding numbers controls control signed strip num
nothing_kept = refl

sign_kept : numbers (bytes "1 -2)\n") ≡ none
unfolding numbers controls control signed strip num second without_sign negated_lines
sign_kept = refl

numbers_spaced : (a : ℕ) (l r : List ℕ) → Short (unsigned (a ∷ l)) → numbers (spaced (unsigned (a ∷ l)) ++ 41 ∷ 10 ∷ r) ≡ got (a ∷ l) r
unfolding numbers strip without_sign
numbers_spaced a l r h =
    let c = positive a in
    let cs = unsigned l in
    rw (controls_spaced (length (spaced (c ∷ cs) ++ 41 ∷ 10 ∷ r)) c cs (10 ∷ r) (spaced_long c cs (10 ∷ r)) h, none_negated (a ∷ l), positive_lines (a ∷ l))

-- controls without a sign are numbers
pub no_signs : (cs : List Control) → length (negated_lines cs) ≡ 0 → cs ≡ unsigned (control_lines cs)
unfolding control_lines negated_lines
no_signs [] e = refl
no_signs (c ∷ cs) e = go c.negated refl e (no_signs cs)
  where
    go : (b : Bool) → c.negated ≡ b → length (cond b (c.line ∷ negated_lines cs) (negated_lines cs)) ≡ 0 → (length (negated_lines cs) ≡ 0 → cs ≡ unsigned (control_lines cs)) → c ∷ cs ≡ unsigned (c.line ∷ control_lines cs)
    go true q h ih = absurd (omega arith)
    go false q h ih =
        let p : c ≡ positive c.line = λ i. record { line = c.line; negated = q i } in
        let z : cs ≡ unsigned (control_lines cs) = ih h in
        cc

numbers_sound : (s l r : List ℕ) → numbers s ≡ got l r → (s ≡ spaced (unsigned l) ++ 41 ∷ 10 ∷ r) × Proper (keep l)
unfolding numbers without_sign control_lines
numbers_sound s l r e =
    let w = unbind (controls (length s) s) _ e in
    let x = unbind (strip (10 ∷ []) w.1) _ w.3 in
    let h = controls_sound (length s) s w.0 w.1 w.2 in
    go w.0 x.1 (h.0 ∙ ap (λ (t : List ℕ). spaced w.0 ++ 41 ∷ t) (strip_sound (10 ∷ []) w.1 x.1 x.2)) h.1 h.2 (eqb (length (negated_lines w.0)) 0) refl x.3
  where
    kept : (cs : List Control) → Short cs → Some cs → cs ≡ unsigned (control_lines cs) → Proper (keep (control_lines cs))
    kept [] h m q = absurd m
    kept (c ∷ cs) h m q = subst Short q h

    go : (cs : List Control) (r' : List ℕ) → s ≡ spaced cs ++ 41 ∷ 10 ∷ r' → Short cs → Some cs → (b : Bool) → eqb (length (negated_lines cs)) 0 ≡ b → cond b (got (control_lines cs) r') none ≡ got l r → (s ≡ spaced (unsigned l) ++ 41 ∷ 10 ∷ r) × Proper (keep l)
    go cs r' q h m false p z = absurd (none_got z)
    go cs r' q h m true p z =
        let u = no_signs cs (eqb-true (length (negated_lines cs)) 0 p) in
        let k = got_is z in
        rw (← k.0, ← k.1) (q ∙ ap (λ (ds : List Control). spaced ds ++ 41 ∷ 10 ∷ r') u, kept cs h m u)

-- ---- lines

-- after `(mct (`
abbrev after : List Control → ℕ → List ℕ
after cs t = spaced cs ++ 41 ∷ 32 ∷ one t

many_after : (cs : List Control) (t : ℕ) (r : List ℕ) → Short cs → t < 100 → many (after cs t ++ r) ≡ got (cs, t) r
unfolding many strip
many_after cs t r m h = rw (append_assoc (spaced cs) (41 ∷ 32 ∷ one t) r, list_spaced cs (32 ∷ one t ++ r) m, tail_one t r h)

many_sound : (s : List ℕ) (cs : List Control) (t : ℕ) (r : List ℕ) → many s ≡ got (cs, t) r → (s ≡ after cs t ++ r) × Short cs × (t < 100)
unfolding many
many_sound s cs t r e =
    let h = target_sound (list s) e in
    let n = list_sound s cs (32 ∷ one t ++ r) h.0 in
    (n.0 ∙ sym (append_assoc (spaced cs) (41 ∷ 32 ∷ one t) r), n.1, h.1)

-- what is written is parsed
pub parse_render : (f : Form) (r : List ℕ) → Proper f → parse (render f ++ r) ≡ got f r
unfolding parse strip render word lines_body keep_body not_body mct_body powered_body
parse_render (lines n) r h = rw (tail_one n r h)
parse_render (keep []) r h = absurd h
parse_render (keep (a ∷ l)) r h = rw (append_assoc (spaced (unsigned (a ∷ l))) (41 ∷ 10 ∷ []) r, numbers_spaced a l r h)
parse_render (gate (Not t)) r h = rw (tail_one t r h)
parse_render (gate (Powered zero c t)) r h = absurd (omega (arith, h.2))
parse_render (gate (Powered (suc zero) c t)) r h = rw (pair_two c t r h.0 h.1)
parse_render (gate (Powered (suc (suc zero)) c t)) r h = rw (pair_two c t r h.0 h.1)
parse_render (gate (Powered (suc (suc (suc zero))) c t)) r h = rw (pair_two c t r h.0 h.1)
parse_render (gate (Powered (suc (suc (suc (suc p)))) c t)) r h = absurd (omega (arith, h.3))
parse_render (mct cs t) r h = rw (many_after cs t r h.0 h.1)

to : (f' f : Form) (r' r : List ℕ) {x : List ℕ} → got f' r' ≡ got f r → (x ≡ render f' ++ r') × Proper f' → (x ≡ render f ++ r) × Proper f
to f' f r' r {x} e h =
    let y : f' ≡ f = cc in
    let z : r' ≡ r = cc in
    subst₂ (λ (g : Form) (m : List ℕ). (x ≡ render g ++ m) × Proper g) y z h

-- the rest of a line after its word
After : List ℕ → (List ℕ → Got Form) → Type 0
After w b = (s : List ℕ) (f : Form) (r : List ℕ) → b s ≡ got f r → (w ++ s ≡ render f ++ r) × Proper f

lines_sound : After (bytes "(lines ") lines_body
unfolding After lines_body render
lines_sound s f r e = let w = unbind (tail s) _ e in let h = tail_sound s w.0 w.1 w.2 in to (lines w.0) f w.1 r w.3 (ap (λ (l : List ℕ). bytes "(lines " ++ l) h.0, h.1)

keep_sound : After (bytes "(keep ") keep_body
unfolding After keep_body render
keep_sound s f r e = let w = unbind (numbers s) _ e in let h = numbers_sound s w.0 w.1 w.2 in
    to (keep w.0) f w.1 r w.3 (ap (λ (l : List ℕ). bytes "(keep " ++ l) (h.0 ∙ sym (append_assoc (spaced (unsigned w.0)) (41 ∷ 10 ∷ []) w.1)), h.1)

not_sound : After (bytes "(not ") not_body
unfolding After not_body render
not_sound s f r e = let w = unbind (tail s) _ e in let h = tail_sound s w.0 w.1 w.2 in to (gate (Not w.0)) f w.1 r w.3 (ap (λ (l : List ℕ). bytes "(not " ++ l) h.0, h.1)

powered_sound : (p : ℕ) → 1 ≤ p → p ≤ 3 → After (word p) (powered_body p)
unfolding After powered_body render
powered_sound p a b s f r e = let w = unbind (pair s) _ e in let h = pair_sound s w.0.0 w.0.1 w.1 w.2 in to (gate (Powered p w.0.0 w.0.1)) f w.1 r w.3 (ap (λ (l : List ℕ). word p ++ l) h.0 ∙ sym (append_assoc (word p) (two w.0.0 w.0.1) w.1), (h.1, h.2, a, b))

mct_sound : After (bytes "(mct (") mct_body
unfolding After mct_body render
mct_sound s f r e = let w = unbind (many s) _ e in let h = many_sound s w.0.0 w.0.1 w.1 w.2 in to (mct w.0.0 w.0.1) f w.1 r w.3 (ap (λ (l : List ℕ). bytes "(mct (" ++ l) h.0, (h.1, h.2))

-- what is parsed was written
pub parse_sound : (s : List ℕ) (f : Form) (r : List ℕ) → parse s ≡ got f r → (s ≡ render f ++ r) × Proper f
unfolding parse After word
parse_sound s f r e = ⊎_elim (at (bytes "(lines ") lines_body lines_sound) (λ e₀. ⊎_elim (at (bytes "(keep ") keep_body keep_sound) (λ e₁. ⊎_elim (at (bytes "(not ") not_body not_sound) (λ e₂. ⊎_elim (at (bytes "(cn ") (powered_body 2) (powered_sound 2 (omega arith) (omega arith))) (λ e₃. ⊎_elim (at (bytes "(v ") (powered_body 1) (powered_sound 1 (omega arith) (omega arith))) (λ e₄. ⊎_elim (at (bytes "(vp ") (powered_body 3) (powered_sound 3 (omega arith) (omega arith))) (λ e₅. at (bytes "(mct (") mct_body mct_sound (unbind (strip (bytes "(mct (") s) _ e₅)) (unelse (strip (bytes "(vp ") s) _ _ e₄)) (unelse (strip (bytes "(v ") s) _ _ e₃)) (unelse (strip (bytes "(cn ") s) _ _ e₂)) (unelse (strip (bytes "(not ") s) _ _ e₁)) (unelse (strip (bytes "(keep ") s) _ _ e₀)) (unelse (strip (bytes "(lines ") s) _ _ e)
  where
    at : (w : List ℕ) (b : List ℕ → Got Form) → After w b → (a : Unit {0}) × (s' : List ℕ) × (strip w s ≡ got a s') × (b s' ≡ got f r) → (s ≡ render f ++ r) × Proper f
    at w b h x = let k = h x.1 f r x.3 in (strip_sound w s x.1 x.2 ∙ k.0, k.1)

-- ---- lines

-- a written form is read
pub reads : (f : Form) → Proper f → read (render f) ≡ in_form f
unfolding read whole
reads f h = rw (sym (ap parse (append-nil (render f))) ∙ parse_render f [] h)

in_form_is : {f g : Form} → in_form f ≡ in_form g → f ≡ g
in_form_is e = cc

not_formed : {f : Form} → unformed ≡ in_form f → ⊥
not_formed e = let z : ◌≡◌ {A = ℕ} 0 1 = cc in omega arith

whole_only : (s : List ℕ) (f : Form) (g : Got Form) → parse s ≡ g → whole g ≡ in_form f → (s ≡ render f) × Proper f
unfolding whole
whole_only s f (got f' []) p q =
    let h = parse_sound s f' [] p in
    let e : f' ≡ f = in_form_is q in
    subst (λ (g : Form). (s ≡ render g) × Proper g) e (h.0 ∙ append-nil (render f'), h.1)
whole_only s f (got f' (b ∷ r)) p q = absurd (not_formed q)
whole_only s f none p q = absurd (not_formed q)

-- and only that
pub read_only : (s : List ℕ) (f : Form) → read s ≡ in_form f → (s ≡ render f) × Proper f
unfolding read
read_only s f e = whole_only s f (parse s) refl e

-- ---- cutting a text into lines

-- bytes with a byte 10 at the end and nowhere else
pub data Ended : List ℕ → Type 0 where
  end : Ended (10 ∷ [])
  more : {b : ℕ} {l : List ℕ} → eqb b 10 ≡ false → Ended l → Ended (b ∷ l)

abbrev clean : List ℕ → Bool
clean [] = true
clean (b ∷ w) = not (eqb b 10) && clean w

ended_word : (w : List ℕ) {l : List ℕ} → clean w ≡ true → Ended l → Ended (w ++ l)
ended_word [] e h = h
ended_word (b ∷ w) e h = let p = both (not (eqb b 10)) (clean w) e in more (not-true (eqb b 10) p.0) (ended_word w p.1 h)

clean_digits : (n : ℕ) → clean (digits n) ≡ true
unfolding digits
clean_digits n = go (ltb n 10)
  where
    go : (t : Bool) → clean (cond t ((48 + n) ∷ []) ((48 + n / 10) ∷ (48 + n % 10) ∷ [])) ≡ true
    go true = rw (ne_eqb (48 + n) 10 (λ e. omega arith))
    go false = rw (ne_eqb (48 + n / 10) 10 (λ e. omega arith), ne_eqb (48 + n % 10) 10 (λ e. omega arith))

clean_written : (c : Control) → clean (written c) ≡ true
unfolding written
clean_written c = go c.negated
  where
    go : (g : Bool) → clean (cond g (bytes "-" ++ digits c.line) (digits c.line)) ≡ true
    go true = clean_digits c.line
    go false = clean_digits c.line

ended_one : (t : ℕ) → Ended (one t)
unfolding one
ended_one t = ended_word (digits t) (clean_digits t) (ended_word (bytes ")") refl end)

ended_two : (c t : ℕ) → Ended (two c t)
unfolding two
ended_two c t = ended_word (digits c) (clean_digits c) (ended_word (bytes " ") refl (ended_one t))

ended_spaced : (cs : List Control) {l : List ℕ} → Ended l → Ended (spaced cs ++ l)
unfolding spaced
ended_spaced [] h = h
ended_spaced (c ∷ []) h = ended_word (written c) (clean_written c) h
ended_spaced (c ∷ d ∷ cs) {l} h =
    rw (append_assoc (written c) (32 ∷ spaced (d ∷ cs)) l) (ended_word (written c) (clean_written c) (ended_word (bytes " ") refl (ended_spaced (d ∷ cs) h)))

clean_word : (p : ℕ) → clean (word p) ≡ true
unfolding word
clean_word zero = refl
clean_word (suc zero) = refl
clean_word (suc (suc zero)) = refl
clean_word (suc (suc (suc p))) = refl

ended_render : (f : Form) → Ended (render f)
unfolding render
ended_render (lines n) = ended_word (bytes "(lines ") refl (ended_one n)
ended_render (keep l) = ended_word (bytes "(keep ") refl (ended_spaced (unsigned l) (ended_word (bytes ")") refl end))
ended_render (gate (Not t)) = ended_word (bytes "(not ") refl (ended_one t)
ended_render (gate (Powered p c t)) = ended_word (word p) (clean_word p) (ended_two c t)
ended_render (mct cs t) = ended_word (bytes "(mct (") refl (ended_spaced cs (ended_word (bytes ") ") refl (ended_one t)))

-- a line that is ended by its only byte 10 is cut off whole
pub cut_ended : {l : List ℕ} (s : List ℕ) → Ended l → cut (l ++ s) ≡ l ∷ cut s
unfolding cut longer
cut_ended s end = refl
cut_ended s (more e h) = rw (e, cut_ended s h)

-- so is a written form
pub cut_render : (f : Form) (s : List ℕ) → cut (render f ++ s) ≡ render f ∷ cut s
cut_render f s = cut_ended s (ended_render f)

unfoldable pub glued : List (List ℕ) → List ℕ
glued [] = []
glued (l ∷ ls) = l ++ glued ls

glued_longer : (b : ℕ) (ls : List (List ℕ)) → glued (longer b ls) ≡ b ∷ glued ls
unfolding glued longer
glued_longer b [] = refl
glued_longer b (l ∷ ls) = refl

-- the lines together are the text
pub glued_cut : (s : List ℕ) → glued (cut s) ≡ s
unfolding glued cut
glued_cut [] = refl
glued_cut (b ∷ s) = go (glued_cut s) (eqb b 10)
  where
    go : glued (cut s) ≡ s → (t : Bool) → glued (cond t ((b ∷ []) ∷ cut s) (longer b (cut s))) ≡ b ∷ s
    go h true = ap (λ (l : List ℕ). b ∷ l) h
    go h false = glued_longer b (cut s) ∙ ap (λ (l : List ℕ). b ∷ l) h

-- ---- a text can be read in one way only

cons_is : {A : Type 0} {a b : A} {s t : List A} → a ∷ s ≡ b ∷ t → (a ≡ b) × (s ≡ t)
cons_is e = (cc, cc)

pub nil_cons : {A : Type 0} {a : A} {s : List A} → [] ≡ a ∷ s → ⊥
nil_cons e = let z : ◌≡◌ {A = ℕ} 0 1 = cc in omega arith

cut_rendered : (f : Form) (fs : List Form) → cut (rendered (f ∷ fs)) ≡ render f ∷ cut (rendered fs)
unfolding rendered
cut_rendered f fs = cut_render f (rendered fs)

cut_nothing : cut (rendered []) ≡ []
unfolding rendered cut
cut_nothing = refl

render_is : (f g : Form) → Proper f → Proper g → render f ≡ render g → f ≡ g
render_is f g p q e = in_form_is (sym (reads f p) ∙ ap read e ∙ reads g q)

pub rendered_is : (fs gs : List Form) → AllProper fs → AllProper gs → rendered fs ≡ rendered gs → fs ≡ gs
rendered_is [] [] p q e = refl
rendered_is [] (g ∷ gs) p q e = absurd (nil_cons (sym cut_nothing ∙ ap cut e ∙ cut_rendered g gs))
rendered_is (f ∷ fs) [] p q e = absurd (nil_cons (sym cut_nothing ∙ ap cut (sym e) ∙ cut_rendered f fs))
rendered_is (f ∷ fs) (g ∷ gs) p q e =
    let h = cons_is (sym (cut_rendered f fs) ∙ ap cut e ∙ cut_rendered g gs) in
    let i : rendered fs ≡ rendered gs = sym (glued_cut (rendered fs)) ∙ ap glued h.1 ∙ glued_cut (rendered gs) in
    let a : f ≡ g = render_is f g p.0 q.0 h.0 in
    let b : fs ≡ gs = rendered_is fs gs p.1 q.1 i in
    cc
