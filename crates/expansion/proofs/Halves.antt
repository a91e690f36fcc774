-- The smaller gates of a gate with three or more controls, and the spares that they get. Assumes nothing.
use mathlib.Core.Path.{◌≡◌, refl, ap, ap₂, ◌∙◌}
use mathlib.Core.List.{List, [], ◌∷◌, ◌++◌}
use Prim.Native.Nat.{ℕ, zero, suc, ◌+◌, ◌*◌, ◌/◌, ◌≤◌, ◌<◌}
use native.Mathlib.Omega.{arith}
use lib.ListN.{length, take, drop, length-append, length-take, length-drop}
use lib.Seq.{length-slice}
use Rattle.gates.specs.declared.Gate.{Gate}
use Rattle.cascades.specs.Expansion.{joined, mct_spares, first_spare, m0_spares, m1_spares, expand, expand_with, Expandable}
use Rattle.cascades.specs.Cascade.{Below}
use Rattle.cascades.proofs.Spare.{distinct_length}
use Rattle.cascades.proofs.Spared.{spared_m0, spared_m1, mct_spared}
use Rattle.cascades.proofs.Counts.{length_joined}
use Rattle.cascades.proofs.Halves.{below_more}
use Rattle.spares.specs.declared.spare_lines.Spares.{Spares}
use Rattle.spares.specs.Spares.{listed, Lists}
use Rattle.expansion.specs.Spares.{SparesOf}

-- what bounds the recursion does not matter, if it is more than the number of controls
any_bound : (f g : ℕ) (sp l : List ℕ) (t : ℕ) → length l < f → length l < g → expand f sp l t ≡ expand g sp l t
unfolding expand
any_bound zero g sp l t h k = absurd (omega arith)
any_bound (suc f) zero sp l t h k = absurd (omega arith)
any_bound (suc f) (suc g) sp [] t h k = refl
any_bound (suc f) (suc g) sp (a ∷ []) t h k = refl
any_bound (suc f) (suc g) sp (a ∷ b ∷ []) t h k = refl
any_bound (suc f) (suc g) sp (a ∷ b ∷ c ∷ cs) t h k =
    let l : List ℕ = a ∷ b ∷ c ∷ cs in
    let half : ℕ = length l / 2 in
    let s : ℕ = first_spare sp in
    let x = length-take half l in
    let y = length-drop half l in
    ap₂ (λ (p q : List Gate). joined s t p q) (any_bound f g (m0_spares sp l t) (take half l) s (omega arith) (omega arith)) (any_bound f g (m1_spares sp l) (drop half l) s (omega arith) (omega arith))

expand_joined : (sp l : List ℕ) (t : ℕ) → 3 ≤ length l → let s = first_spare sp in expand_with sp l t ≡ joined s t (expand_with (m0_spares sp l t) (take (length l / 2) l) s) (expand_with (m1_spares sp l) (drop (length l / 2) l) s)
unfolding expand expand_with
expand_joined sp [] t h = absurd (omega arith)
expand_joined sp (a ∷ []) t h = absurd (omega arith)
expand_joined sp (a ∷ b ∷ []) t h = absurd (omega arith)
expand_joined sp (a ∷ b ∷ c ∷ cs) t h =
    let l : List ℕ = a ∷ b ∷ c ∷ cs in
    let half : ℕ = length l / 2 in
    let s : ℕ = first_spare sp in
    let x = length-take half l in
    let y = length-drop half l in
    ap₂ (λ (p q : List Gate). joined s t p q)
    (any_bound (length l) (suc (length (take half l))) (m0_spares sp l t) (take half l) s (omega arith) (omega arith))
    (any_bound (length l) (suc (length (drop half l))) (m1_spares sp l) (drop half l) s (omega arith) (omega arith))

-- ---- a gate and its smaller gates, with its controls x and with its controls y, on its first spare s and with spares p and q

-- there is a spare, with room for all controls behind the spares
pub spare_there : {cs : List ℕ} {t : ℕ} {s : Spares} → length s.lines ≡ 32 → 3 ≤ length cs → SparesOf cs t s → (s.first < s.end) × (s.end + length cs < 32)
unfolding listed
spare_there {s = s} e k w = (omega (arith, w.spared.enough k, w.room, length-slice s.first s.end s.lines (omega (arith, w.room))), w.room)

pub record Split (sp l x y : List ℕ) (t s : ℕ) (p q : Spares) : Type 0 where
  pub first : SparesOf x s p
  pub second : SparesOf y s q
  pub fewer : length x < length l
  pub fewer_second : length y < length l
  pub whole : expand_with sp l t ≡ joined s t (expand_with (listed p) x s) (expand_with (listed q) y s)
  pub room : length (expand_with sp l t) ≡ 4 + 2 * (length (expand_with (listed p) x s) + length (expand_with (listed q) y s))

-- x are the first half of the controls, and y the others
pub split : {a p q : Spares} {l x y sp : List ℕ} {t h : ℕ} → length a.lines ≡ 32 → 3 ≤ length l → SparesOf l t a → h ≡ length l / 2 → x ≡ take h l → y ≡ drop h l → sp ≡ listed a
    → Lists p a.first (a.end + length y) (t ∷ (drop 1 (listed a) ++ y))
    → Lists q (a.first + 1) (a.end + length x) (drop 1 (listed a) ++ x)
    → Split (listed a) l x y t (first_spare sp) p q
split {a} {p} {q} {l} {x} {y} {sp} {t} {h} e k w h-is x-is y-is sp-is lp lq =
    let long = ap length x-is ∙ length-take h l in
    let rest = ap length y-is ∙ length-drop h l in
    let there = spare_there e k w in
    let s = first_spare sp in
    let p_are : listed p ≡ m0_spares (listed a) l t = lp.are ∙ rw (y-is, h-is) in
    let q_are : listed q ≡ m1_spares (listed a) l = lq.are ∙ rw (x-is, h-is) in
    let whole : expand_with (listed a) l t ≡ joined s t (expand_with (listed p) x s) (expand_with (listed q) y s) = rw (p_are, q_are, sp-is, x-is, y-is, h-is) (expand_joined (listed a) l t k) in
    record {
      first = record { spared = rw (p_are, sp-is, x-is, h-is) (spared_m0 32 k w.spared); room = omega (arith, lp.ends, w.room) };
      second = record { spared = rw (q_are, sp-is, y-is, h-is) (spared_m1 32 k w.spared); room = omega (arith, lq.ends, w.room) };
      fewer = omega arith;
      fewer_second = omega arith;
      whole = whole;
      room = ap length whole ∙ length_joined s t (expand_with (listed p) x s) (expand_with (listed q) y s);
    }

-- ---- the spares of an mct gate

pub mct_spares_of : (n : ℕ) (kept cs : List ℕ) (t : ℕ) (s : Spares) → n ≤ 32 → Expandable n kept cs t → Below n cs → Lists s 0 (length (mct_spares n kept cs t)) (mct_spares n kept cs t) → SparesOf cs t s
mct_spares_of n kept cs t s few w b l =
    let p = mct_spared n kept w b in
    let long = distinct_length n (t ∷ (cs ++ mct_spares n kept cs t)) p.apart p.below in
    record {
      spared = rw l.are (record { apart = p.apart; below = below_more n 32 (t ∷ (cs ++ mct_spares n kept cs t)) few p.below; enough = p.enough });
      room = omega (arith, l.ends, long, length-append cs (mct_spares n kept cs t));
    }
