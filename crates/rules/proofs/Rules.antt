-- The rules of a line, as the code tries them on what it kept of the line. Assumes nothing.
use mathlib.Core.Path.{◌≡◌, refl, sym, ap, ◌∙◌}
use mathlib.Core.Bool.{Bool, true, false, not, ◌&&◌, ◌||◌, or-false, or_self}
use mathlib.Core.List.{List, [], ◌∷◌, ◌++◌}
use Prim.Native.Nat.{ℕ, ◌+◌, ◌*◌, ◌≤◌, ◌<◌}
use native.Mathlib.Omega.{arith}
use lib.ListN.{length, get_or, length-append}
use lib.Dec.{eqb, leb, ltb, leb→le}
use borrow.Author.Tests.{ltb-false, leb-true, leb-false, lt-ltb, le-ltb, le-leb, lt-leb}
use Rattle.gates.specs.declared.Gate.{Gate}
use Rattle.gates.specs.declared.Gate.TheVariants.{Not, Powered}
use Rattle.text.specs.declared.Refusal.{Refusal}
use Rattle.text.specs.declared.Refusal.TheVariants.{NoSuchLine, Crossed, Unsorted, TooWide, NoSpare, TooMany}
use Rattle.text.specs.declared.Head.{Head}
use Rattle.text.specs.Text.{gate, mct}
use Rattle.text.specs.declared.Kind.TheVariants.{Cascade, Circuit}
use Rattle.text.specs.Heads.{kept_lines}
use Rattle.text.specs.Judging.{Rule, rule, first, rules, controls, target, gates, belongs, most, any_from, rising}
use Rattle.meaning.specs.Pattern.{has}
use Rattle.cascades.specs.declared.Control.{Control}
use Rattle.cascades.specs.Control.{control_lines, negated_lines}
use Rattle.cascades.specs.Expansion.{mct_spares, counts}
use Rattle.cascades.specs.Signs.{expansion±}
use Rattle.cascades.proofs.SignLines.{length_control_lines}
use Rattle.cascades.proofs.Signs.{expansion±_count}
use Rattle.cascades.proofs.Every.{at}
use Rattle.meaning.proofs.Flips.{neither}
use Rattle.gathering.specs.declared.Controls.{Controls}
use Rattle.gathering.specs.Gathering.{gathered}
use Rattle.gathering.proofs.Gathered.{lines_are, negated_are, rising_is, largest_is, mark_is}
use Rattle.spares.specs.Marks.{none_left}
use Rattle.spares.proofs.Sets.{none_left_is}
use Rattle.rules.specs.Verdicts.{tried, over}

-- ---- one of two tests is met: the first, or else it is the second that tells

pub either_first : (n a b : ℕ) {r : Bool} → n ≤ a → r ≡ leb n a → r ≡ (leb n a || leb n b)
either_first n a b h e = e ∙ rw (le-leb n a h)

pub either_second : (n a b : ℕ) {r : Bool} → a < n → r ≡ leb n b → r ≡ (leb n a || leb n b)
either_second n a b h e = e ∙ rw (lt-leb n a h)

-- the next gate of a circuit is the 4,097th
full : (before : ℕ) (c : List Gate) (g : Gate) → length c ≡ before → (ltb 4096 (before + 1) || ltb 4096 (length (c ++ g ∷ []))) ≡ leb 4096 before
full before c g e =
    let l : length (c ++ g ∷ []) ≡ before + 1 = length-append c (g ∷ []) ∙ omega (arith, e) in
    ap (λ (i : ℕ). ltb 4096 (before + 1) || ltb 4096 i) l ∙ or_self (ltb 4096 (before + 1)) ∙ go (leb 4096 before) refl
  where
    go : (b : Bool) → leb 4096 before ≡ b → ltb 4096 (before + 1) ≡ b
    go true h = lt-ltb 4096 (before + 1) (omega (arith, leb-true 4096 before h))
    go false h = le-ltb 4096 (before + 1) (omega (arith, leb-false 4096 before h))

pub not_rules : (h : Head) (t before : ℕ) (c : List Gate) → length c ≡ before → tried (leb h.lines t) false true false false (leb 4096 before) ≡ first (rules Circuit h before c (gate (Not t)))
unfolding first rules belongs controls target gates any_from has rising most
not_rules h t before c e = rw (full before c (Not t) e, or-false (leb h.lines t))

pub powered_rules : (h : Head) (p d t before : ℕ) (c : List Gate) → length c ≡ before → tried (leb h.lines t || leb h.lines d) (eqb t d) true false false (leb 4096 before) ≡ first (rules Circuit h before c (gate (Powered p d t)))
unfolding first rules belongs controls target gates any_from has rising most
powered_rules h p d t before c e = rw (full before c (Powered p d t) e, or-false (leb h.lines d), or-false (eqb t d))

-- ---- an mct gate

-- a test counts only where those before it are not met
after : (r : Refusal) (b : Bool) (rs qs : List Rule) → (b ≡ false → first rs ≡ first qs) → first (rule r b ∷ rs) ≡ first (rule r b ∷ qs)
unfolding first
after r true rs qs h = refl
after r false rs qs h = h refl

module _ (h : Head) (cs : List Control) (t before : ℕ) (c : List Gate) where
  abbrev ls : List ℕ
  ls = control_lines cs

  abbrev counted : Bool
  counted = over before (length c) (length ls) (length (negated_lines cs))

  abbrev made : Bool
  made = ltb 256 (before + 1) || ltb 4096 (length (c ++ expansion± h.lines (kept_lines h) cs t))

  -- for at most 15 controls the table and the negated ones give the expansion's count
  over_is : ltb 15 (length ls) ≡ false → counted ≡ made
  unfolding over
  over_is w =
      let k = ltb-false 15 (length ls) w in
      let n = length_control_lines cs in
      let e : length (c ++ expansion± h.lines (kept_lines h) cs t) ≡ length c + get_or counts (length ls) 0 + 2 * length (negated_lines cs) =
      rw (length-append c (expansion± h.lines (kept_lines h) cs t), expansion±_count h.lines (kept_lines h) cs t (omega (arith, k, n)), n) (omega arith) in
      rw (le-leb (length ls) 15 k, e)

  pub mct_rules : {outside crossed : Bool} → outside ≡ any_from h.lines (t ∷ ls) → (outside ≡ false → crossed ≡ has t ls)
      → tried outside crossed (rising ls) (leb 3 (length ls) && eqb (length (mct_spares h.lines (kept_lines h) ls t)) 0) (ltb 15 (length ls)) counted ≡ first (rules Cascade h before c (mct cs t))
  unfolding rules belongs controls target gates most
  mct_rules {outside} {crossed} o x =
      after NoSuchLine outside _ _ (λ p. ap (λ (b : Bool). first (rule Crossed b ∷ later counted)) (x p) ∙ after Crossed (has t ls) _ _ (λ _. unsorted))
      ∙ ap (λ (b : Bool). first (rule NoSuchLine b ∷ rule Crossed (has t ls) ∷ later made)) o
      ∙ unfold first in refl
    where
      later : Bool → List Rule
      later many = rule Unsorted (not (rising ls)) ∷ rule NoSpare (leb 3 (length ls) && eqb (length (mct_spares h.lines (kept_lines h) ls t)) 0) ∷ rule TooWide (ltb 15 (length ls)) ∷ rule TooMany many ∷ []

      unsorted : first (later counted) ≡ first (later made)
      unsorted = after Unsorted (not (rising ls)) _ _ (λ _. after NoSpare (leb 3 (length ls) && eqb (length (mct_spares h.lines (kept_lines h) ls t)) 0) _ _ (λ _.
          after TooWide (ltb 15 (length ls)) _ _ (λ w. ap (λ (b : Bool). first (rule TooMany b ∷ [])) (over_is w))))

  -- the tests on what was gathered of the controls
  pub mct_tried : (total : ℕ) (a : Controls) {outside crossed spareless many : Bool} → 1 ≤ h.lines → h.lines ≤ 32 → a ≡ gathered cs → length c ≡ total
      → outside ≡ (leb h.lines t || leb h.lines a.largest) → crossed ≡ get_or a.marks t false → spareless ≡ (leb 3 a.lines.count && none_left h.lines 0 h.kept a.marks t) → many ≡ over before total a.lines.count a.negated.count
      → tried outside crossed a.rising spareless (ltb 15 a.lines.count) many ≡ first (rules Cascade h before c (mct cs t))
  mct_tried total a {outside} {crossed} low high q l o x p m =
      rw (p, m, spares_are, ap (λ (b : Controls). b.lines.count) q ∙ (lines_are cs).count, ap (λ (b : Controls). b.negated.count) q ∙ (negated_are cs).count, ap (λ (b : Controls). b.rising) q ∙ rising_is cs, ← l)
      (mct_rules outside_is crossed_is)
    where
      outside_is : outside ≡ any_from h.lines (t ∷ ls)
      outside_is = o ∙ ap (λ (b : Controls). leb h.lines t || leb h.lines b.largest) q ∙ ap (λ (b : Bool). leb h.lines t || b) (sym (largest_is h.lines cs low)) ∙ unfold any_from in refl

      spares_are : none_left h.lines 0 h.kept a.marks t ≡ eqb (length (mct_spares h.lines (kept_lines h) ls t)) 0
      spares_are = unfold kept_lines in none_left_is h.lines h.kept a.marks ls t high (λ i b. ap (λ (x : Controls). get_or x.marks i false) q ∙ mark_is cs i b)

      crossed_is : outside ≡ false → crossed ≡ has t ls
      crossed_is z =
          let k = leb-false h.lines t (neither (leb h.lines t) (leb h.lines a.largest) (sym o ∙ z)).0 in
          x ∙ ap (λ (b : Controls). get_or b.marks t false) q ∙ mark_is cs t (omega (arith, k, high))

-- ---- the tests, as the code makes them

pub spare_few : (k : ℕ) (b : Bool) → k < 3 → false ≡ (leb 3 k && b)
spare_few k b h = rw (lt-leb 3 k h)

pub spare_test : (k : ℕ) (b : Bool) → 3 ≤ k → b ≡ (leb 3 k && b)
spare_test k b h = rw (le-leb 3 k h)

pub over_full : (before total k negated : ℕ) → 256 ≤ before → true ≡ over before total k negated
unfolding over
over_full before total k negated h = rw (lt-ltb 256 (before + 1) (omega arith))

pub over_wide : (before total k negated : ℕ) → before < 256 → 15 < k → false ≡ over before total k negated
unfolding over
over_wide before total k negated h l = rw (le-ltb 256 (before + 1) (omega arith), lt-leb k 15 l)

pub over_table : (before total k negated : ℕ) → before < 256 → k ≤ 15 → ltb 4096 (total + get_or counts k 0 + 2 * negated) ≡ over before total k negated
unfolding over
over_table before total k negated h l = rw (le-ltb 256 (before + 1) (omega arith), le-leb k 15 l)

-- no entry of the table is large
pub few_gates : (k : ℕ) → k ≤ 15 → get_or counts k 0 ≤ 372
few_gates k h = leb→le (get_or counts k 0) 372 (at (λ i x. leb x 372) counts tt k (omega arith))
