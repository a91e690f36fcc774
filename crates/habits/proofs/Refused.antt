-- One text: it is refused exactly if document 01's table says so, and accepted otherwise, whatever its text number. Assumes nothing.
use Prim.Native.Nat.{ℕ, ◌≤◌}
use mathlib.Core.Path.{◌≡◌, refl, sym, ap, ◌∙◌, subst}
use mathlib.Core.Logic.{◌↔◌, ◌⊎◌, inl, inr}
use mathlib.Core.List.{List}
use native.Mathlib.Omega.{arith}
use Rattle.gates.specs.declared.Gate.{Gate}
use Rattle.text.specs.declared.Refusal.{Refusal}
use Rattle.text.specs.declared.Refusal.TheVariants.{Overlong, ShortList}
use Rattle.text.specs.declared.Head.{Head}
use Rattle.text.specs.declared.Kind.{Kind}
use Rattle.text.specs.declared.Kind.TheVariants as kind
use Rattle.text.specs.Refusals.{number_of}
use Rattle.text.specs.Judging.{Judged, turned_away, accepted, Found, judge}
use Rattle.habits.specs.Habits.{Judgement, fine, away, Circuit, told, text_judged}
use Rattle.habits.specs.Demands.{Sized, Refuses, overlong, short_list, failing_line, Accepts}
use Rattle.habits.proofs.Rules.{Sizes, too_long, too_few, passing, sizes, taken_overlong, taken_short, taken_passes}
use Rattle.habits.proofs.Lines.{judge_by_line}
use Rattle.habits.proofs.Yields.{fine_is, away_is, away_fine}

-- ---- the text s of number t and of kind k, with which gate lists of so many records are judged

module _ (t : ℕ) (k : Kind) (s rooms : List ℕ) where
  -- by the table, or by its head and its circuit
  data Judges (v : Judgement Circuit) : Type 0 where
    refused : (r : Refusal) (l : ℕ) → v ≡ away r t l → Refuses k s rooms (number_of r) l → Judges v
    passed : (h : Head) (c : List Gate) → v ≡ fine (record { lines = h.lines; gates = c }) → Accepts k s rooms h c → Judges v

  -- always one of the two
  judges : Judges (text_judged t k s rooms)
  unfolding text_judged told
  judges = go (sizes s rooms)
    where
      line : Sized s rooms → (j : Judged) → judge k s ≡ j → Judges (text_judged t k s rooms)
      line z (turned_away r l) e = let b = judge_by_line k s e in refused r l (taken_passes t s rooms _ z ∙ ap (told t) e) (failing_line r l z e b.0 b.1 b.2)
      line z (accepted h c) e = passed h c (taken_passes t s rooms _ z ∙ ap (told t) e) (record { sized = z; judged = e })

      go : {f : Found} → Sizes s rooms f → Judges (text_judged t k s rooms)
      go (too_long h) = refused Overlong 0 (taken_overlong t s rooms _ h) (overlong h)
      go (too_few h l) = refused ShortList 0 (taken_short t s rooms _ h l) (short_list h l)
      go (passing z) = line z (judge k s) refl

  -- each row of the table
  refused_away : {n l : ℕ} → Refuses k s rooms n l → (r : Refusal) × (text_judged t k s rooms ≡ away r t l) × (number_of r ≡ n)
  unfolding text_judged told
  refused_away (overlong h) = (Overlong, taken_overlong t s rooms _ h, refl)
  refused_away (short_list h l) = (ShortList, taken_short t s rooms _ h l, refl)
  refused_away (failing_line r l z e a b c) = (r, taken_passes t s rooms _ z ∙ ap (told t) e, refl)

  -- a text is refused with a number and a line, and its own text number, exactly if the table says so
  pub refuses_exactly_if : (n l : ℕ) → Refuses k s rooms n l ↔ ((r : Refusal) × (text_judged t k s rooms ≡ away r t l) × (number_of r ≡ n))
  refuses_exactly_if n l = (refused_away, λ (r, e, i). go r e i judges)
    where
      go : (r : Refusal) → text_judged t k s rooms ≡ away r t l → number_of r ≡ n → Judges (text_judged t k s rooms) → Refuses k s rooms n l
      go r e i (refused q m f d) = let z = away_is (sym f ∙ e) in rw (← i, ← z.0, ← z.2) d
      go r e i (passed h c f a) = absurd (away_fine (sym e ∙ f))

  -- it is accepted, with its number of lines and its circuit, exactly if no rule refuses it
  pub accepts_exactly_if : (d : Circuit) → ((h : Head) × Accepts k s rooms h d.gates × (h.lines ≡ d.lines)) ↔ (text_judged t k s rooms ≡ fine d)
  unfolding text_judged told
  accepts_exactly_if d = (λ (h, a, i). taken_passes t s rooms _ a.sized ∙ ap (told t) a.judged ∙ ap (λ (n : ℕ). fine (record { lines = n; gates = d.gates })) i, λ e. go e judges)
    where
      go : text_judged t k s rooms ≡ fine d → Judges (text_judged t k s rooms) → (h : Head) × Accepts k s rooms h d.gates × (h.lines ≡ d.lines)
      go e (refused r l f p) = absurd (away_fine (sym f ∙ e))
      go e (passed h c f a) = let z = fine_is (sym f ∙ e) in (h, subst (Accepts k s rooms h) (ap (λ (b : Circuit). b.gates) z) a, ap (λ (b : Circuit). b.lines) z)

-- every text is refused or accepted
pub refuses_or_accepts : (k : Kind) (s rooms : List ℕ) → ((n : ℕ) × (l : ℕ) × Refuses k s rooms n l) ⊎ ((h : Head) × (c : List Gate) × Accepts k s rooms h c)
refuses_or_accepts k s rooms = go (judges 1 k s rooms)
  where
    go : {v : Judgement Circuit} → Judges 1 k s rooms v → ((n : ℕ) × (l : ℕ) × Refuses k s rooms n l) ⊎ ((h : Head) × (c : List Gate) × Accepts k s rooms h c)
    go (refused r l e d) = inl (number_of r, l, d)
    go (passed h c e a) = inr (h, c, a)

-- a circuit text that is accepted, by its number of lines and its circuit
pub text_accepted : (t : ℕ) {s rooms : List ℕ} {h : Head} {c : List Gate} → Accepts kind.Circuit s rooms h c → text_judged t kind.Circuit s rooms ≡ fine (record { lines = h.lines; gates = c })
text_accepted t {s} {rooms} {h} a = (accepts_exactly_if t kind.Circuit s rooms _).0 (h, a, refl)

-- a number of the table is not 0
pub some_number : {k : Kind} {s rooms : List ℕ} {n l : ℕ} → Refuses k s rooms n l → 1 ≤ n
some_number (overlong h) = omega arith
some_number (short_list h r) = omega arith
some_number (failing_line r l z e a b c) = omega (arith, a)
