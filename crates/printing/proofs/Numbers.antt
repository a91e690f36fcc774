-- The refusal that a program writes is neither 2 nor 10: it has gate lists and an area that are long enough. Assumes nothing.
use mathlib.Core.Path.{◌≡◌, refl, ap, ◌∙◌}
use mathlib.Core.Logic.{◌≢◌}
use mathlib.Core.List.{List, [], ◌∷◌}
use Prim.Native.Nat.{ℕ}
use native.Mathlib.Omega.{arith}
use Rattle.text.specs.declared.Refusal.{Refusal}
use Rattle.text.specs.declared.Refusal.TheVariants.{Overlong}
use Rattle.text.specs.declared.Kind.{Kind}
use Rattle.text.specs.Refusals.{number_of}
use Rattle.text.specs.Judging.{Judged, turned_away, accepted, Found, judge}
use Rattle.habits.specs.Habits.{◌then◌, passes, taken, told, text_judged}
use Rattle.habits.proofs.Rules.{Roomy, Sizes, too_long, too_few, passing, sizes}
use Rattle.habits.proofs.Lines.{judge_by_line}
use Rattle.habits.proofs.Yields.{Yields, refuses, ends, yields_away}
use Rattle.jobs.specs.Jobs.{takes, judged_text}
use Rattle.jobs.proofs.Habits.{judged_told}
use Rattle.console.specs.declared.Program.{Program}
use Rattle.console.specs.Output.{job_of}

-- a refusal that programs may write
abbrev pub Writable : Refusal → (text line : ℕ) → Type 0
Writable r t l = (number_of r ≢ 2) × (number_of r ≢ 10)

-- every refusal of a text of any number, judged with lists of 4,096 records or with none, is one: rule 2 lets them pass
pub yields_writable : (t : ℕ) (k : Kind) (s rooms : List ℕ) → Roomy rooms → Yields Writable (λ _. Unit {0}) (text_judged t k s rooms)
unfolding text_judged taken passes told
yields_writable t k s rooms roomy = go (sizes s rooms)
  where
    line : (j : Judged) → judge k s ≡ j → Yields Writable (λ _. Unit {0}) (told t j)
    line (turned_away r l) e = let n = judge_by_line k s e in refuses {r = r} (λ i. omega (arith, i, n.0), λ i. omega (arith, i, n.1))
    line (accepted h c) e = ends tt

    go : {f : Found} → Sizes s rooms f → Yields Writable (λ _. Unit {0}) (passes f t 0 then λ _. told t (judge k s))
    go (too_long h) = refuses {r = Overlong} (λ i. omega (arith, i), λ i. omega (arith, i))
    go (too_few h l) = absurd (l roomy)
    go (passing z) = line (judge k s) refl

-- so no refusal of a program over one text is 2 or 10
pub never_2_or_10 : (p : Program) (s : List ℕ) {r : Refusal} {l : ℕ} → judged_text (takes (job_of p)) s 4096 ≡ turned_away r l → (number_of r ≢ 2) × (number_of r ≢ 10)
unfolding told
never_2_or_10 p s q = yields_away (yields_writable 1 (takes (job_of p)) s (4096 ∷ []) (omega arith, tt)) (judged_told 1 (takes (job_of p)) s 4096 ∙ ap (told 1) q)
