-- A text's lines as a place that only moves forward finds them: three laws for the reader's code. Assumes nothing.
use mathlib.Core.Path.{◌≡◌, refl, sym, ap, ◌∙◌}
use mathlib.Core.List.{List, [], ◌∷◌, ◌++◌}
use Prim.Native.Nat.{ℕ}
use native.Mathlib.Omega.{arith}
use Rattle.text.specs.Text.{Form}
use Rattle.text.specs.Reading.{got, none, parse, Line, in_form, unformed, read, cut}
use Rattle.text.specs.Judging.{read_all}
use Rattle.text.proofs.Printed.{parse_render, parse_sound, reads, read_only, cut_render, glued, glued_cut, nil_cons}

-- the place stands before a form
pub at_form : (s : List ℕ) (f : Form) (r : List ℕ) → parse s ≡ got f r → read_all (cut s) ≡ in_form f ∷ read_all (cut r)
unfolding read_all
at_form s f r e =
    let h = parse_sound s f r e in
    ap (λ (t : List ℕ). read_all (cut t)) h.0 ∙ ap read_all (cut_render f r) ∙ ap (λ (x : Line). x ∷ read_all (cut r)) (reads f h.1)

-- at the end
pub at_end : read_all (cut []) ≡ []
unfolding read_all cut
at_end = refl

got_none : {f : Form} {r : List ℕ} → got f r ≡ none → ⊥
got_none e = let z : ◌≡◌ {A = ℕ} 0 1 = cc in omega arith

glued_nil : glued [] ≡ []
unfolding glued
glued_nil = refl

-- before a line that is not in form
pub at_bad : (b : ℕ) (s : List ℕ) → parse (b ∷ s) ≡ none → (ls : List Line) × (read_all (cut (b ∷ s)) ≡ unformed ∷ ls)
unfolding read_all
at_bad b s e = go (cut (b ∷ s)) (glued_cut (b ∷ s))
  where
    line : (l : List ℕ) (ls : List (List ℕ)) → l ++ glued ls ≡ b ∷ s → (x : Line) → read l ≡ x → (ks : List Line) × (read l ∷ read_all ls ≡ unformed ∷ ks)
    line l ls q (in_form f) h = let k = read_only l f h in absurd (got_none (sym (parse_render f (glued ls) k.1) ∙ ap (λ (t : List ℕ). parse (t ++ glued ls)) (sym k.0) ∙ ap parse q ∙ e))
    line l ls q unformed h = (read_all ls, ap (λ (x : Line). x ∷ read_all ls) h)

    go : (ls : List (List ℕ)) → glued ls ≡ b ∷ s → (ks : List Line) × (read_all ls ≡ unformed ∷ ks)
    go [] q = absurd (nil_cons (sym glued_nil ∙ q))
    go (l ∷ ls) q = line l ls (unfold glued in q) (read l) refl
