-- A slip's lines as a place that only moves forward finds them: what they are judged to be, line by line. Assumes nothing.
use mathlib.Core.Path.{◌≡◌, refl, sym, ap, ◌∙◌}
use mathlib.Core.Bool.{Bool, true, false, cond}
use mathlib.Core.List.{List, [], ◌∷◌, ◌++◌, append_assoc, append-nil}
use Prim.Native.Nat.{ℕ, zero, suc, ◌+◌, ◌/◌, ◌%◌, ◌≤◌, ◌<◌}
use native.Mathlib.Omega.{arith}
use lib.Dec.{ltb}
use lib.ListN.{length}
use borrow.Author.Tests.{ne_eqb, lt-ltb, le-ltb}
use Rattle.text.specs.declared.Refusal.{Refusal}
use Rattle.text.specs.declared.Refusal.TheVariants.{Overlong, Malformed, TooMany}
use Rattle.text.specs.Reading.{Got, got, none, cut}
use Rattle.text.proofs.Printed.{none_got, nil_cons, Ended, end, more, cut_ended, glued, glued_cut}
use Rattle.stepping.specs.Slip.{SlipStep, pass_at, merge_at}
use Rattle.habits.specs.Habits.{Judgement, fine, away, ◌then◌, require}
use Rattle.habits.proofs.Rules.{taken_overlong, taken_passes}
use Rattle.sliptext.specs.SlipText.{figures, slip_line, place_in, slip_form, formed, slip_lines, slip_judged}
use Rattle.sliptext.proofs.Printed.{slip_reads, slip_read_only}

-- ---- a written line is cut off whole

ended_figures : (k i : ℕ) {l : List ℕ} → Ended l → Ended (figures k i ++ l)
unfolding figures
ended_figures zero i h = more (ne_eqb (48 + i) 10 (λ e. omega arith)) h
ended_figures (suc k) i {l} h = go (ltb i 10) (ended_figures k (i / 10) (more (ne_eqb (48 + i % 10) 10 (λ e. omega arith)) h))
  where
    go : (t : Bool) → Ended (figures k (i / 10) ++ (48 + i % 10) ∷ l) → Ended (cond t ((48 + i) ∷ []) (figures k (i / 10) ++ ((48 + i % 10) ∷ [])) ++ l)
    go true ih = more (ne_eqb (48 + i) 10 (λ e. omega arith)) h
    go false ih = rw (append_assoc (figures k (i / 10)) ((48 + i % 10) ∷ []) l) ih

ended_line : (x : SlipStep) → Ended (slip_line x)
unfolding slip_line
ended_line (pass_at i) = more refl (more refl (more refl (more refl (more refl (more refl (ended_figures 3 i (more refl end)))))))
ended_line (merge_at i) = more refl (more refl (more refl (more refl (more refl (more refl (more refl (ended_figures 3 i (more refl end))))))))

-- ---- steps before what the lines after them are judged to be

unfoldable pub preceded : List SlipStep → Judgement (List SlipStep) → Judgement (List SlipStep)
preceded xs v = v then λ ss. fine (xs ++ ss)

pub preceded_none : (v : Judgement (List SlipStep)) → preceded [] v ≡ v
unfolding preceded
preceded_none (fine ss) = refl
preceded_none (away r t l) = refl

pub preceded_twice : (xs ys : List SlipStep) (v : Judgement (List SlipStep)) → preceded xs (preceded ys v) ≡ preceded (xs ++ ys) v
unfolding preceded
preceded_twice xs ys (fine ss) = ap (λ (zs : List SlipStep). fine zs) (sym (append_assoc xs ys ss))
preceded_twice xs ys (away r t l) = refl

pub preceded_away : (xs : List SlipStep) (r : Refusal) (t l : ℕ) → preceded xs (away r t l) ≡ away r t l
unfolding preceded
preceded_away xs r t l = refl

-- ---- where k lines stand before

-- at the end
pub at_end : (t k : ℕ) (xs : List SlipStep) → preceded xs (slip_lines t k (cut [])) ≡ fine xs
unfolding preceded slip_lines cut
at_end t k xs = ap (λ (zs : List SlipStep). fine zs) (append-nil xs)

-- before a line in form
line_judged : (t k : ℕ) (x : SlipStep) (ls : List (List ℕ)) → place_in x < 10000 → slip_lines t k (slip_line x ∷ ls) ≡ (require (ltb k 4096) TooMany t (k + 1) then λ _. preceded (x ∷ []) (slip_lines t (k + 1) ls))
unfolding slip_lines formed preceded
line_judged t k x ls h = rw (sym (ap slip_form (append-nil (slip_line x))) ∙ slip_reads x [] h)

form_judged : (t k : ℕ) (s : List ℕ) (x : SlipStep) (r : List ℕ) → slip_form s ≡ got x r → slip_lines t k (cut s) ≡ (require (ltb k 4096) TooMany t (k + 1) then λ _. preceded (x ∷ []) (slip_lines t (k + 1) (cut r)))
form_judged t k s x r e =
    let h = slip_read_only s x r e in
    ap (λ (m : List ℕ). slip_lines t k (cut m)) h.0 ∙ ap (slip_lines t k) (cut_ended r (ended_line x)) ∙ line_judged t k x (cut r) h.1

pub at_form : (t k : ℕ) (s : List ℕ) (x : SlipStep) (r : List ℕ) → slip_form s ≡ got x r → k < 4096 → slip_lines t k (cut s) ≡ preceded (x ∷ []) (slip_lines t (k + 1) (cut r))
unfolding require
at_form t k s x r e h = form_judged t k s x r e ∙ rw (lt-ltb k 4096 h)

-- before a line in form that is one too many
pub at_many : (t k : ℕ) (s : List ℕ) (x : SlipStep) (r : List ℕ) → slip_form s ≡ got x r → 4096 ≤ k → slip_lines t k (cut s) ≡ away TooMany t (k + 1)
unfolding require
at_many t k s x r e h = form_judged t k s x r e ∙ rw (le-ltb k 4096 h)

-- before a line that is not in form
pub at_bad : (t k b : ℕ) (s : List ℕ) → slip_form (b ∷ s) ≡ none → slip_lines t k (cut (b ∷ s)) ≡ away Malformed t (k + 1)
unfolding slip_lines formed
at_bad t k b s e = go (cut (b ∷ s)) (glued_cut (b ∷ s))
  where
    line : (l : List ℕ) (ls : List (List ℕ)) → l ++ glued ls ≡ b ∷ s → (g : Got SlipStep) → slip_form l ≡ g
        → (formed t (k + 1) g then λ x. require (ltb k 4096) TooMany t (k + 1) then λ _. slip_lines t (k + 1) ls then λ ss. fine (x ∷ ss)) ≡ away Malformed t (k + 1)
    line l ls q (got x []) h =
        let z = slip_read_only l x [] h in
        absurd (none_got (sym e ∙ ap slip_form (sym q ∙ ap (λ (m : List ℕ). m ++ glued ls) (z.0 ∙ append-nil (slip_line x))) ∙ slip_reads x (glued ls) z.1))
    line l ls q (got x (c ∷ r)) h = refl
    line l ls q none h = refl

    go : (ls : List (List ℕ)) → glued ls ≡ b ∷ s → slip_lines t k ls ≡ away Malformed t (k + 1)
    go [] q = let z : [] ≡ b ∷ s = unfold glued in q in absurd (nil_cons z)
    go (l ∷ ls) q = line l ls (unfold glued in q) (slip_form l) refl

-- ---- the whole text

-- rule 1 refuses it
pub judged_overlong : (t : ℕ) (s : List ℕ) → 60000 < length s → slip_judged t s ≡ away Overlong t 0
unfolding slip_judged
judged_overlong t s h = taken_overlong t s [] _ h

-- what rule 1 lets pass is judged by its lines
pub judged_lines : (t : ℕ) (s : List ℕ) → length s ≤ 60000 → slip_judged t s ≡ slip_lines t 0 (cut s)
unfolding slip_judged
judged_lines t s h = taken_passes t s [] _ (record { small = h; room = tt })
