-- The step of a slip line, read at a place of a text: its number. Assumes nothing.
use mathlib.Core.Path.{◌≡◌, refl, sym, ◌∙◌}
use mathlib.Core.List.{List}
use Prim.Native.Nat.{ℕ, ◌+◌, ◌*◌, ◌/◌, ◌%◌, ◌≤◌}
use native.Mathlib.Omega.{arith}
use Rattle.std.specs.Prelude.{Some, None}
use Rattle.std.specs.declared.option.Option.{Option}
use Rattle.tokens.specs.declared.Parsed.{Parsed}
use Rattle.text.specs.Text.{bytes}
use Rattle.text.specs.Reading.{Got, got, none, bind, strip}
use Rattle.text.proofs.Printed.{none_got, got_is}
use Rattle.stepping.specs.Slip.{SlipStep, pass_at, merge_at}
use Rattle.stepping.specs.Stepped.{slip_step}
use Rattle.sliptext.specs.SlipText.{place, placed, slip_form}
use Rattle.sliptext.specs.Seen.{closed_place, step_tells}

-- ---- numbers of steps

pass_number : (i : ℕ) → pass_at i ≡ slip_step (i * 2)
unfolding slip_step
pass_number i =
    let a : i * 2 % 2 ≡ 0 = omega arith in
    let b : i * 2 / 2 ≡ i = omega arith in
    rw (a, b)

merge_number : (i : ℕ) → merge_at i ≡ slip_step (i * 2 + 1)
unfolding slip_step
merge_number i =
    let a : (i * 2 + 1) % 2 ≡ 1 = omega arith in
    let b : (i * 2 + 1) / 2 ≡ i = omega arith in
    rw (a, b)

-- ---- the place behind the line's word

placed_got : (f : ℕ → SlipStep) (s : List ℕ) (i : ℕ) (r : List ℕ) → closed_place s ≡ got i r → placed f s ≡ got (f i) r
unfolding closed_place placed
placed_got f s i r e = go (place s) e
  where
    inner : (j : ℕ) (s' : List ℕ) (g : Got (Unit {0})) → bind g (λ _ s''. got j s'') ≡ got i r → bind g (λ _ s''. got (f j) s'') ≡ got (f i) r
    inner j s' (got u q) e = let z = got_is e in rw (z.0, z.1)
    inner j s' none e = absurd (none_got e)

    go : (g : Got ℕ) → bind g (λ j s'. bind (strip (bytes ")\n") s') (λ _ s''. got j s'')) ≡ got i r → bind g (λ j s'. bind (strip (bytes ")\n") s') (λ _ s''. got (f j) s'')) ≡ got (f i) r
    go (got j s') e = inner j s' (strip (bytes ")\n") s') e
    go none e = absurd (none_got e)

placed_none : (f : ℕ → SlipStep) (s : List ℕ) → closed_place s ≡ none → placed f s ≡ none
unfolding closed_place placed
placed_none f s e = go (place s) e
  where
    inner : (j : ℕ) (g : Got (Unit {0})) → bind g (λ _ s''. got j s'') ≡ none → bind g (λ _ s''. got (f j) s'') ≡ none
    inner j (got u q) e = absurd (none_got (sym e))
    inner j none e = refl

    go : (g : Got ℕ) → bind g (λ j s'. bind (strip (bytes ")\n") s') (λ _ s''. got j s'')) ≡ none → bind g (λ j s'. bind (strip (bytes ")\n") s') (λ _ s''. got (f j) s'')) ≡ none
    go (got j s') e = inner j (strip (bytes ")\n") s') e
    go none e = refl

-- ---- by the line's word

module _ (s r : List ℕ) (e : strip (bytes "(pass ") s ≡ got tt r) where
  pass_form : slip_form s ≡ placed pass_at r
  unfolding slip_form
  pass_form = rw e

  pub after_pass : (i : ℕ) (q : List ℕ) → closed_place r ≡ got i q → slip_form s ≡ got (slip_step (i * 2)) q
  after_pass i q h = pass_form ∙ rw (← pass_number i) (placed_got pass_at r i q h)

  pub after_pass_none : closed_place r ≡ none → slip_form s ≡ none
  after_pass_none h = pass_form ∙ placed_none pass_at r h

module _ (s r : List ℕ) (p : strip (bytes "(pass ") s ≡ none) (e : strip (bytes "(merge ") s ≡ got tt r) where
  merge_form : slip_form s ≡ placed merge_at r
  unfolding slip_form
  merge_form = rw (p, e)

  pub after_merge : (i : ℕ) (q : List ℕ) → closed_place r ≡ got i q → slip_form s ≡ got (slip_step (i * 2 + 1)) q
  after_merge i q h = merge_form ∙ rw (← merge_number i) (placed_got merge_at r i q h)

  pub after_merge_none : closed_place r ≡ none → slip_form s ≡ none
  after_merge_none h = merge_form ∙ placed_none merge_at r h

pub after_none : (s : List ℕ) → strip (bytes "(pass ") s ≡ none → strip (bytes "(merge ") s ≡ none → slip_form s ≡ none
unfolding slip_form
after_none s p e = rw (p, e)

-- a line, by its word and what stands behind
pub ruleset by_word = (after_pass, after_pass_none, after_merge, after_merge_none, after_none)

-- ---- the line from a place before it on

pub step_further : (s : List ℕ) (at p : ℕ) (f g : Got SlipStep) (r : Option (Parsed ℕ)) → at ≤ p → f ≡ g → step_tells s p g r → step_tells s at f r
step_further s at p f g (Some x) h e k = (e ∙ k.0, (omega (arith, k.1.0), k.1.1))
step_further s at p f g None h e k = e ∙ k
