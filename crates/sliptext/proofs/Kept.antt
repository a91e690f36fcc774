-- The lines of a slip, read one after another from a place of the text, where the numbers of the steps before are kept. Assumes nothing.
use mathlib.Core.Path.{◌≡◌, sym, ap, ◌∙◌}
use mathlib.Core.List.{List, [], ◌∷◌, ◌++◌, map-append}
use Prim.Native.Nat.{ℕ, suc, ◌+◌, ◌≤◌, ◌<◌}
use native.Mathlib.Numerals.{add-one}
use lib.ListN.{length, take, drop, set, get_or, drop_of_length-le}
use lib.Seq.{drop-cons, take-suc-set}
use Rattle.text.specs.declared.Refusal.TheVariants.{Malformed, TooMany}
use Rattle.text.specs.Reading.{got, none, cut}
use Rattle.stepping.specs.Slip.{SlipStep}
use Rattle.stepping.specs.Stepped.{slip_step, slip_steps}
use Rattle.habits.specs.Habits.{fine, away}
use Rattle.sliptext.specs.SlipText.{slip_form, slip_lines}
use Rattle.sliptext.proofs.Lines.{preceded, preceded_none, preceded_twice, preceded_away, at_end, at_form, at_many, at_bad}

-- the whole slip s is judged as its lines from the place at on, with the steps of the first k numbers before
abbrev pub Kept : (s steps : List ℕ) (at k : ℕ) → Type 0
Kept s steps at k = (t : ℕ) → slip_lines t 0 (cut s) ≡ preceded (slip_steps (take k steps)) (slip_lines t k (cut (drop at s)))

-- before the first line
pub kept_first : (s steps : List ℕ) → Kept s steps 0 0
kept_first s steps t = sym (preceded_none (slip_lines t 0 (cut s)))

-- after one line more
pub kept_next : (s steps : List ℕ) (at k x next : ℕ) → Kept s steps at k → slip_form (drop at s) ≡ got (slip_step x) (drop next s) → k < 4096 → k < length steps → Kept s (set steps k x) next (k + 1)
kept_next s steps at k x next q e h l t =
    let w : take k steps ++ (x ∷ []) ≡ take (k + 1) (set steps k x) = rw (add-one k) (sym (take-suc-set steps k x l)) in
    q t ∙ ap (preceded (slip_steps (take k steps))) (at_form t k (drop at s) (slip_step x) (drop next s) e h)
    ∙ preceded_twice (slip_steps (take k steps)) (slip_step x ∷ []) _
    ∙ ap (λ (ss : List SlipStep). preceded ss (slip_lines t (k + 1) (cut (drop next s)))) (sym (map-append slip_step (take k steps) (x ∷ [])) ∙ ap slip_steps w)

-- after the last line
pub kept_all : (s steps : List ℕ) (at k : ℕ) → Kept s steps at k → length s ≤ at → (t : ℕ) → slip_lines t 0 (cut s) ≡ fine (slip_steps (take k steps))
kept_all s steps at k q h t = q t ∙ rw (drop_of_length-le s h) (at_end t k (slip_steps (take k steps)))

-- before a line that is not in form
pub kept_bad : (s steps : List ℕ) (at k : ℕ) → Kept s steps at k → at < length s → slip_form (drop at s) ≡ none → (t : ℕ) → slip_lines t 0 (cut s) ≡ away Malformed t (k + 1)
kept_bad s steps at k q h e t =
    let c = drop-cons s at 0 h in
    q t ∙ ap (preceded (slip_steps (take k steps))) (ap (λ (m : List ℕ). slip_lines t k (cut m)) c ∙ at_bad t k (get_or s at 0) (drop (suc at) s) (ap slip_form (sym c) ∙ e)) ∙ preceded_away (slip_steps (take k steps)) Malformed t (k + 1)

-- before a line that is one too many
pub kept_many : (s steps : List ℕ) (at k : ℕ) (x : SlipStep) (r : List ℕ) → Kept s steps at k → slip_form (drop at s) ≡ got x r → 4096 ≤ k → (t : ℕ) → slip_lines t 0 (cut s) ≡ away TooMany t (k + 1)
kept_many s steps at k x r q e h t = q t ∙ ap (preceded (slip_steps (take k steps))) (at_many t k (drop at s) x r e h) ∙ preceded_away (slip_steps (take k steps)) TooMany t (k + 1)
