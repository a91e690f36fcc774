-- Slips as texts, judged: the empty one, one of each step, and lines that are not in form. Assumes nothing.
use mathlib.Core.Path.{◌≡◌, refl}
use mathlib.Core.List.{[], ◌∷◌}
use Rattle.text.specs.declared.Refusal.TheVariants.{Malformed}
use Rattle.text.specs.Text.{bytes}
use Rattle.text.specs.Reading.{strip, longer, cut}
use Rattle.text.specs.Judging.{first}
use Rattle.stepping.specs.Slip.{pass_at, merge_at}
use Rattle.habits.specs.Habits.{fine, away, passes, require, size_rules, taken}
use Rattle.sliptext.specs.SlipText.{more, place, placed, slip_form, formed, slip_lines, slip_judged}

-- "may be empty"
empty_slip : slip_judged 2 [] ≡ fine []
unfolding slip_judged taken passes size_rules first slip_lines cut
empty_slip = refl

two_steps : slip_judged 2 (bytes "(pass 1)\n(merge 2)\n") ≡ fine (pass_at 1 ∷ merge_at 2 ∷ [])
unfolding slip_judged taken passes size_rules first slip_lines cut longer formed require slip_form strip placed place more
two_steps = refl

-- any place of at most four digits is in form
place_0 : slip_judged 2 (bytes "(pass 0)\n") ≡ fine (pass_at 0 ∷ [])
unfolding slip_judged taken passes size_rules first slip_lines cut longer formed require slip_form strip placed place more
place_0 = refl

place_9999 : slip_judged 2 (bytes "(merge 9999)\n") ≡ fine (merge_at 9999 ∷ [])
unfolding slip_judged taken passes size_rules first slip_lines cut longer formed require slip_form strip placed place more
place_9999 = refl

five_digits : slip_judged 2 (bytes "(pass 12345)\n") ≡ away Malformed 2 1
unfolding slip_judged taken passes size_rules first slip_lines cut longer formed require slip_form strip placed place more
five_digits = refl

leading_zero : slip_judged 2 (bytes "(pass 01)\n") ≡ away Malformed 2 1
unfolding slip_judged taken passes size_rules first slip_lines cut longer formed require slip_form strip placed place more
leading_zero = refl

-- the last line has no byte 10
unended : slip_judged 2 (bytes "(pass 1)\n(pass 1)") ≡ away Malformed 2 2
unfolding slip_judged taken passes size_rules first slip_lines cut longer formed require slip_form strip placed place more
unended = refl

-- "A slip has no `(lines n)`"
head_line : slip_judged 2 (bytes "(lines 3)\n(pass 1)\n") ≡ away Malformed 2 1
unfolding slip_judged taken passes size_rules first slip_lines cut longer formed require slip_form strip placed place more
head_line = refl

upper_case : slip_judged 2 (bytes "(Pass 1)\n") ≡ away Malformed 2 1
unfolding slip_judged taken passes size_rules first slip_lines cut longer formed require slip_form strip placed place more
upper_case = refl

two_spaces : slip_judged 2 (bytes "(pass  1)\n") ≡ away Malformed 2 1
unfolding slip_judged taken passes size_rules first slip_lines cut longer formed require slip_form strip placed place more
two_spaces = refl
