-- `comparison::compare_lists` meets its contract: where the numbers of lines are equal, the codes decide, as the gates do. Assumes nothing.
use mathlib.Core.Path.{◌≡◌, refl, sym, ◌∙◌}
use mathlib.Core.Logic.{◌≢◌}
use Rattle.std.specs.declared.cmp.Ordering.{Ordering}
use Rattle.std.specs.declared.cmp.Ordering.TheVariants.{Less, Equal, Greater}
use Rattle.ordering.specs.Comparing.{then, compare_lists}
use Rattle.ordering.proofs.Gates.{dictionary_gates}
use Rattle.ordering.proofs.Library.{compare_numbers_is}
use Rattle.comparison.specs.Compare.{comparison}
use Rattle.comparison.proofs.compare_lists.Goals as goal

-- the first decides unless it is equal
first_decides : (a b : Ordering) → a ≢ Equal → a ≡ then a b
unfolding then
first_decides Less b h = refl
first_decides Equal b h = absurd (h refl)
first_decides Greater b h = refl

pub returns-in-Equal : goal.returns-in-Equal
unfolding comparison compare_lists then
returns-in-Equal c =
    c.codes.ensures
    ∙ sym (dictionary_gates _ _ c.requires.0.codes c.requires.1.codes)
    ∙ rw (compare_numbers_is c.args.first.head.lines c.args.second.head.lines ∙ sym c.cmp.ensures ∙ c.in-Equal.is)

pub returns-in_default : goal.returns-in_default
unfolding comparison compare_lists
returns-in_default c =
    rw (compare_numbers_is c.args.first.head.lines c.args.second.head.lines, ← c.cmp.ensures) (first_decides c.cmp.result _ c.in_default.not-Equal)
