-- Document 01's first example as codes and as a text, and the programs' two other forms. Assumes nothing.
use mathlib.Core.Path.{◌≡◌, refl}
use mathlib.Core.List.{[], ◌∷◌}
use Rattle.gates.specs.Code.{assembled, gate, gates}
use Rattle.text.specs.Text.{bytes, digits, one, two, word, render, rendered, circuit_text}
use Rattle.writing.specs.Decimal.{last_digits, decimal, one_number, two_numbers, turned_away, quote}

mapped : circuit_text 3 (gates (269 ∷ 273 ∷ 138 ∷ 275 ∷ 138 ∷ [])) ≡ bytes "(lines 3)\n(v 0 2)\n(v 1 2)\n(cn 0 1)\n(vp 1 2)\n(cn 0 1)\n"
unfolding circuit_text rendered render word two one digits gate assembled
mapped = refl

no_spare : turned_away 8 2 ≡ bytes "(turned-away 8 2)\n"
unfolding two_numbers decimal last_digits
no_spare = refl

last_line : turned_away 10 60001 ≡ bytes "(turned-away 10 60001)\n"
unfolding two_numbers decimal last_digits
last_line = refl

none : quote 0 ≡ bytes "(quote 0)\n"
unfolding one_number decimal last_digits
none = refl

most : quote 4096 ≡ bytes "(quote 4096)\n"
unfolding one_number decimal last_digits
most = refl
