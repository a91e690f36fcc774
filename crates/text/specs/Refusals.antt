-- The numbers of the refusals: document 01's ten, then those that document 02's orders add. Assumes nothing.
use Rattle.std.specs.Prelude.{ℕ}
use Rattle.text.specs.declared.Refusal.{Refusal}
use Rattle.text.specs.declared.Refusal.TheVariants.{Overlong, ShortList, Malformed, NoSuchLine, Crossed, Unsorted, TooWide, NoSpare, TooMany, ShortAnswer, DifferentLines, NotAllowed, OtherEnd}

abbrev pub number_of : Refusal → ℕ
number_of Overlong = 1
number_of ShortList = 2
number_of Malformed = 3
number_of NoSuchLine = 4
number_of Crossed = 5
number_of Unsorted = 6
number_of TooWide = 7
number_of NoSpare = 8
number_of TooMany = 9
number_of ShortAnswer = 10
-- order 7: "11, different line counts"
number_of DifferentLines = 11
-- order 9: "12, a step not allowed"; "13, the slip ends at another circuit"
number_of NotAllowed = 12
number_of OtherEnd = 13
