-- The head of a text: its number of lines, and the lines that nobody may borrow (document 02, order 8), which the record holds as a number.
-- Assumes nothing.
use Rattle.std.specs.Prelude.{ℕ, ◌+◌, cond, List, eqb}
use Rattle.cascades.specs.LineSets.{packed, unpacked}
use Rattle.text.specs.declared.Head.{Head}

-- "the record for a text's head now holds the kept set": the head of n lines of which these are kept,
unfoldable pub head_of : ℕ → List ℕ → Head
head_of n kept = record { lines = n; kept = packed kept }

-- and the kept lines of a head, rising
unfoldable pub kept_lines : Head → List ℕ
kept_lines h = unpacked 32 0 h.kept

-- n lines of which none is kept: the head of every circuit text, and of a cascade text without a keep line
abbrev pub unkept : ℕ → Head
unkept n = record { lines = n; kept = 0 }

-- the number of the line after so many gate lines: line 1 stands above them, and the keep line, where there is one
unfoldable pub line_below : Head → ℕ → ℕ
line_below h before = cond (eqb h.kept 0) (before + 2) (before + 3)
