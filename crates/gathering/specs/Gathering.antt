-- What is kept of the controls of an mct line, one after the other. Assumes nothing.
use Rattle.std.specs.Prelude.{ℕ, ◌+◌, max, true, false, cond, ◌&&◌, ◌||◌, List, [], ◌∷◌, take, set, replicate, eqb, ltb}
use Rattle.cascades.specs.declared.Control.{Control}
use Rattle.gathering.specs.declared.LineList.{LineList}
use Rattle.gathering.specs.declared.Controls.{Controls}

-- lines in order, one more
unfoldable pub added : LineList → ℕ → LineList
added l c = record { count = l.count + 1; first = set l.first l.count c }

unfoldable pub no_lines : LineList
no_lines = record { count = 0; first = replicate 16 0 }

-- the lines, of at most sixteen
unfoldable pub listed : LineList → List ℕ
listed l = take l.count l.first

-- a control more: its line, by which controls rise, and its sign
unfoldable pub noted : Controls → Control → Controls
noted a c = record {
  lines = added a.lines c.line;
  negated = cond c.negated (added a.negated c.line) a.negated;
  rising = a.rising && (eqb a.lines.count 0 || ltb a.last c.line);
  last = c.line;
  largest = max a.largest c.line;
  marks = set a.marks c.line true;
}

unfoldable pub noted_all : Controls → List Control → Controls
noted_all a [] = a
noted_all a (c ∷ cs) = noted_all (noted a c) cs

unfoldable pub no_controls : Controls
no_controls = record { lines = no_lines; negated = no_lines; rising = true; last = 0; largest = 0; marks = replicate 32 false }

unfoldable pub gathered : List Control → Controls
gathered cs = noted_all no_controls cs
