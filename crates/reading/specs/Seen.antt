-- What the cursor's answers say, in the terms of the parser in text's Reading. Assumes nothing.
use Rattle.std.specs.Prelude.{ℕ, Bool, true, false, List}
use Rattle.gates.specs.declared.Gate.{Gate}
use Rattle.gates.specs.declared.Gate.TheVariants.{Powered}
use Rattle.cascades.specs.declared.Control.{Control}
use Rattle.text.specs.declared.Head.{Head}
use Rattle.text.specs.Text.{Form, lines, keep, gate, mct, unsigned, bytes}
use Rattle.text.specs.Heads.{unkept}
use Rattle.text.specs.Reading.{Got, got, none, bind, if_got, strip, with_sign, pair}
use Rattle.gathering.specs.declared.Controls.{Controls}
use Rattle.gathering.specs.Gathering.{gathered}
use Rattle.reading.specs.declared.Mct.{Mct}

-- ---- the forms of one kind of line

unfoldable pub only_head : Got Form → Got Head
only_head none = none
only_head (got (lines n) s) = got (unkept n) s
only_head (got (keep l) s) = none
only_head (got (gate g) s) = none
only_head (got (mct cs t) s) = none

unfoldable pub only_keep : Got Form → Got (List ℕ)
only_keep none = none
only_keep (got (lines n) s) = none
only_keep (got (keep l) s) = got l s
only_keep (got (gate g) s) = none
only_keep (got (mct cs t) s) = none

unfoldable pub only_gate : Got Form → Got Gate
only_gate none = none
only_gate (got (lines n) s) = none
only_gate (got (keep l) s) = none
only_gate (got (gate g) s) = got g s
only_gate (got (mct cs t) s) = none

unfoldable pub only_mct : Got Form → Got (List Control × ℕ)
only_mct none = none
only_mct (got (lines n) s) = none
only_mct (got (keep l) s) = none
only_mct (got (gate g) s) = none
only_mct (got (mct cs t) s) = got (cs, t) s

-- ---- the controls of an mct line, gathered

unfoldable pub all_gathered : Got (List Control) → Got Controls
all_gathered g = bind g (λ cs. got (gathered cs))

-- the numbers of a keep line, gathered as controls without a sign
unfoldable pub kept_gathered : Got (List ℕ) → Got Controls
kept_gathered g = bind g (λ l. got (gathered (unsigned l)))

unfoldable pub with_gathered : Got (List Control × ℕ) → Got Mct
with_gathered none = none
with_gathered (got p s) = got (record { controls = gathered p.0; target = p.1 }) s

-- ---- parts of a line after a word

-- a control whose sign was read, and whether another comes after it: a space, or `)`
unfoldable pub followed : Bool → List ℕ → Got (Control × Bool)
followed b s = bind (with_sign b s) (λ c r. if_got (strip (bytes " ") r) (λ _. got (c, true)) (bind (strip (bytes ")") r) (λ _. got (c, false))))

-- `c t)` and the line's end, after w
unfoldable pub two_after : List ℕ → List ℕ → Got (ℕ × ℕ)
two_after w s = bind (strip w s) (λ _. pair)

-- the gate of the power p after its word w
unfoldable pub powered_after : List ℕ → ℕ → List ℕ → Got Gate
powered_after w p s = bind (two_after w s) (λ c. got (Powered p c.0 c.1))
