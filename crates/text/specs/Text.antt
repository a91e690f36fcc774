-- The two texts: forms, and how they are written. A text is the rendering of its forms, one a line.
-- Assumes nothing.
use Rattle.std.specs.Prelude.{ℕ, zero, suc, ◌+◌, ◌/◌, ◌%◌, ◌≤◌, ◌<◌, cond, List, [], ◌∷◌, ◌++◌, map, ltb}
use Prim.Native.Char.{code}
use Prim.Native.String as S
use Prim.Native.String.{String}
use Rattle.gates.specs.Every.{Every}
use Rattle.gates.specs.declared.Gate.{Gate}
use Rattle.gates.specs.declared.Gate.TheVariants.{Not, Powered}
use Rattle.cascades.specs.declared.Control.{Control}
use Rattle.cascades.specs.Control.{positive}
use Rattle.cascades.specs.Cascade.{Controlled}

-- (lines n); (keep a b ..) (document 02, order 8); (not t), (cn c t), (v c t) and (vp c t); (mct (c1 c2 .. ck) t), each ci with or without a sign
pub data Form : Type 0 where
  lines : ℕ → Form
  keep : List ℕ → Form
  gate : Gate → Form
  mct : List Control → ℕ → Form

-- the bytes of quoted text
abbrev pub bytes : String → List ℕ
bytes S.[] = []
bytes (S.◌∷◌ c s) = code c ∷ bytes s

-- a number is one or two digits, without a leading zero except 0 itself
unfoldable pub digits : ℕ → List ℕ
digits n = cond (ltb n 10) ((48 + n) ∷ []) ((48 + n / 10) ∷ (48 + n % 10) ∷ [])

-- a control, with "a minus sign directly before it" where it is negated
unfoldable pub written : Control → List ℕ
written c = cond c.negated (bytes "-" ++ digits c.line) (digits c.line)

-- controls with single spaces
unfoldable pub spaced : List Control → List ℕ
spaced [] = []
spaced (c ∷ []) = written c
spaced (c ∷ d ∷ cs) = written c ++ (bytes " " ++ spaced (d ∷ cs))

-- numbers, written as controls without a sign
abbrev pub unsigned : List ℕ → List Control
unsigned l = map positive l

-- the last number of a line; the line is ended by byte 10
unfoldable pub one : ℕ → List ℕ
one t = digits t ++ bytes ")\n"

-- the control c stands before the target t
unfoldable pub two : ℕ → ℕ → List ℕ
two c t = digits c ++ (bytes " " ++ one t)

-- v is power 1, cn power 2, vp power 3
unfoldable pub word : ℕ → List ℕ
word zero = []
word (suc zero) = bytes "(v "
word (suc (suc zero)) = bytes "(cn "
word (suc (suc (suc p))) = bytes "(vp "

unfoldable pub render : Form → List ℕ
render (lines n) = bytes "(lines " ++ one n
render (keep l) = bytes "(keep " ++ (spaced (unsigned l) ++ bytes ")\n")
render (gate (Not t)) = bytes "(not " ++ one t
render (gate (Powered p c t)) = word p ++ two c t
render (mct cs t) = bytes "(mct (" ++ (spaced cs ++ (bytes ") " ++ one t))

unfoldable pub rendered : List Form → List ℕ
rendered [] = []
rendered (f ∷ fs) = render f ++ rendered fs

-- the forms of a cascade
abbrev pub as_forms : List Controlled → List Form
as_forms gs = map (λ g. mct g.controls g.target) gs

-- a keep line, where lines are kept
unfoldable pub keep_forms : List ℕ → List Form
keep_forms [] = []
keep_forms (a ∷ kept) = keep (a ∷ kept) ∷ []

-- what stands above the gates: (lines n), and "right after line 1" the kept lines
unfoldable pub head_forms : ℕ → List ℕ → List Form
head_forms n kept = lines n ∷ keep_forms kept

-- a cascade text with these kept lines, and a circuit text
unfoldable pub cascade_text : ℕ → List ℕ → List Controlled → List ℕ
cascade_text n kept gs = rendered (head_forms n kept ++ as_forms gs)

unfoldable pub circuit_text : ℕ → List Gate → List ℕ
circuit_text n c = rendered (lines n ∷ map gate c)

-- a form that can be written: numbers of one or two digits, "at least one number" to keep, powers 1 to 3
abbrev pub Short : List Control → Type 0
Short = Every (λ c. c.line < 100)

abbrev pub Proper : Form → Type 0
Proper (lines n) = n < 100
Proper (keep []) = ⊥
Proper (keep (a ∷ l)) = Short (unsigned (a ∷ l))
Proper (gate (Not t)) = t < 100
Proper (gate (Powered p c t)) = (c < 100) × (t < 100) × (1 ≤ p) × (p ≤ 3)
Proper (mct cs t) = Short cs × (t < 100)

abbrev pub AllProper : List Form → Type 0
AllProper = Every Proper
