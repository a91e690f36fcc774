-- Reading a line: the form that it is the rendering of, if there is one (proofs/Printed: reads, read-only). It computes.
-- Assumes nothing.
use Rattle.std.specs.Prelude.{ℕ, zero, suc, ◌+◌, ◌*◌, ◌-◌, Bool, true, false, cond, ◌&&◌, List, [], ◌∷◌, length, eqb, leb}
use Rattle.gates.specs.declared.Gate.TheVariants.{Not, Powered}
use Rattle.cascades.specs.declared.Control.{Control}
use Rattle.cascades.specs.Control.{control_lines, negated_lines}
use Rattle.text.specs.Text.{Form, lines, keep, gate, mct, bytes}

-- what was got, and the bytes after it
pub data Got (A : Type 0) : Type 0 where
  got : A → List ℕ → Got A
  none : Got A

abbrev pub bind : {A B : Type 0} → Got A → (A → List ℕ → Got B) → Got B
bind (got a s) f = f a s
bind none f = none

-- the first, where it is there, else the second
abbrev pub if_got : {A B : Type 0} → Got A → (A → List ℕ → Got B) → Got B → Got B
if_got (got a s) f z = f a s
if_got none f z = z

-- the text after a word
unfoldable pub strip : List ℕ → List ℕ → Got (Unit {0})
strip [] s = got tt s
strip (w ∷ ws) [] = none
strip (w ∷ ws) (a ∷ s) = cond (eqb a w) (strip ws s) none

abbrev pub digit : ℕ → Bool
digit a = leb 48 a && leb a 57

-- a second digit, where there is one
unfoldable pub second : ℕ → List ℕ → Got ℕ
second d [] = got d []
second d (b ∷ s) = cond (digit b) (got (d * 10 + (b - 48)) s) (got d (b ∷ s))

unfoldable pub num : List ℕ → Got ℕ
num [] = none
num (a ∷ s) = cond (digit a) (cond (eqb a 48) (got 0 s) (second (a - 48) s)) none

-- `t)` and the line's end
unfoldable pub tail : List ℕ → Got ℕ
tail s = bind (num s) (λ t s'. bind (strip (bytes ")\n") s') (λ _ s''. got t s''))

-- `c t)` and the line's end
unfoldable pub pair : List ℕ → Got (ℕ × ℕ)
pair s = bind (num s) (λ c s'. bind (strip (bytes " ") s') (λ _ s''. bind (tail s'') (λ t s'''. got (c, t) s''')))

-- a number as a control with a sign or without one
abbrev pub with_sign : Bool → List ℕ → Got Control
with_sign b s = bind (num s) (λ c. got (record { line = c; negated = b }))

-- a control: "a minus sign directly before it" negates it
unfoldable pub signed : List ℕ → Got Control
signed s = if_got (strip (bytes "-") s) (λ _. with_sign true) (with_sign false s)

-- a control, and whether another comes after it: a space, or `)`
unfoldable pub control : List ℕ → Got (Control × Bool)
control s = bind (signed s) (λ c s'. if_got (strip (bytes " ") s') (λ _ s''. got (c, true) s'') (bind (strip (bytes ")") s') (λ _ s''. got (c, false) s'')))

-- controls up to the `)`, at most k of them
unfoldable pub controls : ℕ → List ℕ → Got (List Control)
controls zero s = none
controls (suc k) s = bind (control s) (λ c s'. cond c.1 (bind (controls k s') (λ cs s''. got (c.0 ∷ cs) s'')) (got (c.0 ∷ []) s'))

-- after `(mct (`: none, or some
unfoldable pub list : List ℕ → Got (List Control)
list s = if_got (strip (bytes ")") s) (λ _ s'. got [] s') (controls (length s) s)

unfoldable pub many : List ℕ → Got (List Control × ℕ)
many s = bind (list s) (λ cs s'. bind (strip (bytes " ") s') (λ _ s''. bind (tail s'') (λ t s'''. got (cs, t) s''')))

-- the lines of controls none of which has a sign
unfoldable pub without_sign : List Control → List ℕ → Got (List ℕ)
without_sign cs s = cond (eqb (length (negated_lines cs)) 0) (got (control_lines cs) s) none

-- `a b ..)` and the line's end: numbers without a sign, at least one
unfoldable pub numbers : List ℕ → Got (List ℕ)
numbers s = bind (controls (length s) s) (λ cs s'. bind (strip (bytes "\n") s') (λ _ s''. without_sign cs s''))

-- the rest of a line, by its word
unfoldable pub lines_body : List ℕ → Got Form
lines_body s = bind (tail s) (λ n. got (lines n))

unfoldable pub keep_body : List ℕ → Got Form
keep_body s = bind (numbers s) (λ l. got (keep l))

unfoldable pub not_body : List ℕ → Got Form
not_body s = bind (tail s) (λ t. got (gate (Not t)))

unfoldable pub mct_body : List ℕ → Got Form
mct_body s = bind (many s) (λ p. got (mct p.0 p.1))

unfoldable pub powered_body : ℕ → List ℕ → Got Form
powered_body p s = bind (pair s) (λ c. got (gate (Powered p c.0 c.1)))

unfoldable pub parse : List ℕ → Got Form
parse s =
    if_got (strip (bytes "(lines ") s) (λ _. lines_body)
    (if_got (strip (bytes "(keep ") s) (λ _. keep_body)
    (if_got (strip (bytes "(not ") s) (λ _. not_body)
    (if_got (strip (bytes "(cn ") s) (λ _. powered_body 2)
    (if_got (strip (bytes "(v ") s) (λ _. powered_body 1)
    (if_got (strip (bytes "(vp ") s) (λ _. powered_body 3)
    (bind (strip (bytes "(mct (") s) (λ _. mct_body)))))))

-- a whole line, its byte 10 included
pub data Line : Type 0 where
  in_form : Form → Line
  unformed : Line

unfoldable pub whole : Got Form → Line
whole (got f []) = in_form f
whole (got f (b ∷ s)) = unformed
whole none = unformed

unfoldable pub read : List ℕ → Line
read s = whole (parse s)

-- the lines of a text, each with its byte 10; where the last has none, it is a line that is not in form
unfoldable pub longer : ℕ → List (List ℕ) → List (List ℕ)
longer b [] = (b ∷ []) ∷ []
longer b (l ∷ ls) = (b ∷ l) ∷ ls

unfoldable pub cut : List ℕ → List (List ℕ)
cut [] = []
cut (b ∷ s) = cond (eqb b 10) ((b ∷ []) ∷ cut s) (longer b (cut s))
