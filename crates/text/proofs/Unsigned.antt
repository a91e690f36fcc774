-- What a text without a keep line was judged to be before controls had signs: the definitions of then, but for the order of spare lines and that of
-- rules 7 and 8, which are those of now (`Lowest.antt` and `WideFirst.antt` have those of then). A control was a number. Forms are those of now, with controls that have no sign; `controls`, `target` and
-- `belongs` read them as they read those of then. Assumes nothing.
use mathlib.Core.Bool.{Bool, true, false, cond}
use mathlib.Core.List.{List, [], ◌∷◌}
use Prim.Native.Nat.{ℕ, zero, suc}
use lib.ListN.{length}
use Rattle.gates.specs.declared.Gate.{Gate}
use Rattle.cascades.specs.Control.{control_lines}
use Rattle.cascades.specs.Expansion.{expansion}
use Rattle.cascades.proofs.Signless.{positives}
use Rattle.text.specs.declared.Kind.{Kind}
use Rattle.text.specs.Text.{Form, lines, keep, gate, mct, bytes}
use Rattle.text.specs.Reading.{Got, got, none, bind, if_got, strip, num, tail, lines_body, keep_body, not_body, powered_body, Line, whole, cut}
use Rattle.text.specs.Judging.{Judged}
use Rattle.text.proofs.JudgedBy.{judge_text}

unfoldable pub control : List ℕ → Got (ℕ × Bool)
control s = bind (num s) (λ c s'. if_got (strip (bytes " ") s') (λ _ s''. got (c, true) s'') (bind (strip (bytes ")") s') (λ _ s''. got (c, false) s'')))

unfoldable pub some_controls : ℕ → List ℕ → Got (List ℕ)
some_controls zero s = none
some_controls (suc k) s = bind (control s) (λ c s'. cond c.1 (bind (some_controls k s') (λ cs s''. got (c.0 ∷ cs) s'')) (got (c.0 ∷ []) s'))

unfoldable pub list : List ℕ → Got (List ℕ)
list s = if_got (strip (bytes ")") s) (λ _ s'. got [] s') (some_controls (length s) s)

unfoldable pub many : List ℕ → Got (List ℕ × ℕ)
many s = bind (list s) (λ cs s'. bind (strip (bytes " ") s') (λ _ s''. bind (tail s'') (λ t s'''. got (cs, t) s''')))

unfoldable pub mct_body : List ℕ → Got Form
mct_body s = bind (many s) (λ p. got (mct (positives p.0) p.1))

unfoldable pub parse : List ℕ → Got Form
parse s =
    if_got (strip (bytes "(lines ") s) (λ _. lines_body)
    (if_got (strip (bytes "(keep ") s) (λ _. keep_body)
    (if_got (strip (bytes "(not ") s) (λ _. not_body)
    (if_got (strip (bytes "(cn ") s) (λ _. powered_body 2)
    (if_got (strip (bytes "(v ") s) (λ _. powered_body 1)
    (if_got (strip (bytes "(vp ") s) (λ _. powered_body 3)
    (bind (strip (bytes "(mct (") s) (λ _. mct_body)))))))

unfoldable pub read : List ℕ → Line
read s = whole (parse s)

-- the expansion had no NOTs for signs
unfoldable pub gates : ℕ → Form → List Gate
gates n (lines m) = []
gates n (keep l) = []
gates n (gate g) = g ∷ []
gates n (mct cs t) = expansion n [] (control_lines cs) t

unfoldable pub read_all : List (List ℕ) → List Line
read_all [] = []
read_all (l ∷ ls) = read l ∷ read_all ls

unfoldable pub judge : Kind → List ℕ → Judged
judge k s = judge_text gates k (read_all (cut s))
