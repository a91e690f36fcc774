-- The order of the rules; and the unstarred examples, each rule, that order and signs, computed: one table. Assumes nothing.
use mathlib.Core.Path.{◌≡◌, refl}
use mathlib.Core.Bool.{Bool, true, false, ◌&&◌}
use mathlib.Core.List.{List, [], ◌∷◌, ◌++◌, map}
use Prim.Native.Nat.{ℕ, zero, suc}
use lib.Dec.{eqb}
use lib.ListN.{length}
use Rattle.gates.specs.declared.Gate.{Gate}
use Rattle.meaning.specs.Pattern.{number, has}
use Rattle.gates.specs.Inverse.{inverse, inverted}
use Rattle.cascades.specs.Expansion.{◌⨾◌, joined, lines_outside, mct_spares, expand, expand_with, expansion}
use Rattle.cascades.specs.Control.{control_lines, negated_lines}
use Rattle.cascades.specs.Signs.{nots, between_nots, expansion±}
use Rattle.text.specs.declared.Head.{Head}
use Rattle.text.specs.Text.{Form, bytes}
use Rattle.text.specs.Reading as R
use Rattle.text.specs.Reading.{strip, second, num, tail, pair, list, many, without_sign, numbers, lines_body, keep_body, not_body, mct_body, powered_body, parse, whole, read, longer, cut}
use Rattle.cascades.specs.LineSets.{unpacked}
use Rattle.text.specs.Heads.{head_of, kept_lines, line_below}
use Rattle.text.specs.Judging as J
use Rattle.text.specs.declared.Kind.{Kind}
use Rattle.text.specs.declared.Kind.TheVariants.{Cascade, Circuit}
use Rattle.text.specs.Judging.{Judged, turned_away, accepted, belongs, most, any_from, rising, Rule, rule, first, head_rules, keep_rules, rules, or_else, judge_lines, rest_by, rest, judge_rest, judge_text, read_all, judge}
use Rattle.text.specs.Refusals.{number_of}

unfoldable pub rule_number : Rule → ℕ
rule_number (rule r b) = number_of r

-- "8 is now tried before 7", at every line
pub in_order : (k : Kind) (h : Head) (before : ℕ) (c : List Gate) (f : Form) → map rule_number (rules k h before c f) ≡ 3 ∷ 4 ∷ 5 ∷ 6 ∷ 8 ∷ 7 ∷ 9 ∷ []
unfolding rules rule_number
in_order k h before c f = refl

-- a text, and: the refusal's number and line; or the lines and the gates of an accepted text
pub data Edge : Type 0 where
  away passes : Kind → List ℕ → ℕ → ℕ → Edge

unfoldable times : ℕ → List ℕ → List ℕ
times zero s = []
times (suc n) s = s ++ times n s

abbrev m15 : List ℕ
m15 = bytes "(mct (0 1 2 3 4 5 6 7 8 9 10 11 12 13 14) 15)\n"

-- the same with two of its controls negated, and with three
abbrev m15_two : List ℕ
m15_two = bytes "(mct (0 1 2 3 4 -5 6 7 8 9 10 11 12 13 -14) 15)\n"

abbrev m15_three : List ℕ
m15_three = bytes "(mct (-0 1 2 3 4 -5 6 7 8 9 10 11 12 13 -14) 15)\n"

unfoldable is_away : Judged → ℕ → ℕ → Bool
is_away (turned_away r l) m k = eqb (number_of r) m && eqb l k
is_away (accepted h c) m k = false

unfoldable is_passed : Judged → ℕ → ℕ → Bool
is_passed (turned_away r l) m k = false
is_passed (accepted h c) m k = eqb h.lines m && eqb (length c) k

unfoldable holds : Edge → Bool
holds (away k s m l) = is_away (judge k s) m l
holds (passes k s n g) = is_passed (judge k s) n g

unfoldable all_hold : List Edge → Bool
all_hold [] = true
all_hold (e ∷ es) = holds e && all_hold es

abbrev edges : List Edge
edges =
    passes Cascade (bytes "(lines 17)\n" ++ times 11 m15) 17 4092
    ∷ away Cascade (bytes "(lines 17)\n" ++ times 12 m15) 9 13
    ∷ away Cascade (bytes "(lines 17)\n(mct (0 1 2 3 4 5 6 7 8 9 10 11 12 13 14 15) 16)\n") 8 2
    ∷ passes Cascade (bytes "(lines 32)\n") 32 0
    ∷ away Cascade (bytes "(lines 33)\n") 4 1
    ∷ away Cascade (bytes "(lines 0)\n") 4 1
    ∷ away Cascade (bytes "(lines 100)\n") 3 1
    ∷ away Circuit (bytes "(lines 3)\n(not 1)") 3 2
    ∷ away Circuit (bytes "(lines 3)") 3 1
    ∷ away Circuit [] 3 1
    ∷ away Circuit (bytes "\n") 3 1
    ∷ away Circuit (bytes "(lines 3)\n(not 1)\n\n") 3 3
    ∷ away Circuit (bytes "(lines 3)\n(lines 3)\n") 3 2
    ∷ away Circuit (bytes "(lines 3)\n(mct () 1)\n") 3 2
    ∷ away Cascade (bytes "(lines 3)\n(not 1)\n") 3 2
    ∷ away Circuit (bytes "(not 1)\n") 3 1
    ∷ away Circuit (bytes "(lines 3)\n(v 1 03)\n") 3 2
    ∷ away Circuit (bytes "(lines 3)\n(V 1 2)\n") 3 2
    ∷ away Circuit (bytes "(lines 3)\n(v  1 2)\n") 3 2
    ∷ passes Cascade (bytes "(lines 1)\n" ++ times 256 (bytes "(mct () 0)\n")) 1 256
    ∷ away Cascade (bytes "(lines 1)\n" ++ times 257 (bytes "(mct () 0)\n")) 9 258
    -- 4 before 5, 5 before 6, 6 before 8 and 7, 8 before 7 and 9, 7 before 9
    ∷ away Cascade (bytes "(lines 3)\n(mct (3) 3)\n") 4 2
    ∷ away Cascade (bytes "(lines 3)\n(mct (2 1) 2)\n") 5 2
    ∷ away Cascade (bytes "(lines 32)\n(mct (0 2 1 3 4 5 6 7 8 9 10 11 12 13 14 15) 16)\n") 6 2
    ∷ away Cascade (bytes "(lines 4)\n(mct (0 2 1) 3)\n") 6 2
    ∷ away Cascade (bytes "(lines 17)\n(mct (0 2 1 3 4 5 6 7 8 9 10 11 12 13 14 15) 16)\n") 6 2
    ∷ away Cascade (bytes "(lines 18)\n(mct () 0)\n(mct (0 1 2 3 4 5 6 7 8 10 11 12 13 14 15 16 17) 9)\n") 8 3
    ∷ away Cascade (bytes "(lines 4)\n" ++ (times 256 (bytes "(mct () 0)\n") ++ bytes "(mct (0 1 2) 3)\n")) 8 258
    ∷ away Cascade (bytes "(lines 18)\n" ++ (times 256 (bytes "(mct () 0)\n") ++ bytes "(mct (0 1 2 3 4 5 6 7 8 9 10 11 12 13 14 15) 16)\n")) 7 258
    -- 8 asks for three controls or more, and for no line more
    ∷ passes Cascade (bytes "(lines 3)\n(mct (0 1) 2)\n") 3 5
    ∷ away Cascade (bytes "(lines 16)\n(mct (0 1 2 3 4 5 6 7 8 9 10 11 12 13 14) 15)\n") 8 2
    ∷ away Cascade (bytes "(lines 18)\n(mct (0 1 2 3 4 5 6 7 8 9 10 11 12 13 14 15) 16)\n") 7 2
    -- signs: the NOTs are counted; the line decides, by rules 4 to 8; a sign stands directly before a control and nowhere else
    ∷ passes Cascade (bytes "(lines 17)\n" ++ (m15_two ++ times 10 m15)) 17 4096
    ∷ away Cascade (bytes "(lines 17)\n" ++ (m15_three ++ times 10 m15)) 9 12
    ∷ passes Cascade (bytes "(lines 2)\n(mct (-0) 1)\n") 2 3
    ∷ passes Cascade (bytes "(lines 32)\n(mct (-0 1 -30) 31)\n") 32 20
    ∷ away Cascade (bytes "(lines 3)\n(mct (-3) 1)\n") 4 2
    ∷ away Cascade (bytes "(lines 3)\n(mct (-1) 1)\n") 5 2
    ∷ away Cascade (bytes "(lines 5)\n(mct (3 -3) 4)\n") 6 2
    ∷ away Cascade (bytes "(lines 5)\n(mct (-3 3) 4)\n") 6 2
    ∷ away Cascade (bytes "(lines 5)\n(mct (-3 -3) 4)\n") 6 2
    ∷ away Cascade (bytes "(lines 32)\n(mct (-0 -1 -2 -3 -4 -5 -6 -7 -8 -9 -10 -11 -12 -13 -14 -15) 16)\n") 7 2
    ∷ away Cascade (bytes "(lines 17)\n(mct (-0 -1 -2 -3 -4 -5 -6 -7 -8 -9 -10 -11 -12 -13 -14 -15) 16)\n") 8 2
    ∷ away Cascade (bytes "(lines 4)\n(mct (0 -1 2) 3)\n") 8 2
    ∷ away Cascade (bytes "(lines 3)\n(mct (--1) 2)\n") 3 2
    ∷ away Cascade (bytes "(lines 3)\n(mct (- 1) 2)\n") 3 2
    ∷ away Cascade (bytes "(lines 3)\n(mct (-01) 2)\n") 3 2
    ∷ away Cascade (bytes "(lines 3)\n(mct (-) 2)\n") 3 2
    ∷ away Cascade (bytes "(lines 3)\n(mct (1-) 2)\n") 3 2
    ∷ away Cascade (bytes "(lines 3)\n(mct (+1) 2)\n") 3 2
    ∷ away Cascade (bytes "(lines 3)\n(mct (1) -2)\n") 3 2
    ∷ away Cascade (bytes "(lines -3)\n") 3 1
    ∷ away Circuit (bytes "(lines 3)\n(not -0)\n") 3 2
    ∷ away Circuit (bytes "(lines 3)\n(cn -0 1)\n") 3 2
    ∷ away Circuit (bytes "(lines 3)\n(v 0 -1)\n") 3 2
    -- keep lines: "5 lines, `(keep 4)`, `(mct (0 1 2) 3)`"; one line more; a gate that names the kept line, which its M1 borrows; nothing but kept lines
    ∷ away Cascade (bytes "(lines 5)\n(keep 4)\n(mct (0 1 2) 3)\n") 8 3
    ∷ passes Cascade (bytes "(lines 6)\n(keep 4)\n(mct (0 1 2) 3)\n") 6 16
    ∷ passes Cascade (bytes "(lines 7)\n(keep 0)\n(mct (0 1 2 3 4) 5)\n") 7 46
    ∷ passes Cascade (bytes "(lines 3)\n(keep 0 1 2)\n") 3 0
    -- on line 2 or nowhere, with a number at least, without signs
    ∷ away Cascade (bytes "(lines 3)\n(keep)\n") 3 2
    ∷ away Cascade (bytes "(lines 3)\n(keep )\n") 3 2
    ∷ away Cascade (bytes "(lines 3)\n(keep 0 )\n") 3 2
    ∷ away Cascade (bytes "(lines 3)\n(keep 0)") 3 2
    ∷ away Cascade (bytes "(lines 3)\n(keep -1)\n") 3 2
    ∷ away Cascade (bytes "(lines 3)\n(keep 0)\n(keep 1)\n") 3 3
    ∷ away Cascade (bytes "(lines 3)\n(mct () 0)\n(keep 1)\n") 3 3
    ∷ away Cascade (bytes "(keep 0)\n(lines 3)\n") 3 1
    ∷ away Circuit (bytes "(lines 3)\n(keep 1)\n(not 0)\n") 3 2
    -- rules 4 and 6, in this order
    ∷ away Cascade (bytes "(lines 3)\n(keep 3)\n") 4 2
    ∷ away Cascade (bytes "(lines 3)\n(keep 1 0 3)\n") 4 2
    ∷ away Cascade (bytes "(lines 3)\n(keep 1 0)\n") 6 2
    ∷ away Cascade (bytes "(lines 3)\n(keep 1 1)\n") 6 2
    -- lines are counted with it, and 256 mct lines stand beside it; 8 before 7
    ∷ passes Cascade (bytes "(lines 1)\n(keep 0)\n" ++ times 256 (bytes "(mct () 0)\n")) 1 256
    ∷ away Cascade (bytes "(lines 1)\n(keep 0)\n" ++ times 257 (bytes "(mct () 0)\n")) 9 259
    ∷ away Cascade (bytes "(lines 18)\n(keep 16 17)\n(mct (0 1 2 3 4 5 6 7 8 9 10 11 12 13 14) 15)\n") 8 3
    ∷ away Cascade (bytes "(lines 18)\n(keep 17)\n(mct (0 1 2 3 4 5 6 7 8 9 10 11 12 13 14 15) 16)\n") 8 3
    ∷ []

edges_hold : all_hold edges ≡ true
unfolding times is_away is_passed holds all_hold has inverse inverted ◌⨾◌ joined lines_outside mct_spares expand expand_with expansion strip second num tail pair R.signed control_lines negated_lines nots between_nots expansion± R.control R.controls list many without_sign numbers lines_body keep_body not_body mct_body powered_body parse whole read longer cut J.controls J.target J.gates belongs most any_from rising first head_rules keep_rules rules or_else number unpacked head_of kept_lines line_below judge_lines rest_by rest judge_rest judge_text read_all judge
edges_hold = refl
