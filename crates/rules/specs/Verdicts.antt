-- What the rules say of a line in form, in the terms of text's Judging. Assumes nothing.
use Rattle.std.specs.Prelude.{◌≡◌, List, [], ◌∷◌, ℕ, ◌+◌, ◌*◌, length, get_or, leb, ltb, Bool, not, ◌&&◌, ◌||◌}
use Rattle.cascades.specs.declared.Control.{Control}
use Rattle.cascades.specs.Expansion.{counts}
use Rattle.gates.specs.declared.Gate.{Gate}
use Rattle.std.specs.declared.result.Result.{Result}
use Rattle.std.specs.declared.result.Result.TheVariants.{Ok, Err}
use Rattle.text.specs.declared.Refusal.{Refusal}
use Rattle.text.specs.declared.Refusal.TheVariants.{NoSuchLine, Crossed, Unsorted, TooWide, NoSpare, TooMany}
use Rattle.text.specs.declared.Head.{Head}
use Rattle.text.specs.Text.{gate, mct}
use Rattle.text.specs.declared.Kind.TheVariants.{Cascade, Circuit}
use Rattle.text.specs.Judging.{Found, sound, breaks, rule, first, rules}
use Rattle.gathering.specs.declared.Controls.{Controls}
use Rattle.gathering.specs.Gathering.{gathered}

-- a verdict, as a finding of the rules
abbrev pub seen_verdict : {A : Type 0} → Result A Refusal → Found
seen_verdict (Ok x) = sound
seen_verdict (Err r) = breaks r

-- rules 4 to 9, of which 8 is tried before 7, by what is tested: a line is out of range, the target is a control, the controls rise, no line is
-- spare, there are more than 15 controls, there are too many gates
abbrev pub tried : Bool → Bool → Bool → Bool → Bool → Bool → Found
tried outside crossed up spareless wide many =
    first (rule NoSuchLine outside ∷ rule Crossed crossed ∷ rule Unsorted (not up) ∷ rule NoSpare spareless ∷ rule TooWide wide ∷ rule TooMany many ∷ [])

-- the verdict on a gate, after any circuit c of `before` gates
abbrev pub GateVerdict : {A : Type 0} → Head → Gate → ℕ → Result A Refusal → Type 0
GateVerdict h g before r = (c : List Gate) → length c ≡ before → seen_verdict r ≡ first (rules Circuit h before c (gate g))

-- "257th mct, expansion past 4,096 gates with this line", for a gate with k controls, of which so many are negated, by the table of counts;
-- more than 15 break rule 7
unfoldable pub over : ℕ → ℕ → ℕ → ℕ → Bool
over before total k negated = ltb 256 (before + 1) || (leb k 15 && ltb 4096 (total + get_or counts k 0 + 2 * negated))

-- the verdict on an mct gate, after `before` mct gates that made any circuit c of `total` gates; of its controls cs there is what was gathered
abbrev pub MctVerdict : {A : Type 0} → Head → ℕ → Controls → ℕ → ℕ → Result A Refusal → Type 0
MctVerdict h t a before total r = (cs : List Control) (c : List Gate) → a ≡ gathered cs → length c ≡ total → seen_verdict r ≡ first (rules Cascade h before c (mct cs t))
