-- What the answers about a line say, in the terms of text's Judging. Assumes nothing.
use Rattle.std.specs.Prelude.{◌≡◌, ◌≢◌, List, [], ℕ, ◌≤◌, ◌<◌, length, drop}
use Rattle.cascades.specs.declared.Control.{Control}
use Rattle.gates.specs.declared.Gate.{Gate}
use Rattle.text.specs.declared.Refusal.{Refusal}
use Rattle.text.specs.declared.Refusal.TheVariants.{Malformed}
use Rattle.text.specs.declared.Head.{Head}
use Rattle.text.specs.Text.{Form, gate, mct}
use Rattle.text.specs.Reading.{Got, got, none, parse, cut}
use Rattle.text.specs.declared.Kind.{Kind}
use Rattle.text.specs.declared.Kind.TheVariants.{Cascade, Circuit}
use Rattle.text.specs.Heads.{unkept, line_below}
use Rattle.text.specs.Judging.{Judged, Found, sound, breaks, first, rules, turned_away, judge, judge_lines, rest, judge_rest, read_all}
use Rattle.gathering.specs.Gathering.{gathered}
use Rattle.reading.specs.declared.Mct.{Mct}
use Rattle.std.specs.declared.option.Option.{Option}
use Rattle.std.specs.declared.option.Option.TheVariants.{Some, None}
use Rattle.std.specs.declared.result.Result.{Result}
use Rattle.std.specs.declared.result.Result.TheVariants.{Ok, Err}
use Rattle.text.specs.declared.Refused.{Refused}
use Rattle.tokens.specs.declared.Parsed.{Parsed}

-- ---- line 1

-- what stands at a place below line 1 of a text of n lines
unfoldable pub judge_at : Kind → ℕ → List ℕ → ℕ → Judged
judge_at k n s at = judge_rest k n (rest k (read_all (cut (drop at s))))

-- line 1, from a place of the text s on, has the head h, keeps nothing and ends at `next`: the judging goes on there, whatever the kind of text
pub record HasHead (s : List ℕ) (at : ℕ) (h : Head) (next : ℕ) : Type 0 where
  pub judged : (k : Kind) → judge k (drop at s) ≡ judge_at k h.lines s next
  pub keeps_none : h ≡ unkept h.lines
  pub some : 1 ≤ h.lines
  pub narrow : h.lines ≤ 32
  pub ahead : at < next
  pub inside : next ≤ length s

-- what line 1 was found to be: as above, or the text is turned away
abbrev pub HeadLineOf : List ℕ → ℕ → Result (Parsed Head) Refused → Type 0
HeadLineOf s at (Ok p) = HasHead s at p.value p.end
HeadLineOf s at (Err e) = (k : Kind) → judge k (drop at s) ≡ turned_away e.refusal e.line

-- ---- the keep line

-- the line at a place of the text s is a keep line, keeps its rules, and ends at `next`: the gate lines are judged from there on, below the head h, in
-- which some line is kept
pub record HasKeep (s : List ℕ) (at n : ℕ) (h : Head) (next : ℕ) : Type 0 where
  pub judged : judge_at Cascade n s at ≡ judge_lines Cascade h 0 [] (read_all (cut (drop next s)))
  pub lines : h.lines ≡ n
  pub some : h.kept ≢ 0
  pub ahead : at < next
  pub inside : next ≤ length s

-- what stands at the place after line 1 of a cascade of n lines: as above; or the gate lines, with nothing kept; or the text is turned away
abbrev pub KeepLineOf : List ℕ → ℕ → ℕ → Result (Option (Parsed Head)) Refused → Type 0
KeepLineOf s at n (Ok (Some p)) = HasKeep s at n p.value p.end
KeepLineOf s at n (Ok None) = judge_at Cascade n s at ≡ judge_lines Cascade (unkept n) 0 [] (read_all (cut (drop at s)))
KeepLineOf s at n (Err e) = judge_at Cascade n s at ≡ turned_away e.refusal e.line

-- ---- a gate line

-- the line at the front of a text keeps the rules, and this is its form and what comes after it; or it breaks one
pub data Judgement : Type 0 where
  keeps : Form → List ℕ → Judgement
  fails : Refusal → Judgement

unfoldable pub by_rules : Found → Form → List ℕ → Judgement
by_rules sound f s = keeps f s
by_rules (breaks r) f s = fails r

unfoldable pub by_form : Kind → Head → ℕ → List Gate → Got Form → Judgement
by_form k h before c none = fails Malformed
by_form k h before c (got f s) = by_rules (first (rules k h before c f)) f s

-- rules 3 to 9, tried on the line at the front of s, after `before` gate lines that made the circuit c
unfoldable pub judge_line : Kind → Head → ℕ → List Gate → List ℕ → Judgement
judge_line k h before c s = by_form k h before c (parse s)

-- the place moves forward and stays within the text; a refusal has the line's number, counted from 1
abbrev pub line_ahead : {A : Type 0} → List ℕ → ℕ → Head → ℕ → Result (Parsed A) Refused → Type 0
line_ahead s at h before (Ok p) = (at < p.end) × (p.end ≤ length s)
line_ahead s at h before (Err e) = e.line ≡ line_below h before

-- what a line of a circuit was found to be, in the text s
abbrev pub seen_gate_line : List ℕ → Result (Parsed Gate) Refused → Judgement
seen_gate_line s (Ok p) = keeps (gate p.value) (drop p.end s)
seen_gate_line s (Err e) = fails e.refusal

-- so the line at a place was judged, after any circuit c of `before` gates
abbrev pub GateLineOf : List ℕ → ℕ → Head → ℕ → Result (Parsed Gate) Refused → Type 0
GateLineOf s at h before r = (c : List Gate) → length c ≡ before → seen_gate_line s r ≡ judge_line Circuit h before c (drop at s)

-- the same of a line of a cascade, of whose controls cs there is what was gathered
abbrev pub MctLineOf : List ℕ → ℕ → Head → ℕ → ℕ → Result (Parsed Mct) Refused → Type 0
MctLineOf s at h before total (Ok p) =
    (cs : List Control) × (p.value.controls ≡ gathered cs) × ((c : List Gate) → length c ≡ total → keeps (mct cs p.value.target) (drop p.end s) ≡ judge_line Cascade h before c (drop at s))
MctLineOf s at h before total (Err e) = (c : List Gate) → length c ≡ total → fails e.refusal ≡ judge_line Cascade h before c (drop at s)
