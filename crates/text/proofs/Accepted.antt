-- What it is to be accepted: the text is the rendering of its head and its forms, each of them keeps the rules, and the circuit is valid on n lines.
-- Assumes nothing.
use mathlib.Core.Path.{◌≡◌, refl, sym, ap, ◌∙◌, subst}
use mathlib.Core.Logic.{◌≢◌}
use mathlib.Core.Bool.{Bool, true, false, cond, not, ◌&&◌, false≢true}
use mathlib.Core.List.{List, [], ◌∷◌, ◌++◌, map, append_assoc, append-nil}
use Prim.Native.Nat.{ℕ, ◌+◌, ◌≤◌, ◌<◌}
use native.Mathlib.Omega.{arith}
use lib.ListN.{length}
use lib.Dec.{eqb, leb, ltb}
use borrow.Author.Tests.{ltb-false, leb-true, leb-false, eqb-false, not-false, le-leb}
use Rattle.gates.specs.Every.{Every}
use Rattle.gates.proofs.Every.{every_append, every_follows, every_map}
use Rattle.gates.specs.declared.Gate.{Gate}
use Rattle.gates.specs.declared.Gate.TheVariants.{Not, Powered}
use Rattle.gates.specs.Circuit.{valid_not, valid_powered, AllValid}
use Rattle.meaning.specs.Pattern.{number, has}
use Rattle.cascades.specs.Expansion.{◌⨾◌, mct_spares, expand, expand_with, expansion, Expandable}
use Rattle.cascades.specs.declared.Control.{Control}
use Rattle.cascades.specs.Control.{positive, negative, control_lines, negated_lines}
use Rattle.cascades.specs.Signs.{nots, between_nots, expansion±}
use Rattle.cascades.specs.Cascade.{Controlled, expand_all, Below, AllExpandable}
use Rattle.meaning.proofs.Flips.{both, neither}
use Rattle.cascades.proofs.Halves.{below_more}
use Rattle.cascades.proofs.SpareLists.{by_rules}
use Rattle.gates.proofs.Reach.{all_valid_append}
use Rattle.cascades.proofs.Signs.{expansion±_fits}
use Rattle.text.specs.declared.Refusal.{Refusal}
use Rattle.text.specs.declared.Refusal.TheVariants.{NoSuchLine, Unsorted}
use Rattle.text.specs.declared.Head.{Head}
use Rattle.text.specs.Refusals.{number_of}
use Rattle.text.specs.Text.{Form, lines, keep, gate, mct, render, rendered, as_forms, keep_forms, head_forms, Proper, AllProper, cascade_text, circuit_text}
use Rattle.text.specs.Reading.{Line, in_form, unformed, read, cut}
use Rattle.text.specs.declared.Kind.{Kind}
use Rattle.text.specs.declared.Kind.TheVariants.{Cascade, Circuit}
use Rattle.text.specs.Heads.{head_of, kept_lines, unkept, line_below}
use Rattle.text.specs.Judging.{Judged, turned_away, accepted, controls, target, gates, belongs, most, any_from, rising, Found, sound, breaks, Rule, rule, first, head_rules, keep_rules, rules, or_else, judge_lines, rest_by, rest, judge_rest, judge_text, read_all, judge}
use Rattle.text.proofs.Printed.{read_only, reads, glued, glued_cut, cut_render}
use Rattle.text.proofs.Rising.{rising_distinct, negated_rising}
use Rattle.text.proofs.Heads.{kept_read}

-- ---- answers

pub away_accepted : {r : Refusal} {l : ℕ} {h : Head} {c : List Gate} → turned_away r l ≡ accepted h c → ⊥
away_accepted e = let z : ◌≡◌ {A = ℕ} 0 1 = cc in omega arith

pub breaks_sound : {r : Refusal} → breaks r ≡ sound → ⊥
breaks_sound e = let z : ◌≡◌ {A = ℕ} 0 1 = cc in omega arith

pub accepted_head : {h k : Head} {c d : List Gate} → accepted h c ≡ accepted k d → h ≡ k
accepted_head e = cc

pub accepted_circuit : {h k : Head} {c d : List Gate} → accepted h c ≡ accepted k d → c ≡ d
accepted_circuit e = cc

passed : (f : Found) (l : ℕ) (j : Judged) {h : Head} {c : List Gate} → or_else f l j ≡ accepted h c → (f ≡ sound) × (j ≡ accepted h c)
unfolding or_else
passed sound l j e = (refl, e)
passed (breaks r) l j e = absurd (away_accepted e)

pub kept : (r : Refusal) (b : Bool) (rs : List Rule) → first (rule r b ∷ rs) ≡ sound → (b ≡ false) × (first rs ≡ sound)
unfolding first
kept r true rs e = absurd (breaks_sound e)
kept r false rs e = (refl, e)

-- the test of the rule with this number
unfoldable test_of : ℕ → List Rule → Bool
test_of n [] = false
test_of n (rule r b ∷ rs) = cond (eqb (number_of r) n) b (test_of n rs)

-- is not met where none is broken, whatever their order
kept_each : (n : ℕ) (rs : List Rule) → first rs ≡ sound → test_of n rs ≡ false
unfolding test_of
kept_each n [] e = refl
kept_each n (rule r b ∷ rs) e = let w = kept r b rs e in go (eqb (number_of r) n) w.0 (kept_each n rs w.1)
  where
    go : (x : Bool) → b ≡ false → test_of n rs ≡ false → cond x b (test_of n rs) ≡ false
    go true p q = p
    go false p q = q

-- ---- a form that keeps the rules

pub record Good (k : Kind) (h : Head) (f : Form) : Type 0 where
  pub proper : Proper f
  pub belonging : belongs k f ≡ true
  pub inside : any_from h.lines (target f ∷ controls f) ≡ false
  pub apart : has (target f) (controls f) ≡ false
  pub ordered : rising (controls f) ≡ true
  pub spare : (leb 3 (length (controls f)) && eqb (length (mct_spares h.lines (kept_lines h) (controls f) (target f))) 0) ≡ false

abbrev pub AllGood : Kind → Head → List Form → Type 0
AllGood k h = Every (Good k h)

unfoldable pub made : Head → List Form → List Gate
made h [] = []
made h (f ∷ fs) = gates h f ++ made h fs

pub record Kept (k : Kind) (h : Head) (before : ℕ) (c : List Gate) (f : Form) : Type 0 where
  pub good : Good k h f
  pub narrow : length (controls f) ≤ 15
  pub few : before + 1 ≤ most k
  pub short : length (c ++ gates h f) ≤ 4096

pub keeps : (k : Kind) (h : Head) (before : ℕ) (c : List Gate) (f : Form) → Proper f → first (rules k h before c f) ≡ sound → Kept k h before c f
unfolding rules test_of
keeps k h before c f p e =
    let unmet : (n : ℕ) → test_of n (rules k h before c f) ≡ false = λ n. kept_each n (rules k h before c f) e in
    let u = neither (ltb (most k) (before + 1)) (ltb 4096 (length (c ++ gates h f))) (unmet 9) in
    record {
      good = record { proper = p; belonging = not-false (belongs k f) (unmet 3); inside = unmet 4; apart = unmet 5; ordered = not-false (rising (controls f)) (unmet 6); spare = unmet 8 };
      narrow = ltb-false 15 (length (controls f)) (unmet 7);
      few = ltb-false (most k) (before + 1) u.0;
      short = ltb-false 4096 (length (c ++ gates h f)) u.1;
    }

-- ---- the gate lines

pub record Lines (k : Kind) (h : Head) (ls : List (List ℕ)) (c d : List Gate) : Type 0 where
  pub forms : List Form
  pub written : glued ls ≡ rendered forms
  pub good : AllGood k h forms
  pub whole : d ≡ c ++ made h forms
  pub short : length c ≤ 4096 → length d ≤ 4096

lines_accepted : (k : Kind) (h : Head) (before : ℕ) (c : List Gate) (ls : List (List ℕ)) {g : Head} {d : List Gate} → judge_lines k h before c (read_all ls) ≡ accepted g d → (h ≡ g) × Lines k h ls c d
unfolding judge_lines read_all rendered glued made
lines_accepted k h before c [] {g} {d} e =
    let q : c ≡ d = accepted_circuit e in
    (accepted_head e, record { forms = []; written = refl; good = tt; whole = rw (← q) (sym (append-nil c)); short = λ s. rw q at s })
lines_accepted k h before c (l ∷ ls) {g} {d} e = go (read l) refl e (λ f. lines_accepted k h (before + 1) (c ++ gates h f) ls)
  where
    go : (x : Line) → read l ≡ x → judge_lines k h before c (x ∷ read_all ls) ≡ accepted g d
        → ((f : Form) → judge_lines k h (before + 1) (c ++ gates h f) (read_all ls) ≡ accepted g d → (h ≡ g) × Lines k h ls (c ++ gates h f) d)
        → (h ≡ g) × Lines k h (l ∷ ls) c d
    go unformed q z ih = absurd (away_accepted z)
    go (in_form f) q z ih =
        let r = read_only l f q in
        let p = passed (first (rules k h before c f)) (line_below h before) _ z in
        let y = keeps k h before c f r.1 p.0 in
        let i = ih f p.1 in
        let w = i.1 in (
          i.0,
          record {
            forms = f ∷ w.forms;
            written = rw (r.0, w.written);
            good = (y.good, w.good);
            whole = w.whole ∙ append_assoc c (gates h f) (made h w.forms);
            short = λ s. w.short y.short;
          },
        )

-- ---- what stands below line 1

-- the kept lines and the gate lines of an accepted text of n lines
record RestOf (k : Kind) (n : ℕ) (ls : List (List ℕ)) (c : List Gate) : Type 0 where
  kept : List ℕ
  in_cascades : k ≡ Circuit → kept ≡ []
  below : Below n kept
  ordered : rising kept ≡ true
  forms : List Form
  written : glued ls ≡ rendered (keep_forms kept ++ forms)
  good : AllGood k (head_of n kept) forms
  whole : c ≡ made (head_of n kept) forms
  short : length c ≤ 4096

-- which make this head
abbrev Rests : Kind → ℕ → List (List ℕ) → Head → List Gate → Type 0
Rests k n ls h c = (w : RestOf k n ls c) × (head_of n w.kept ≡ h)

pub all_below : (n : ℕ) (cs : List ℕ) → any_from n cs ≡ false → Below n cs
unfolding any_from Below
all_below n [] e = tt
all_below n (c ∷ cs) e = let u = neither (leb n c) (any_from n cs) e in (leb-false n c u.0, all_below n cs u.1)

keep_kept : (n : ℕ) (l : List ℕ) → first (keep_rules n l) ≡ sound → Below n l × (rising l ≡ true)
unfolding keep_rules
keep_kept n l e = let w = kept NoSuchLine (any_from n l) _ e in (all_below n l w.0, not-false (rising l) (kept Unsorted (not (rising l)) _ w.1).0)

pub cascade_circuit : Cascade ≡ Circuit → ⊥
cascade_circuit e = let z : ◌≡◌ {A = ℕ} 0 1 = cc in omega arith

rendered_keep : (m : List ℕ) (fs : List Form) → Proper (keep m) → render (keep m) ++ rendered fs ≡ rendered (keep_forms m ++ fs)
unfolding keep_forms rendered
rendered_keep [] fs p = absurd p
rendered_keep (a ∷ m) fs p = refl

module _ (k : Kind) (n : ℕ) {h : Head} {c : List Gate} where
  no_keep : (ls : List (List ℕ)) → judge_rest k n (record { kept = []; gate_lines = read_all ls }) ≡ accepted h c → Rests k n ls h c
  unfolding judge_rest keep_rules any_from rising first or_else Below keep_forms
  no_keep ls e =
      let w = lines_accepted k (head_of n []) 0 [] ls e in (
        record {
          kept = [];
          in_cascades = λ q. refl;
          below = tt;
          ordered = refl;
          forms = w.1.forms;
          written = w.1.written;
          good = w.1.good;
          whole = w.1.whole;
          short = w.1.short (omega arith);
        },
        w.0,
      )

  a_keep : (l : List ℕ) (ls : List (List ℕ)) (m : List ℕ) → k ≡ Cascade → read l ≡ in_form (keep m) → judge_rest k n (record { kept = m; gate_lines = read_all ls }) ≡ accepted h c → Rests k n (l ∷ ls) h c
  unfolding judge_rest glued
  a_keep l ls m q r e =
      let p = passed (first (keep_rules n m)) 2 _ e in
      let w = lines_accepted k (head_of n m) 0 [] ls p.1 in
      let y = keep_kept n m p.0 in
      let x = read_only l (keep m) r in (
        record {
          kept = m;
          in_cascades = λ z. absurd (cascade_circuit (sym q ∙ z));
          below = y.0;
          ordered = y.1;
          forms = w.1.forms;
          written = rw (x.0, w.1.written) (rendered_keep m w.1.forms x.1);
          good = w.1.good;
          whole = w.1.whole;
          short = w.1.short (omega arith);
        },
        w.0,
      )

rest_accepted : (k : Kind) (n : ℕ) (ls : List (List ℕ)) {h : Head} {c : List Gate} → judge_rest k n (rest k (read_all ls)) ≡ accepted h c → Rests k n ls h c
unfolding rest rest_by
rest_accepted Circuit n ls e = no_keep Circuit n ls e
rest_accepted Cascade n [] e = no_keep Cascade n [] (unfold read_all in e)
rest_accepted Cascade n (l ∷ ls) {h} {c} e = go (read l) refl (unfold read_all in e)
  where
    same : (x : Line) → read l ≡ x → judge_rest Cascade n (record { kept = []; gate_lines = x ∷ read_all ls }) ≡ accepted h c → Rests Cascade n (l ∷ ls) h c
    same x q z = no_keep Cascade n (l ∷ ls) (unfold read_all in rw q z)

    go : (x : Line) → read l ≡ x → judge_rest Cascade n (rest Cascade (x ∷ read_all ls)) ≡ accepted h c → Rests Cascade n (l ∷ ls) h c
    go unformed q z = same unformed q z
    go (in_form (keep m)) q z = a_keep Cascade n l ls m refl q z
    go (in_form (lines m)) q z = same (in_form (lines m)) q z
    go (in_form (gate g)) q z = same (in_form (gate g)) q z
    go (in_form (mct cs t)) q z = same (in_form (mct cs t)) q z

-- ---- the text

pub record Text (k : Kind) (h : Head) (s : List ℕ) (c : List Gate) : Type 0 where
  pub forms : List Form
  pub written : s ≡ rendered (head_forms h.lines (kept_lines h) ++ forms)
  pub good : AllGood k h forms
  pub whole : c ≡ made h forms
  pub short : length c ≤ 4096
  pub least : 1 ≤ h.lines
  pub largest : h.lines ≤ 32
  -- the kept lines are lines of the n, rising, and the head is made of them; a circuit text has none
  pub kept_below : Below h.lines (kept_lines h)
  pub kept_rising : rising (kept_lines h) ≡ true
  pub head : head_of h.lines (kept_lines h) ≡ h
  pub in_cascades : k ≡ Circuit → kept_lines h ≡ []

head_kept : (n : ℕ) → first (head_rules n) ≡ sound → (1 ≤ n) × (n ≤ 32)
unfolding head_rules
head_kept n e = let h = both (leb 1 n) (leb n 32) (not-false (leb 1 n && leb n 32) (kept _ _ _ e).0) in (leb-true 1 n h.0, leb-true n 32 h.1)

rendered_head : (n : ℕ) (kept : List ℕ) (fs : List Form) → render (lines n) ++ rendered (keep_forms kept ++ fs) ≡ rendered (head_forms n kept ++ fs)
unfolding head_forms rendered
rendered_head n kept fs = refl

-- line 1, and what stands below it
text_of : (k : Kind) (n : ℕ) (l : List ℕ) (ls : List (List ℕ)) {c : List Gate} (w : RestOf k n ls c) → l ≡ render (lines n) → (1 ≤ n) × (n ≤ 32) → Text k (head_of n w.kept) (l ++ glued ls) c
text_of k n l ls w q b =
    let y = kept_read n w.kept (below_more n 32 w.kept b.1 w.below) w.ordered in
    unfold head_of in record {
      forms = w.forms;
      written = rw (q, w.written, y) (rendered_head n w.kept w.forms);
      good = w.good;
      whole = w.whole;
      short = w.short;
      least = b.0;
      largest = b.1;
      kept_below = rw y w.below;
      kept_rising = rw y w.ordered;
      head = rw y;
      in_cascades = λ r. y ∙ w.in_cascades r;
    }

text_accepted : (k : Kind) (ls : List (List ℕ)) {h : Head} {c : List Gate} → judge_text k (read_all ls) ≡ accepted h c → Text k h (glued ls) c
unfolding judge_text read_all glued
text_accepted k [] e = absurd (away_accepted e)
text_accepted k (l ∷ ls) {h} {c} e = go (read l) refl e
  where
    go : (x : Line) → read l ≡ x → judge_text k (x ∷ read_all ls) ≡ accepted h c → Text k h (l ++ glued ls) c
    go unformed q z = absurd (away_accepted z)
    go (in_form (lines m)) q z =
        let p = passed (first (head_rules m)) 1 _ z in
        let w = rest_accepted k m ls p.1 in
        subst (λ (g : Head). Text k g (l ++ glued ls) c) w.1 (text_of k m l ls w.0 (read_only l (lines m) q).0 (head_kept m p.0))
    go (in_form (keep m)) q z = absurd (away_accepted z)
    go (in_form (gate g)) q z = absurd (away_accepted z)
    go (in_form (mct cs t)) q z = absurd (away_accepted z)

pub judge_accepted : (k : Kind) (s : List ℕ) {h : Head} {c : List Gate} → judge k s ≡ accepted h c → Text k h s c
unfolding judge
judge_accepted k s {h} {c} e = subst (λ (t : List ℕ). Text k h t c) (glued_cut s) (text_accepted k (cut s) e)

-- ---- a text that is written is judged by its forms

unfoldable pub formed : List Form → List Line
formed [] = []
formed (f ∷ fs) = in_form f ∷ formed fs

pub read_rendered : (fs : List Form) → AllProper fs → read_all (cut (rendered fs)) ≡ formed fs
unfolding read_all cut rendered formed
read_rendered [] p = refl
read_rendered (f ∷ fs) p = rw (cut_render f (rendered fs), reads f p.0, read_rendered fs p.1)

-- ---- the circuit is valid on n lines

pub target_below : (n t : ℕ) (cs : List ℕ) → any_from n (t ∷ cs) ≡ false → (t < n) × Below n cs
unfolding Below
target_below n t cs e = all_below n (t ∷ cs) e

-- rule 8: three or more controls have a spare line
some_spare : (k m : ℕ) → (leb 3 k && eqb m 0) ≡ false → 3 ≤ k → 1 ≤ m
some_spare k m e h = let d : m ≢ 0 = eqb-false m 0 (rw (le-leb 3 k h) at e) in omega arith

pub expandable : (h : Head) (cs : List Control) (t : ℕ) → Good Cascade h (mct cs t) → Expandable h.lines (kept_lines h) (control_lines cs) t × Below h.lines (control_lines cs)
unfolding controls target
expandable h ds t g =
    let cs = control_lines ds in
    let b = target_below h.lines t cs g.inside in
    (by_rules h.lines (kept_lines h) cs t b.0 g.apart (rising_distinct cs g.ordered) (some_spare (length cs) _ g.spare), b.1)

-- "a NOT on each negated line, rising"
pub nots_rise : (h : Head) (cs : List Control) (t : ℕ) → Good Cascade h (mct cs t) → rising (negated_lines cs) ≡ true
unfolding controls
nots_rise h cs t g = negated_rising cs g.ordered

-- what `(mct (-0) 1)` puts into a circuit
signed_gates : gates (unkept 2) (mct (negative 0 ∷ []) 1) ≡ Not 0 ∷ Powered 2 0 1 ∷ Not 0 ∷ []
unfolding gates expansion± between_nots nots control_lines negated_lines expansion expand_with expand ◌⨾◌
signed_gates = refl

pub good_valid : (k : Kind) (h : Head) (f : Form) → Good k h f → AllValid h.lines (gates h f)
unfolding gates controls target belongs has Below
good_valid Cascade h (lines m) g = absurd (false≢true g.belonging)
good_valid Circuit h (lines m) g = absurd (false≢true g.belonging)
good_valid Cascade h (keep l) g = absurd (false≢true g.belonging)
good_valid Circuit h (keep l) g = absurd (false≢true g.belonging)
good_valid Cascade h (gate x) g = absurd (false≢true g.belonging)
good_valid Circuit h (mct cs t) g = absurd (false≢true g.belonging)
good_valid Cascade h (mct cs t) g = let e = expandable h cs t g in expansion±_fits h.lines (kept_lines h) cs t e.0 e.1
good_valid Circuit h (gate (Not t)) g = (valid_not (target_below h.lines t [] g.inside).0, tt)
good_valid Circuit h (gate (Powered p c t)) g =
    let b = target_below h.lines t (c ∷ []) g.inside in
    let w = g.proper in
    let d : eqb t c ≡ false = (neither (eqb t c) false g.apart).0 in
    (valid_powered w.2 w.3 b.1.0 b.0 (λ q. eqb-false t c d (sym q)), tt)

made_valid : (k : Kind) (h : Head) (fs : List Form) → AllGood k h fs → AllValid h.lines (made h fs)
unfolding made
made_valid k h [] g = tt
made_valid k h (f ∷ fs) g = all_valid_append h.lines (gates h f) (made h fs) (good_valid k h f g.0) (made_valid k h fs g.1)

-- a judged circuit is valid on n lines
pub text_valid : {k : Kind} {h : Head} {s : List ℕ} {c : List Gate} → Text k h s c → AllValid h.lines c
text_valid {k} {h} w = rw w.whole (made_valid k h w.forms w.good)

-- ---- a cascade

pub all_proper : (k : Kind) (h : Head) (fs : List Form) → AllGood k h fs → AllProper fs
all_proper k h = every_follows (Good k h) Proper (λ f g. g.proper)

pub record CascadeOf (h : Head) (s : List ℕ) (c : List Gate) : Type 0 where
  pub mcts : List Controlled
  pub proper : AllProper (as_forms mcts)
  pub written : s ≡ cascade_text h.lines (kept_lines h) mcts
  pub expanded : c ≡ expand_all h.lines (kept_lines h) mcts
  pub ready : AllExpandable h.lines (kept_lines h) mcts

record Mcts (h : Head) (fs : List Form) : Type 0 where
  mcts : List Controlled
  are : fs ≡ as_forms mcts
  make : made h fs ≡ expand_all h.lines (kept_lines h) mcts
  ready : AllExpandable h.lines (kept_lines h) mcts

mcts_of : (h : Head) (fs : List Form) → AllGood Cascade h fs → Mcts h fs
unfolding made gates expand_all AllExpandable belongs ◌⨾◌
mcts_of h [] g = record { mcts = []; are = refl; make = refl; ready = tt }
mcts_of h (lines m ∷ fs) g = absurd (false≢true g.0.belonging)
mcts_of h (keep l ∷ fs) g = absurd (false≢true g.0.belonging)
mcts_of h (gate x ∷ fs) g = absurd (false≢true g.0.belonging)
mcts_of h (mct cs t ∷ fs) g =
    let w = mcts_of h fs g.1 in
    let e = expandable h cs t g.0 in
    record {
      mcts = record { controls = cs; target = t } ∷ w.mcts;
      are = ap (λ (l : List Form). mct cs t ∷ l) w.are;
      make = ap (λ (l : List Gate). expansion± h.lines (kept_lines h) cs t ++ l) w.make;
      ready = (e, w.ready);
    }

pub cascade_of : {h : Head} {s : List ℕ} {c : List Gate} → Text Cascade h s c → CascadeOf h s c
unfolding cascade_text
cascade_of {h} w = let m = mcts_of h w.forms w.good in
    record { mcts = m.mcts; proper = subst AllProper m.are (all_proper Cascade h w.forms w.good); written = w.written ∙ ap (λ (l : List Form). rendered (head_forms h.lines (kept_lines h) ++ l)) m.are; expanded = w.whole ∙ m.make; ready = m.ready }

pub keep_proper : (n : ℕ) (kept : List ℕ) → n ≤ 32 → Below n kept → AllProper (keep_forms kept)
unfolding keep_forms Below
keep_proper n [] h b = tt
keep_proper n (a ∷ l) h b = ((omega (arith, b.0), every_map (λ c. c < n) (λ c. c.line < 100) positive (λ c k. omega arith) l b.1), tt)

pub cascade_proper : {h : Head} {s : List ℕ} {c : List Gate} (w : Text Cascade h s c) → AllProper (head_forms h.lines (kept_lines h) ++ as_forms (cascade_of w).mcts)
unfolding head_forms
cascade_proper {h} w = (omega (arith, w.largest), every_append Proper (keep_forms (kept_lines h)) (as_forms (cascade_of w).mcts) (keep_proper h.lines (kept_lines h) w.largest w.kept_below) (cascade_of w).proper)

-- ---- a circuit

circuit_is : (h : Head) (fs : List Form) → AllGood Circuit h fs → fs ≡ map gate (made h fs)
unfolding made gates belongs
circuit_is h [] g = refl
circuit_is h (lines m ∷ fs) g = absurd (false≢true g.0.belonging)
circuit_is h (keep l ∷ fs) g = absurd (false≢true g.0.belonging)
circuit_is h (gate x ∷ fs) g = ap (λ (l : List Form). gate x ∷ l) (circuit_is h fs g.1)
circuit_is h (mct cs t ∷ fs) g = absurd (false≢true g.0.belonging)

-- the circuit read is the one whose text it is
pub circuit_of : {h : Head} {s : List ℕ} {c : List Gate} → Text Circuit h s c → s ≡ circuit_text h.lines c
unfolding circuit_text head_forms rendered keep_forms
circuit_of {h} w =
    w.written
    ∙ ap (λ (kept : List ℕ). rendered (head_forms h.lines kept ++ w.forms)) (w.in_cascades refl)
    ∙ ap (λ (l : List Form). rendered (lines h.lines ∷ l)) (circuit_is h w.forms w.good ∙ ap (map gate) (sym w.whole))

-- and its head keeps no line
pub circuit_head : {h : Head} {s : List ℕ} {c : List Gate} → Text Circuit h s c → h ≡ unkept h.lines
unfolding head_of number has
circuit_head {h} w = sym w.head ∙ ap (head_of h.lines) (w.in_cascades refl)

-- so two circuit texts of as many lines have the same head
pub same_heads : (s t : List ℕ) {g h : Head} {c d : List Gate} → judge Circuit s ≡ accepted g c → judge Circuit t ≡ accepted h d → g.lines ≡ h.lines → g ≡ h
same_heads s t p q e = circuit_head (judge_accepted Circuit s p) ∙ ap unkept e ∙ sym (circuit_head (judge_accepted Circuit t q))
