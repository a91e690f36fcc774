-- The lines of a text loaded one after the other: what holds between them. Assumes nothing.
use mathlib.Core.Path.{◌≡◌, refl, sym, ap, ◌∙◌, subst}
use mathlib.Core.Logic.{◌≢◌}
use mathlib.Core.Bool.{Bool, true, false, cond, ◌&&◌}
use mathlib.Core.List.{List, [], ◌++◌, map}
use Prim.Native.Nat.{ℕ, suc, ◌+◌, ◌≤◌, ◌<◌}
use native.Mathlib.Omega.{arith}
use native.Mathlib.Nat.{le_refl}
use lib.Dec.{eqb}
use borrow.Author.Tests.{eq-eqb, ne_eqb, eqb-true}
use lib.ListN.{length, take, drop, get_or, set, length-append, drop_of_length-le}
use lib.Seq.{drop-cons, length-take-le}
use Rattle.gates.specs.declared.Gate.{Gate}
use Rattle.gates.specs.Circuit.{AllValid}
use Rattle.gates.specs.Code.{code, gates as gates_of}
use Rattle.gates.proofs.CodeLists.{length_gates, gates_append, gates_code, all_codes_append, all_codes_code, all_valid_more}
use Rattle.text.specs.declared.Refusal.{Refusal}
use Rattle.text.specs.declared.Head.{Head}
use Rattle.text.specs.Text.{Form, gate, mct}
use Rattle.text.specs.Reading.{Line, cut}
use Rattle.text.specs.Heads.{head_of, kept_lines, unkept, line_below}
use Rattle.text.specs.declared.Kind.{Kind}
use Rattle.text.specs.declared.Kind.TheVariants.{Cascade, Circuit}
use Rattle.text.specs.Judging.{Judged, turned_away, accepted, gates, most, controls, any_from, rising, first, keep_rules, or_else, judge_lines, rest, judge_rest, read_all}
use Rattle.meaning.specs.Pattern.{number, has}
use Rattle.text.proofs.Cursor.{at_end}
use Rattle.text.proofs.Accepted.{Kept, good_valid, expandable}
use Rattle.cascades.specs.declared.Control.{Control}
use Rattle.cascades.specs.Control.{control_lines, negated_lines}
use Rattle.cascades.specs.Expansion.{expansion, Expandable}
use Rattle.cascades.specs.Signs.{between_nots, expansion±}
use Rattle.cascades.specs.Cascade.{Below}
use Rattle.cascades.proofs.SignLines.{negated_fewer}
use Rattle.expansion.specs.Written.{Written}
use Rattle.expansion.proofs.Writing.{one}
use Rattle.gathering.specs.declared.Controls.{Controls}
use Rattle.gathering.specs.Gathering.{listed, gathered}
use Rattle.gathering.proofs.Gathered.{AreLines, lines_are, negated_are}
use Rattle.judging.specs.Seen.{judge_at, HasHead, HasKeep, keeps, fails, judge_line}
use Rattle.std.proofs.Common.{Result, Ok}
use Rattle.text.specs.declared.Refused.{Refused}
use Rattle.tokens.specs.declared.Parsed.{Parsed}
use Rattle.loading.specs.declared.Progress.{Progress}
use Rattle.loading.specs.Loaded.{LoadsTo, standing, BegunAt, gate_lines_from, lines_from, Counted, SoFar, Stands, Ready, TakenAt, TakenAs, Taken, ExpansionFits}
use Rattle.judging.proofs.Lines.{goes_on, line_judged, line_kept}

-- ---- the judging goes on

module _ (k : Kind) (h : Head) (before : ℕ) (c : List Gate) (s : List ℕ) (at : ℕ) where
  line_at : at < length s → judge_lines k h before c (read_all (cut (drop at s))) ≡ goes_on k h before c (judge_line k h before c (drop at s))
  line_at l = let e = drop-cons s at 0 l in
      ap (λ (t : List ℕ). judge_lines k h before c (read_all (cut t))) e ∙ line_judged k h before c (get_or s at 0) (drop (suc at) s) ∙ ap (λ (t : List ℕ). goes_on k h before c (judge_line k h before c t)) (sym e)

  line_next : {f : Form} {r : List ℕ} → at < length s → keeps f r ≡ judge_line k h before c (drop at s) → judge_lines k h before c (read_all (cut (drop at s))) ≡ judge_lines k h (before + 1) (c ++ gates h f) (read_all (cut r))
  unfolding goes_on
  line_next l e = line_at l ∙ ap (goes_on k h before c) (sym e)

  line_fails : {x : Refusal} → at < length s → fails x ≡ judge_line k h before c (drop at s) → judge_lines k h before c (read_all (cut (drop at s))) ≡ turned_away x (line_below h before)
  unfolding goes_on
  line_fails l e = line_at l ∙ ap (goes_on k h before c) (sym e)

  lines_end : length s ≤ at → judge_lines k h before c (read_all (cut (drop at s))) ≡ accepted h c
  unfolding judge_lines
  lines_end l = ap (λ (t : List ℕ). judge_lines k h before c (read_all (cut t))) (drop_of_length-le s {i = at} l) ∙ ap (judge_lines k h before c) at_end

-- ---- line 1

none_counted : (k : Kind) → Counted k 0 0
none_counted Cascade = (omega arith, λ e. refl)
none_counted Circuit = refl

-- below line 1 nothing was taken, and nothing is kept
first_lines : (k : Kind) (n : ℕ) (s : List ℕ) (at : ℕ) (l : List ℕ) → lines_from k s at 0 (unkept n) 0 l ≡ judge_at k n s at
unfolding lines_from judge_at
first_lines Cascade n s at l = refl
first_lines Circuit n s at l = unfold judge_rest rest keep_rules any_from rising first or_else head_of number has in refl

pub begun : {s : List ℕ} {at : ℕ} {h : Head} {next : ℕ} → HasHead s at h next → BegunAt s at (record { value = standing 0 h 0; end = next })
begun {s} {at} {h} {next} x = record {
  forward = omega (arith, x.ahead);
  stands = λ k l. record {
    inside = x.inside;
    judged = ap (λ (g : Head). lines_from k s next 0 g 0 l) x.keeps_none ∙ first_lines k h.lines s next l ∙ sym (x.judged k);
    sound = record { some = x.some; narrow = x.narrow; counted = none_counted k; few = omega arith; codes = tt };
  };
}

-- ---- where the loading stands

module _ {k : Kind} {s : List ℕ} {at : ℕ} {p : Progress} {l : List ℕ} (w : Ready k s at p l) where
  pub ready : {j : Kind} → k ≡ j → Ready j s at p l
  ready {j} q = rw q at w

  pub moves : {j : Kind} (r : Result (Parsed Progress) Refused) (l' : List ℕ) → k ≡ j → Taken j s at p l r l' → Taken k s at p l r l'
  moves {j} r l' q t = subst (λ (i : Kind). Taken i s at p l r l') (sym q) t

module _ {s : List ℕ} {at : ℕ} {p : Progress} {l : List ℕ} (w : Ready Circuit s at p l) where
  pub ready_gate : Ready Circuit s at (standing p.loaded.gates p.loaded.head p.loaded.gates) l
  ready_gate = let z = w.sound in record { more = w.more; room = w.room; sound = record { some = z.some; narrow = z.narrow; counted = refl; few = z.few; codes = z.codes } }

  pub gate_lines : gate_lines_from Circuit s at p.loaded.gates p.loaded.head p.loaded.gates l ≡ lines_from Circuit s at p.lines p.loaded.head p.loaded.gates l
  unfolding lines_from
  gate_lines = ap (λ (n : ℕ). gate_lines_from Circuit s at n p.loaded.head p.loaded.gates l) (sym w.sound.counted)

-- ---- a line

-- after a gate line no keep line may stand, nor after a keep line
some_taken : (k : Kind) (s : List ℕ) (at before : ℕ) (h : Head) (m : ℕ) (l : List ℕ) → lines_from k s at (before + 1) h m l ≡ gate_lines_from k s at (before + 1) h m l
unfolding lines_from
some_taken Circuit s at before h m l = refl
some_taken Cascade s at before h m l = rw (ne_eqb (before + 1) 0 (λ e. omega arith))

some_kept : (s : List ℕ) (at before : ℕ) (h : Head) (m : ℕ) (l : List ℕ) → h.kept ≢ 0 → lines_from Cascade s at before h m l ≡ gate_lines_from Cascade s at before h m l
unfolding lines_from
some_kept s at before h m l n = rw (ne_eqb h.kept 0 n) (go (eqb before 0))
  where
    go : (b : Bool) → cond (b && false) (judge_at Cascade h.lines s at) (gate_lines_from Cascade s at before h m l) ≡ gate_lines_from Cascade s at before h m l
    go true = refl
    go false = refl

module _ {k : Kind} {s : List ℕ} {at before : ℕ} {h : Head} {m : ℕ} {l : List ℕ} (w : Ready k s at (standing before h m) l) where
  pub circuit_count : length (gates_of (take m l)) ≡ m
  circuit_count = length_gates (take m l) ∙ length-take-le m l (omega (arith, w.room, w.sound.few))

  -- that breaks a rule
  pub refused : {x : Refusal} {i : ℕ} → fails x ≡ judge_line k h before (gates_of (take m l)) (drop at s) → i ≡ line_below h before → gate_lines_from k s at before h m l ≡ turned_away x i
  refused {x} e q = line_fails k h before (gates_of (take m l)) s at w.more e ∙ ap (turned_away x) (sym q)

  -- that keeps the rules, and whose gates were written
  module _ {f : Form} {r : List ℕ} (e : keeps f r ≡ judge_line k h before (gates_of (take m l)) (drop at s)) where
    pub kept : Kept k h before (gates_of (take m l)) f
    kept = line_kept k h before (gates_of (take m l)) (drop at s) (sym e)

    pub room_left : m + length (gates h f) ≤ 4096
    room_left = omega (arith, kept.short, length-append (gates_of (take m l)) (gates h f), circuit_count)

    pub valid : AllValid h.lines (gates h f)
    valid = good_valid k h f kept.good

    pub taken : {n next : ℕ} {l' : List ℕ} → r ≡ drop next s → (at < next) × (next ≤ length s) → Written (gates h f) l m l' n → Counted k (before + 1) n → TakenAt k (gate_lines_from k s at before h m l) s at (record { value = standing (before + 1) h n; end = next }) l'
    taken {n} {next} {l'} d a x c = record {
      forward = a.0;
      stands = record {
        inside = a.1;
        judged = some_taken k s next before h n l' ∙ rw (← d) (ap (λ (c : List Gate). judge_lines k h (before + 1) c (read_all (cut r))) made ∙ sym (line_next k h before (gates_of (take m l)) s at w.more e));
        sound = record {
          some = w.sound.some;
          narrow = w.sound.narrow;
          counted = c;
          few = omega (arith, x.count, room_left);
          codes = rw x.front (all_codes_append 32 (take m l) (map code (gates h f)) w.sound.codes (all_codes_code 32 (gates h f) (le_refl 32) (all_valid_more h.lines 32 (gates h f) w.sound.narrow valid)));
        };
      };
    }
      where
        made : gates_of (take n l') ≡ gates_of (take m l) ++ gates h f
        made = ap gates_of x.front ∙ gates_append (take m l) (map code (gates h f)) ∙ ap (λ (d : List Gate). gates_of (take m l) ++ d) (gates_code h.lines (gates h f) w.sound.narrow valid)

-- ---- at the end of the text

-- no keep line stands there
no_rest : (h : Head) → h.kept ≡ 0 → judge_rest Cascade h.lines (rest Cascade []) ≡ accepted h []
unfolding judge_rest rest keep_rules any_from rising first or_else judge_lines head_of number has
no_rest h b = let i : unkept h.lines ≡ h = λ x. record { lines = h.lines; kept = sym b x } in ap (λ (g : Head). accepted g []) i

nothing_left : (h : Head) (s : List ℕ) (at : ℕ) → length s ≤ at → h.kept ≡ 0 → judge_at Cascade h.lines s at ≡ accepted h []
unfolding judge_at
nothing_left h s at e b =
    ap (λ (t : List ℕ). judge_rest Cascade h.lines (rest Cascade (read_all (cut t)))) (drop_of_length-le s {i = at} e)
    ∙ ap (λ (ls : List Line). judge_rest Cascade h.lines (rest Cascade ls)) at_end
    ∙ no_rest h b

pub loaded_all : {k : Kind} {j : Judged} {s : List ℕ} {at : ℕ} {p : Progress} {l : List ℕ} → Stands k j s at p l → length s ≤ at → LoadsTo j l (Ok p.loaded)
unfolding lines_from
loaded_all {k} {j} {s} {at} {p} {l} w e = record { judged = sym w.judged ∙ ended k w.sound; renderable = record { narrow = w.sound.narrow; few = w.sound.few; codes = w.sound.codes } }
  where
    h : Head
    h = p.loaded.head

    m : ℕ
    m = p.loaded.gates

    ended : (k : Kind) → SoFar k p.lines h m l → lines_from k s at p.lines h m l ≡ accepted h (gates_of (take m l))
    ended Circuit v = lines_end Circuit h p.lines (gates_of (take m l)) s at e
    ended Cascade v = go (eqb p.lines 0) refl (eqb h.kept 0) refl
      where
        go : (a : Bool) → eqb p.lines 0 ≡ a → (b : Bool) → eqb h.kept 0 ≡ b → cond (a && b) (judge_at Cascade h.lines s at) (gate_lines_from Cascade s at p.lines h m l) ≡ accepted h (gates_of (take m l))
        go true x true y = let z : m ≡ 0 = v.counted.1 (eqb-true p.lines 0 x) in rw z (nothing_left h s at e (eqb-true h.kept 0 y))
        go true x false y = lines_end Cascade h p.lines (gates_of (take m l)) s at e
        go false x b y = lines_end Cascade h p.lines (gates_of (take m l)) s at e

-- ---- a gate of a circuit

pub gate_taken : {s : List ℕ} {at n : ℕ} {h : Head} {l : List ℕ} {g : Gate} {r : List ℕ} {next : ℕ} (w : Ready Circuit s at (standing n h n) l) → keeps (gate g) r ≡ judge_line Circuit h n (gates_of (take n l)) (drop at s) → r ≡ drop next s → (at < next) × (next ≤ length s) → TakenAt Circuit (gate_lines_from Circuit s at n h n l) s at (record { value = standing (n + 1) h (n + 1); end = next }) (set l n (code g))
unfolding gates
gate_taken {n = n} {l = l} {g} w e d a = taken w e d a (one g l n (omega (arith, room_left w e, w.room))) refl

-- ---- an mct gate of a cascade, of whose controls cs there is what was gathered

module _ {s : List ℕ} {at before : ℕ} {h : Head} {m : ℕ} {l : List ℕ} {a : Controls} {cs : List Control} {t : ℕ} {r : List ℕ} (w : Ready Cascade s at (standing before h m) l) (g : a ≡ gathered cs) (e : keeps (mct cs t) r ≡ judge_line Cascade h before (gates_of (take m l)) (drop at s)) where
  wide : length (control_lines cs) ≤ 15
  unfolding controls
  wide = (kept w e).narrow

  few : length (negated_lines cs) ≤ 16
  few = omega (arith, negated_fewer cs, wide)

  the_lines : AreLines (control_lines cs) a.lines
  the_lines = rw g (lines_are cs)

  the_negated : AreLines (negated_lines cs) a.negated
  the_negated = rw g (negated_are cs)

  pub counts_there : (a.lines.count ≤ length a.lines.first) × (a.negated.count ≤ length a.negated.first)
  counts_there = (omega (arith, the_lines.count, the_lines.room, wide), omega (arith, the_negated.count, the_negated.room, few))

  on_lines : Expandable h.lines (kept_lines h) (control_lines cs) t × Below h.lines (control_lines cs)
  on_lines = expandable h cs t (kept w e).good

  are_lines : listed a.lines ≡ control_lines cs
  are_lines = the_lines.first (omega (arith, wide))

  are_negated : listed a.negated ≡ negated_lines cs
  are_negated = the_negated.first few

  pub expansion_fits_at : ExpansionFits h t (listed a.lines) (listed a.negated) m (length l)
  unfolding gates expansion±
  expansion_fits_at = rw (are_lines, are_negated) (record { narrow = w.sound.narrow; expandable = on_lines.0; below = on_lines.1; fits = omega (arith, room_left w e, w.room) })

  pub mct_taken : {n next : ℕ} {l' : List ℕ} → r ≡ drop next s → (at < next) × (next ≤ length s) → Written (between_nots (listed a.negated) (expansion h.lines (kept_lines h) (listed a.lines) t)) l m l' n → TakenAt Cascade (gate_lines_from Cascade s at before h m l) s at (record { value = standing (before + 1) h n; end = next }) l'
  unfolding gates most expansion±
  mct_taken d b x = taken w e d b (rw (are_lines, are_negated) at x) ((kept w e).few, λ z. absurd (omega arith))

-- ---- a line of a cascade, which may be a keep line

module _ {s : List ℕ} {at before : ℕ} {h : Head} {m : ℕ} {l : List ℕ} (w : Ready Cascade s at (standing before h m) l) where
  -- none after a gate line, nor after a keep line
  pub mct_only : before ≢ 0 → (q : Result (Parsed Progress) Refused) (l' : List ℕ) → TakenAs Cascade (gate_lines_from Cascade s at before h m l) s at q l' → Taken Cascade s at (standing before h m) l q l'
  unfolding lines_from
  mct_only n q l' t = rw (ne_eqb before 0 n) t

  pub keep_before : h.kept ≢ 0 → (q : Result (Parsed Progress) Refused) (l' : List ℕ) → TakenAs Cascade (gate_lines_from Cascade s at before h m l) s at q l' → Taken Cascade s at (standing before h m) l q l'
  keep_before n q l' t = subst (λ (j : Judged). TakenAs Cascade j s at q l') (sym (some_kept s at before h m l n)) t

  module _ (a : before ≡ 0) (b : h.kept ≡ 0) where
    -- the first line below line 1
    first_below : lines_from Cascade s at before h m l ≡ judge_at Cascade h.lines s at
    unfolding lines_from
    first_below = rw (eq-eqb before 0 a, eq-eqb h.kept 0 b)

    no_codes : m ≡ 0
    no_codes = w.sound.counted.1 a

    pub keep_taken : {g : Head} {next : ℕ} → HasKeep s at h.lines g next → TakenAt Cascade (lines_from Cascade s at before h m l) s at (record { value = standing 0 g 0; end = next }) l
    keep_taken {g} {next} x = record {
      forward = x.ahead;
      stands = record {
        inside = x.inside;
        judged = some_kept s next 0 g 0 l x.some ∙ sym x.judged ∙ sym first_below;
        sound = record { some = rw x.lines w.sound.some; narrow = rw x.lines w.sound.narrow; counted = none_counted Cascade; few = omega arith; codes = tt };
      };
    }

    pub keep_refused : {r : Refusal} {i : ℕ} → judge_at Cascade h.lines s at ≡ turned_away r i → lines_from Cascade s at before h m l ≡ turned_away r i
    keep_refused e = first_below ∙ e

    pub keep_missing : judge_at Cascade h.lines s at ≡ judge_lines Cascade (unkept h.lines) 0 [] (read_all (cut (drop at s))) → (q : Result (Parsed Progress) Refused) (l' : List ℕ) → TakenAs Cascade (gate_lines_from Cascade s at before h m l) s at q l' → Taken Cascade s at (standing before h m) l q l'
    keep_missing e q l' t =
        let i : h ≡ unkept h.lines = λ x. record { lines = h.lines; kept = b x } in
        let same : gate_lines_from Cascade s at before h m l ≡ lines_from Cascade s at before h m l = rw (a, no_codes) (ap (λ (g : Head). judge_lines Cascade g 0 [] (read_all (cut (drop at s)))) i ∙ sym e ∙ sym (rw (a, no_codes) at first_below)) in
        subst (λ (j : Judged). TakenAs Cascade j s at q l') same t
