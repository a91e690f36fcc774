-- What is written is read back: the circuit text of a list is accepted and its gates are the list, and the cascade text of a cascade is
-- accepted and its circuit is the cascade's expansion. Assumes nothing.
use mathlib.Core.Path.{◌≡◌, refl, sym, ap, ◌∙◌}
use mathlib.Core.Bool.{true, false, false≢true}
use mathlib.Core.List.{List, [], ◌∷◌, ◌++◌, map, append_assoc, append-nil}
use Prim.Native.Nat.{ℕ, ◌+◌, ◌≤◌}
use native.Mathlib.Omega.{arith}
use lib.ListN.{length, length-append, length-map}
use borrow.Author.Tests.{le-ltb, le-leb, lt-leb, ne_eqb}
use Rattle.gates.specs.Every.{Every}
use Rattle.gates.proofs.Every.{every_append, every_map}
use Rattle.gates.specs.declared.Gate.{Gate}
use Rattle.gates.specs.declared.Gate.TheVariants.{Not, Powered}
use Rattle.gates.specs.Circuit.{Valid, valid_not, valid_powered, AllValid}
use Rattle.meaning.specs.Pattern.{has}
use Rattle.cascades.specs.Expansion.{◌⨾◌}
use Rattle.cascades.specs.Signs.{expansion±}
use Rattle.cascades.specs.Cascade.{Controlled, expand_all, Below}
use Rattle.cascades.proofs.Halves.{below_more}
use Rattle.text.specs.declared.Head.{Head}
use Rattle.text.specs.Text.{Form, lines, keep, gate, mct, rendered, as_forms, keep_forms, head_forms, Proper, AllProper, circuit_text, cascade_text}
use Rattle.text.specs.declared.Kind.{Kind}
use Rattle.text.specs.declared.Kind.TheVariants.{Cascade, Circuit}
use Rattle.text.specs.Heads.{head_of, kept_lines, unkept}
use Rattle.text.specs.Judging.{accepted, controls, target, gates, belongs, most, any_from, rising, sound, first, head_rules, keep_rules, rules, or_else, judge_lines, rest_by, rest, judge_rest, judge_text, judge}
use Rattle.text.proofs.Heads.{kept_read, head_unkept}
use Rattle.text.proofs.Accepted.{Good, AllGood, made, formed, read_rendered, all_proper, keep_proper, cascade_circuit}

-- ---- either text

-- no form has more than 15 controls
abbrev pub AllNarrow : List Form → Type 0
AllNarrow = Every (λ f. length (controls f) ≤ 15)

good_kept : (k : Kind) (h : Head) (before : ℕ) (c : List Gate) (f : Form) → Good k h f → length (controls f) ≤ 15 → before + 1 ≤ most k → length (c ++ gates h f) ≤ 4096 → first (rules k h before c f) ≡ sound
unfolding first rules
good_kept k h before c f g w b l =
    rw (g.belonging, g.inside, g.apart, g.ordered, le-ltb 15 (length (controls f)) w, g.spare, le-ltb (most k) (before + 1) b, le-ltb 4096 (length (c ++ gates h f)) l)

forms_judged : (k : Kind) (h : Head) (before : ℕ) (c : List Gate) (fs : List Form) → AllGood k h fs → AllNarrow fs → before + length fs ≤ most k → length c + length (made h fs) ≤ 4096
    → judge_lines k h before c (formed fs) ≡ accepted h (c ++ made h fs)
unfolding judge_lines formed made or_else
forms_judged k h before c [] g w b l = rw (append-nil c)
forms_judged k h before c (f ∷ fs) g w b l =
    let m = gates h f in
    let e = length-append c m in
    let d = length-append m (made h fs) in
    let q = good_kept k h before c f g.0 w.0 (omega arith) (omega arith) in
    let ih = forms_judged k h (before + 1) (c ++ m) fs g.1 w.1 (omega arith) (omega arith) in
    rw (q, ih, append_assoc c m (made h fs))

-- numbers below n
no_from : (n : ℕ) (l : List ℕ) → Below n l → any_from n l ≡ false
unfolding Below any_from
no_from n [] b = refl
no_from n (c ∷ l) b = rw (lt-leb n c b.0, no_from n l b.1)

-- no gate line is a keep line
rest_formed : (k : Kind) (h : Head) (kept : List ℕ) (fs : List Form) → AllGood k h fs → (k ≡ Circuit → kept ≡ []) → rest k (formed (keep_forms kept ++ fs)) ≡ record { kept = kept; gate_lines = formed fs }
unfolding rest rest_by formed keep_forms
rest_formed Circuit h [] fs g w = refl
rest_formed Circuit h (a ∷ l) fs g w = absurd (let z : ◌≡◌ {A = ℕ} 0 1 = let q = w refl in cc in omega arith)
rest_formed Cascade h (a ∷ l) fs g w = refl
rest_formed Cascade h [] [] g w = refl
rest_formed Cascade h [] (lines n ∷ fs) g w = refl
rest_formed Cascade h [] (keep l ∷ fs) g w = unfold belongs in absurd (false≢true g.0.belonging)
rest_formed Cascade h [] (gate x ∷ fs) g w = refl
rest_formed Cascade h [] (mct cs t ∷ fs) g w = refl

-- a text whose forms keep the rules is accepted, with the circuit that they make
text_judged : (k : Kind) (n : ℕ) (kept : List ℕ) (fs : List Form) → AllGood k (head_of n kept) fs → AllNarrow fs → 1 ≤ n → n ≤ 32 → Below n kept → rising kept ≡ true → (k ≡ Circuit → kept ≡ []) → AllProper (keep_forms kept)
    → length fs ≤ most k → length (made (head_of n kept) fs) ≤ 4096 → judge k (rendered (head_forms n kept ++ fs)) ≡ accepted (head_of n kept) (made (head_of n kept) fs)
unfolding judge judge_text judge_rest formed or_else head_rules keep_rules first head_forms
text_judged k n kept fs g w a b d e c p m l =
    rw (
      read_rendered (lines n ∷ (keep_forms kept ++ fs)) (omega arith, every_append Proper (keep_forms kept) fs p (all_proper k (head_of n kept) fs g)),
      le-leb 1 n a,
      le-leb n 32 b,
      rest_formed k (head_of n kept) kept fs g c,
      no_from n kept d,
      e,
      forms_judged k (head_of n kept) 0 [] fs g w (omega arith) (omega arith),
    )

-- ---- a circuit text

pub gate_proper : (n : ℕ) {g : Gate} → n ≤ 32 → Valid n g → Proper (gate g)
gate_proper n h (valid_not k) = omega arith
gate_proper n h (valid_powered a b c d e) = (omega arith, omega arith, a, b)

pub gates_proper : (n : ℕ) (r : List Gate) → n ≤ 32 → AllValid n r → AllProper (map gate r)
gates_proper n r h = every_map (Valid n) Proper gate (λ g. gate_proper n h) r

gate_good : (h : Head) {g : Gate} → h.lines ≤ 32 → Valid h.lines g → Good Circuit h (gate g)
unfolding belongs controls target any_from has rising
gate_good h b (valid_not {t} k) = record { proper = gate_proper h.lines b (valid_not k); belonging = refl; inside = rw (lt-leb h.lines t k); apart = refl; ordered = refl; spare = refl }
gate_good h b (valid_powered {p} {c} {t} x y z k e) =
    record { proper = gate_proper h.lines b (valid_powered {p = p} x y z k e); belonging = refl; inside = rw (lt-leb h.lines t k, lt-leb h.lines c z); apart = rw (ne_eqb t c (λ q. e (sym q))); ordered = refl; spare = refl }

gates_good : (h : Head) (r : List Gate) → h.lines ≤ 32 → AllValid h.lines r → AllGood Circuit h (map gate r)
gates_good h r b = every_map (Valid h.lines) (Good Circuit h) gate (λ g. gate_good h b) r

gates_narrow : (r : List Gate) → AllNarrow (map gate r)
unfolding controls
gates_narrow [] = tt
gates_narrow (Not t ∷ r) = (omega arith, gates_narrow r)
gates_narrow (Powered p c t ∷ r) = (omega arith, gates_narrow r)

gates_made : (h : Head) (r : List Gate) → made h (map gate r) ≡ r
unfolding made gates
gates_made h [] = refl
gates_made h (g ∷ r) = ap (λ (l : List Gate). g ∷ l) (gates_made h r)

pub judge_written : (n : ℕ) (r : List Gate) → AllValid n r → 1 ≤ n → n ≤ 32 → length r ≤ 4096 → judge Circuit (circuit_text n r) ≡ accepted (unkept n) r
unfolding circuit_text head_forms keep_forms most Below rising
judge_written n r f a b l =
    let h = unkept n in
    let e = gates_made h r in
    rw (head_unkept n, e) at (text_judged Circuit n [] (map gate r) (rw (head_unkept n) (gates_good h r b f)) (gates_narrow r) a b tt refl (λ q. refl) tt (omega (arith, l, length-map r gate)) (rw (head_unkept n) (omega (arith, l, ap length e))))

-- ---- a cascade text

mcts_made : (h : Head) (gs : List Controlled) → made h (as_forms gs) ≡ expand_all h.lines (kept_lines h) gs
unfolding made gates expand_all ◌⨾◌
mcts_made h [] = refl
mcts_made h (g ∷ gs) = ap (λ (l : List Gate). expansion± h.lines (kept_lines h) g.controls g.target ++ l) (mcts_made h gs)

-- with its kept lines
pub judge_cascade_written : (n : ℕ) (kept : List ℕ) (gs : List Controlled) → AllGood Cascade (head_of n kept) (as_forms gs) → AllNarrow (as_forms gs) → 1 ≤ n → n ≤ 32 → Below n kept → rising kept ≡ true
    → length gs ≤ 256 → length (expand_all n kept gs) ≤ 4096 → judge Cascade (cascade_text n kept gs) ≡ accepted (head_of n kept) (expand_all n kept gs)
unfolding cascade_text most
judge_cascade_written n kept gs g w a b d q m l =
    let e : made (head_of n kept) (as_forms gs) ≡ expand_all n kept gs = mcts_made (head_of n kept) gs ∙ (unfold head_of in ap (λ (k : List ℕ). expand_all n k gs) (kept_read n kept (below_more n 32 kept b d) q)) in
    text_judged Cascade n kept (as_forms gs) g w a b d q (λ z. absurd (cascade_circuit z)) (keep_proper n kept b d) (omega (arith, m, length-map gs (λ (x : Controlled). mct x.controls x.target))) (omega (arith, l, ap length e))
    ∙ ap (accepted (head_of n kept)) e
