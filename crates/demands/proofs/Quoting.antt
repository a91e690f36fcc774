-- Quote and list in one call: what is asked of map follows from what it says. Assumes nothing.
use Prim.Native.Nat.{ℕ, suc, ◌+◌, ◌≤◌}
use mathlib.Core.Path.{◌≡◌, refl, sym, ap, ◌∙◌}
use mathlib.Core.List.{List, [], ◌∷◌, map}
use native.Mathlib.Omega.{arith}
use lib.ListN.{length, take, length-map}
use Rattle.gates.specs.declared.Gate.{Gate}
use Rattle.text.specs.declared.Head.{Head}
use Rattle.text.specs.Text.{Form, lines, gate, rendered, circuit_text}
use Rattle.text.specs.Reading.{cut}
use Rattle.text.specs.Judging.{judge}
use Rattle.text.proofs.Printed.{cut_render}
use Rattle.habits.specs.Demands.{overlong, short_list, failing_line}
use Rattle.jobs.specs.Jobs.{Job, mapping, takes, as_count, wanted, Entry, Exit, Says}
use Rattle.demands.specs.Demands.{Yields, Due, refused, short_answer, no_refusal, Demand1}
use Rattle.demands.specs.Quoting.{Quotes, QuoteOnly, SameGates, LineForEach}
use Rattle.jobs.proofs.One.{accepted_one}
use Rattle.demands.proofs.Demands.{count_wanted}
use Rattle.demands.proofs.Numbers.{text_count, demand_1}

-- ---- the text written

-- a circuit text has line 1, and a line for each gate
forms_cut : (fs : List Form) → length (cut (rendered fs)) ≡ length fs
unfolding rendered cut
forms_cut [] = refl
forms_cut (f ∷ fs) = ap length (cut_render f (rendered fs)) ∙ ap suc (forms_cut fs)

text_cut : (n : ℕ) (r : List Gate) → length (cut (circuit_text n r)) ≡ length r + 1
unfolding circuit_text
text_cut n r = forms_cut (lines n ∷ map gate r) ∙ omega (arith, length-map r gate)

pub line_for_each : (j : Job) (e : Entry) (x : Exit) → Says j e x → LineForEach j e x
unfolding LineForEach
line_for_each j e x s i z = let (h, r, y, l) = (demand_1 j e x s).success_leaves z in
    ap (λ (t : List ℕ). length (cut t)) (l.area_text i) ∙ text_cut h.lines r ∙ ap (λ (n : ℕ). n + 1) (sym l.gates_counted)

-- ---- the list of a text

-- what rules 1 to 9 let pass has one reduced list, whatever is lent
yields_one : {j : Job} {e f : Entry} {g h : Head} {r s : List Gate} → e.text ≡ f.text → Yields j e g r → Yields j f h s → r ≡ s
yields_one {j} q y z = accepted_one (sym y.accepts.judged ∙ ap (judge (takes j)) q ∙ z.accepts.judged) y.reduced z.reduced

pub same_gates : (j : Job) (e f : Entry) (x y : Exit) → Says j e x → Says j f y → SameGates e f x y
unfolding SameGates
same_gates j e f x y s t q z w =
    let (g, p, k, l) = (demand_1 j e x s).success_leaves z in
    let (h, o, m, n) = (demand_1 j f y t).success_leaves w in
    l.gates_counted ∙ ap length (yields_one q k m) ∙ sym n.gates_counted

-- ---- with an answer area of length 0

-- the table then has no 10
due_few : {e : Entry} {n l : ℕ} → wanted mapping e ≡ as_count → Due mapping e n l → n ≤ 9
due_few i (refused (overlong h)) = omega arith
due_few i (refused (short_list h k)) = omega arith
due_few i (refused (failing_line r l z q a b c)) = b
due_few i (short_answer h r y k l) = absurd (text_count (sym k ∙ i))
due_few i (no_refusal h r y f) = omega arith

pub nothing : (l : List ℕ) → length l ≡ 0 → l ≡ []
nothing [] z = refl
nothing (b ∷ l) z = absurd (omega (arith, z))

pub quote_only : (e : Entry) (x : Exit) → Says mapping e x → length e.area ≡ 0 → QuoteOnly e x
quote_only e x s z = record {
  quoted = quoted;
  passed = λ n. let (h, r, y, l) = d.success_leaves n in (h, r, y);
  never_short = λ n. omega (arith, n, due_few counts ((d.by_table x.number x.line).0 (refl, refl)));
  untouched = nothing x.area (d.lengths.1 ∙ z) ∙ sym (nothing e.area z);
}
  where
    d : Demand1 mapping e x
    d = demand_1 mapping e x s

    counts : wanted mapping e ≡ as_count
    counts = count_wanted (length e.area) z

    quoted : (h : Head) (r : List Gate) → Yields mapping e h r → Quotes x r
    quoted h r y =
        let n = (d.by_table 0 0).1 (no_refusal h r y (λ k. absurd (text_count (sym k ∙ counts)))) in
        let (g, t, w, l) = d.success_leaves n.0 in
        let i : t ≡ r = yields_one refl w y in
        record { number = n.0; line = n.1; gates = l.gates_counted ∙ ap length i; bytes = l.none_written counts; list = ap (λ (m : ℕ). take m x.list) l.gates_counted ∙ l.list_first ∙ i }
