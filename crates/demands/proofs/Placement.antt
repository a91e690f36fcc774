-- The quote that map gives for a cascade of one gate goes by the number and the signs of its controls and by how many lines it leaves unnamed and
-- unkept, and not by which lines they are. Assumes nothing.
use mathlib.Core.Path.{◌≡◌, sym, ap, ◌∙◌, subst}
use mathlib.Core.List.{List, [], ◌∷◌, ◌++◌}
use Prim.Native.Nat.{ℕ}
use native.Mathlib.Omega.{arith}
use lib.ListN.{length, length-map}
use Rattle.gates.specs.declared.Gate.{Gate}
use Rattle.gates.specs.Reduced.{Reduced}
use Rattle.cascades.specs.Cascade.{Controlled, expand_all, AllExpandable}
use Rattle.cascades.proofs.Halves.{on_lines}
use Rattle.cascades.proofs.SignLines.{length_control_lines}
use Rattle.cascades.proofs.Placement.{spares_left, signs, spares_of, placement}
use Rattle.text.specs.declared.Kind.TheVariants.{Cascade}
use Rattle.text.specs.declared.Head.{Head}
use Rattle.text.specs.Text.{as_forms, head_forms, cascade_text, AllProper}
use Rattle.text.specs.Heads.{kept_lines}
use Rattle.text.proofs.Accepted.{Text, cascade_of, cascade_proper}
use Rattle.text.proofs.Unambiguous.{cascade_text_is}
use Rattle.jobs.specs.Jobs.{mapping, takes}
use Rattle.demands.specs.Demands.{Ran}
use Rattle.demands.proofs.Demands.{ran_text, ran_reduced, demand_2}

-- a run of map whose text shows the cascade of the gate g alone, with these kept lines; its numbers have one or two digits
pub record OneGate {n : ℕ} {c r : List Gate} (a : Ran n c r) (kept : List ℕ) (g : Controlled) : Type 0 where
  pub maps : a.job ≡ mapping
  pub proper : AllProper (head_forms n kept ++ as_forms (g ∷ []))
  pub shown : a.entry.text ≡ cascade_text n kept (g ∷ [])
  pub quoted : a.exit.number ≡ 0

record Expanded (n : ℕ) (kept : List ℕ) (g : Controlled) (c : List Gate) : Type 0 where
  ready : AllExpandable n kept (g ∷ [])
  whole : c ≡ expand_all n kept (g ∷ [])

expanded : {h : Head} {s : List ℕ} {c : List Gate} (n : ℕ) (kept : List ℕ) (g : Controlled) → Text Cascade h s c → h.lines ≡ n → AllProper (head_forms n kept ++ as_forms (g ∷ [])) → s ≡ cascade_text n kept (g ∷ []) → Expanded n kept g c
expanded {h} {s} {c} n kept g t q p e =
    let k = cascade_of t in
    let same = cascade_text_is h.lines n (kept_lines h) kept k.mcts (g ∷ []) (cascade_proper t) p (sym k.written ∙ e) in
    go h.lines (kept_lines h) k.mcts q same.1 same.2 k.ready k.expanded
  where
    go : (m : ℕ) (l : List ℕ) (gs : List Controlled) → m ≡ n → l ≡ kept → gs ≡ g ∷ [] → AllExpandable m l gs → c ≡ expand_all m l gs → Expanded n kept g c
    go m l gs a b d x y = record { ready = rw (a, b, d) at x; whole = rw (a, b, d) at y }

run_expanded : {n : ℕ} {c r : List Gate} (a : Ran n c r) (kept : List ℕ) (g : Controlled) → OneGate a kept g → Expanded n kept g c
unfolding takes
run_expanded {n} {c} a kept g w = expanded n kept g (subst (λ j. Text (takes j) a.head a.entry.text c) w.maps (ran_text a)) a.lines w.proper w.shown

-- the quotes of two gates, each a cascade by itself, with as many controls, the same signs and as many unnamed, unkept lines; the numbers of lines and
-- the kept ones may differ
pub quote_placement : {n m : ℕ} {c d r s : List Gate} (a : Ran n c r) (b : Ran m d s) (kept others : List ℕ) (g h : Controlled) → OneGate a kept g → OneGate b others h
    → signs g.controls ≡ signs h.controls → length (spares_of n kept g) ≡ length (spares_of m others h) → a.exit.gates ≡ b.exit.gates
quote_placement {n} {m} {c} {d} {r} {s} a b kept others g h w v e f =
    let x = run_expanded a kept g w in
    let y = run_expanded b others h v in
    (demand_2 a).counted w.quoted
    ∙ placement n m kept others g h x.ready y.ready e f (subst (λ (l : List Gate). Reduced n l r) x.whole (ran_reduced a)) (subst (λ (l : List Gate). Reduced m l s) y.whole (ran_reduced b))
    ∙ sym ((demand_2 b).counted v.quoted)

-- so where nothing is kept on as many lines, with as many controls and the same signs
pub unkept_placement : {n : ℕ} {c d r s : List Gate} (a : Ran n c r) (b : Ran n d s) (g h : Controlled) → OneGate a [] g → OneGate b [] h → signs g.controls ≡ signs h.controls → a.exit.gates ≡ b.exit.gates
unfolding AllExpandable
unkept_placement {n} a b g h w v e =
    let x = (run_expanded a [] g w).ready.0 in
    let y = (run_expanded b [] h v).ready.0 in
    let p = spares_left n (on_lines n x.0 x.1) in
    let q = spares_left n (on_lines n y.0 y.1) in
    let k = ap length e in
    quote_placement a b [] [] g h w v e (omega (arith, p, q, k, length-map g.controls (λ c. c.negated), length-map h.controls (λ c. c.negated), length_control_lines g.controls, length_control_lines h.controls))
