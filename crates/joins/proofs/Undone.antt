-- A circuit joined with its inverse, either way round, gives no gates. Assumes nothing.
use Prim.Native.Nat.{ℕ, ◌-◌, ◌≤◌}
use mathlib.Core.Path.{◌≡◌, refl, sym, ap, ◌∙◌}
use mathlib.Core.List.{List, [], ◌∷◌, ◌++◌}
use native.Mathlib.Omega.{arith}
use lib.ListN.{length, take, replicate}
use Rattle.gates.specs.declared.Gate.{Gate}
use Rattle.gates.specs.declared.Gate.TheVariants.{Not}
use Rattle.gates.specs.Circuit.{AllValid, Linked}
use Rattle.gates.specs.Inverse.{inverse}
use Rattle.gates.proofs.Chains.{linked_trans, linked_sym, linked_before, linked_after}
use Rattle.gates.proofs.Inverses.{linked_undone, linked_redone}
use Rattle.gates.proofs.ReducedLists.{reduced_fewest}
use Rattle.text.specs.Heads.{unkept}
use Rattle.text.specs.declared.Head.{Head}
use Rattle.text.specs.declared.Kind.TheVariants as kind
use Rattle.text.specs.Judging.{accepted, judge}
use Rattle.text.proofs.Accepted.{accepted_head, accepted_circuit, judge_accepted, text_valid}
use Rattle.habits.specs.Habits.{Exit}
use Rattle.inversion.proofs.Twice.{inverse_shown}
use Rattle.joins.specs.Join.{Join}
use Rattle.joins.specs.Demands.{Joins, SuccessLeaves, NoGates, Cancels, Undone}
use Rattle.joins.proofs.Demands.{join_demand}

-- ---- success with no gates

empty : (r : List Gate) → length r ≤ 0 → r ≡ []
empty [] h = refl
empty (g ∷ r) h = absurd (omega (arith, h))

-- what success with the empty list leaves
leaves_none : {l : List Gate} {a : List ℕ} {n : ℕ} {x : Exit} → SuccessLeaves l a n [] x → NoGates n l x
leaves_none {l} w =
    let e : length l - 0 ≡ length l = omega arith in
    record { text = w.area_text; list = w.lists ∙ ap (λ (k : List Gate). k ∷ []) (w.list_later ∙ ap (λ (i : ℕ). replicate i (Not 0)) e) }

-- two texts whose plain join is linked to no gates
no_gates : {n : ℕ} {c d : List Gate} (s : List ℕ) (l : List Gate) (t a : List ℕ) (x : Exit) → judge kind.Circuit s ≡ accepted (unkept n) c → judge kind.Circuit t ≡ accepted (unkept n) d
    → Linked n (c ++ d) [] → Join s l t a x → x.number ≡ 0 → NoGates n l x
no_gates {n} {c} {d} s l t a x p q k says e = let (g, u, v, r, j, w) = (join_demand s l t a x says).success_leaves e in go j w
  where
    go : {g : Head} {u v r : List Gate} → Joins s l t g u v r → SuccessLeaves l a g.lines r x → NoGates n l x
    go {g} {u} {v} {r} j w =
        let i : g ≡ unkept n = accepted_head (sym j.read.first.judged ∙ p) in
        let m : g.lines ≡ n = ap (λ (h : Head). h.lines) i in
        let y : u ≡ c = accepted_circuit (sym j.read.first.judged ∙ p) in
        let z : v ≡ d = accepted_circuit (sym j.read.second.judged ∙ q) in
        let b : r ≡ [] = empty r (reduced_fewest n (rw (m, y, z) at j.reduced) k) in
        leaves_none (rw (m, b) at w)

-- ---- a circuit and one that is linked to its inverse

module _ {n : ℕ} (c : List Gate) {d : List Gate} (f : AllValid n c) (k : Linked n (inverse c) d) where
  after_none : Linked n (c ++ d) []
  after_none = linked_trans (linked_before c f (linked_sym k)) (linked_undone c f)

  before_none : Linked n (d ++ c) []
  before_none = linked_trans (linked_after c f (linked_sym k)) (linked_redone c f)

pub undone_linked : {n : ℕ} {c d : List Gate} (s t : List ℕ) → judge kind.Circuit s ≡ accepted (unkept n) c → judge kind.Circuit t ≡ accepted (unkept n) d → Linked n (inverse c) d → Cancels n s t
undone_linked {c = c} s t p q k =
    let f = text_valid (judge_accepted kind.Circuit s p) in
    record { after = λ l a x. no_gates s l t a x p q (after_none c f k); before = λ l a x. no_gates t l s a x q p (before_none c f k) }

pub undone : Undone
undone = record {
  linked = undone_linked;
  answered = λ e y s z. let i = inverse_shown e y s z in (unkept i.lines, i.circuit, i.judged, undone_linked e.text (take y.bytes y.area) i.judged i.answer i.linked);
}
