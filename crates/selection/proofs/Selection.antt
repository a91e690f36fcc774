-- The selection from a shortest circuit is its reduced list, reached by passes alone. Assumes nothing.
use mathlib.Core.Path.{◌∙◌}
use mathlib.Core.List.{List, ◌∷◌, ◌++◌}
use Prim.Native.Nat.{ℕ}
use Rattle.gates.specs.declared.Gate.{Gate}
use Rattle.gates.specs.Reduced.{Reduced}
use Rattle.gates.specs.Sites.{Less, Front, there}
use Rattle.gates.proofs.Pushing.{Normal, normal_nil, normal_cons}
use Rattle.gates.proofs.Sites.{Order, before, level, after, order}
use Rattle.gates.proofs.Chains.{reaches_linked, linked_all_valid}
use Rattle.gates.proofs.Theorem.{linked_nf}
use Rattle.gates.proofs.ReducedLists.{reduced_is_nf}
use Rattle.partners.specs.Shortest.{Shortest}
use Rattle.partners.proofs.Shortest.{shortest_tail}
use Rattle.partners.proofs.Passing.{Passing, none, passing_reaches}
use Rattle.selection.specs.Selection.{Selects, nothing, select}
use Rattle.selection.proofs.Fronts.{passing_trans, passing_cons, slide, passing_shortest, front_back, no_twin, nf_normal}

-- by passes alone
pub selects_passing : {c r : List Gate} → Selects c r → Passing c r
selects_passing nothing = none
selects_passing (select u g v f m t) = passing_trans (slide u v f) (passing_cons g (selects_passing t))

-- behind the gate taken, all that could come forward to it is later than it
pub selects_normal : {n : ℕ} {c r : List Gate} → Shortest n c → Selects c r → Normal r
selects_normal w nothing = normal_nil
selects_normal {n} w (select u g v {r} f m t) =
    let k = passing_shortest w (slide u v f) in
    normal_cons (selects_normal (shortest_tail n k) t) (λ s x p. (let y : Front s (u ++ v) = front_back (selects_passing t) x in go k s y (front_back (slide u v f) (there p y)) (order g s)))
  where
    go : Shortest n (g ∷ u ++ v) → (s : Gate) → Front s (u ++ v) → Front s (u ++ g ∷ v) → Order g s → Less g s
    go k s y z (before l) = l
    go k s y z (level e) = absurd (no_twin k y e)
    go k s y z (after l) = absurd (m s z l)

-- so it is the reduced list
pub selects_reduced : {n : ℕ} {c r : List Gate} → Shortest n c → Selects c r → Reduced n c r
selects_reduced {n} {c} {r} w t =
    let l = reaches_linked (passing_reaches w.valid (selects_passing t)) in
    (reduced_is_nf n c r w.valid).1 (linked_nf n l ∙ nf_normal n r (linked_all_valid l w.valid) (selects_normal w t))
