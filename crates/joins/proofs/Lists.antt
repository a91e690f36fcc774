-- The list that join gives is the reduced list of the plain join, and has its matrix; join answers as reduce answers the text of the plain join.
-- Assumes nothing.
use Prim.Native.Nat.{ℕ, ◌+◌, ◌≤◌, ◌<◌}
use mathlib.Core.Path.{◌≡◌, sym, ap, ◌∙◌, subst}
use mathlib.Core.List.{List, [], ◌∷◌, ◌++◌}
use native.Mathlib.Decide.{dec_lt}
use native.Mathlib.Omega.{arith}
use lib.ListN.{length, length-append}
use Rattle.gates.specs.declared.Gate.{Gate}
use Rattle.gates.specs.Circuit.{done}
use Rattle.gates.specs.Reduced.{Reduced}
use Rattle.gates.proofs.Reach.{all_valid_append}
use Rattle.gates.proofs.ReducedLists.{reduced_all_valid, reduced_fewest}
use Rattle.meaning.proofs.Links.{same_matrix_sym, reduced_matrix}
use Rattle.text.specs.Heads.{unkept}
use Rattle.text.specs.declared.Head.{Head}
use Rattle.text.specs.declared.Kind.TheVariants as kind
use Rattle.text.specs.Text.{circuit_text}
use Rattle.text.specs.Judging.{judge, accepted}
use Rattle.text.proofs.Accepted.{accepted_circuit, judge_accepted, text_valid, circuit_head}
use Rattle.text.proofs.Written.{judge_written}
use Rattle.habits.specs.Habits.{Judgement, Circuit, Lent, Exit, refusal, success, Says}
use Rattle.habits.specs.Demands.{Accepts}
use Rattle.habits.proofs.Refused.{text_accepted}
use Rattle.jobs.specs.Jobs.{as_text, takes}
use Rattle.jobs.specs.Habits.{Right, Keeps}
use Rattle.inversion.proofs.Reducing.{written_accepts}
use Rattle.joins.specs.Join.{Join}
use Rattle.joins.specs.Demands.{Read, Joins, Ran, Lists, AnsweredAs}
use Rattle.joins.proofs.Demands.{joins_judged, read_joins, joins_short, joins_success, leaves}

module _ {n : ℕ} {c d r : List Gate} (a : Ran n c d r) where
  -- the text of the reduced list of a join shows this list
  shown : {k : List Gate} → Joins a.first a.list a.second (unkept n) c d k → judge kind.Circuit (circuit_text n k) ≡ accepted (unkept n) k
  shown {k} j =
      let v = judge_accepted kind.Circuit a.first j.read.first.judged in
      let w = judge_accepted kind.Circuit a.second j.read.second.judged in
      let f = reduced_all_valid n (all_valid_append n c d (text_valid v) (text_valid w)) j.reduced in
      judge_written n k f v.least v.largest (omega (arith, reduced_fewest n j.reduced done, length-append c d, a.few))

  is_reduced : Reduced n (c ++ d) r
  unfolding refusal success
  is_reduced = let z = read_joins a.first a.list a.second a.area a.exit a.says a.read a.few in go z.1 (dec_lt _ _)
    where
      go : {k : List Gate} → Joins a.first a.list a.second (unkept n) c d k → Dec (length a.area < length (circuit_text n k)) → Reduced n (c ++ d) r
      go j (yes h) = a.withheld (ap (λ (y : Exit). y.number) (joins_short a.first a.list a.second a.area a.exit a.says j h))
      go {k} j (no h) =
          let z = joins_success a.first a.list a.second a.area a.exit a.says j (omega (arith, h)) in
          let y = leaves z in
          let g = a.given (ap (λ (y : Exit). y.number) z) in
          let e : k ≡ r = accepted_circuit (sym (shown j) ∙ sym (ap (judge kind.Circuit) y.area_text) ∙ g) in
          subst (Reduced n (c ++ d)) e j.reduced

  pub join_lists : Lists a
  join_lists = record { reduced = is_reduced; matrix = same_matrix_sym n (c ++ d) r (reduced_matrix n is_reduced) }

-- ---- as reduce answers

-- the text of the plain join shows the plain join
joined_accepts : {s : List ℕ} {l : List Gate} {t : List ℕ} {g : Head} {c d : List Gate} → Read s l t g c g d → length c + length d ≤ 4096 → Accepts kind.Circuit (circuit_text g.lines (c ++ d)) (length l ∷ []) g (c ++ d)
joined_accepts {s} {l} {t} {g} {c} {d} b h =
    let v = judge_accepted kind.Circuit s b.first.judged in
    let w = judge_accepted kind.Circuit t b.second.judged in
    subst (λ (k : Head). Accepts kind.Circuit (circuit_text g.lines (c ++ d)) (length l ∷ []) k (c ++ d)) (sym (circuit_head v))
    (written_accepts (c ++ d) (all_valid_append g.lines c d (text_valid v) (text_valid w)) v.least v.largest (omega (arith, length-append c d, h)) b.first.sized)

pub join_reduces : {s : List ℕ} {l : List Gate} {t : List ℕ} {g : Head} {c d : List Gate} → Read s l t g c g d → length c + length d ≤ 4096 → AnsweredAs s l t g.lines c d
unfolding AnsweredAs Join Keeps takes
join_reduces {s} {l} {t} b h a x =
    let lent : Lent = record { lists = l ∷ []; area = a } in
    let p = joins_judged s l t b h in
    let q = text_accepted 1 (joined_accepts b h) in (
      λ e. subst (λ (v : Judgement Circuit). Says v (Right as_text) lent x) (p ∙ sym q) e,
      λ e. subst (λ (v : Judgement Circuit). Says v (Right as_text) lent x) (q ∙ sym p) e,
    )
