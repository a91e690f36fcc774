-- What is accepted does not depend on the lists lent, is linked, and composes; and some slip leads to the reduced list. Assumes nothing.
use Prim.Native.Nat.{ℕ, ◌+◌, ◌≤◌}
use mathlib.Core.Path.{◌≡◌, sym, ap, ◌∙◌}
use mathlib.Core.List.{List, [], ◌∷◌, ◌++◌}
use native.Mathlib.Omega.{arith}
use lib.ListN.{length, replicate, length-replicate}
use Rattle.gates.specs.declared.Gate.{Gate}
use Rattle.gates.specs.declared.Gate.TheVariants.{Not}
use Rattle.gates.specs.Circuit.{AllValid}
use Rattle.gates.specs.Reduced.{Reduced}
use Rattle.text.specs.declared.Head.{Head}
use Rattle.text.specs.declared.Kind.TheVariants as kind
use Rattle.text.specs.Judging.{accepted}
use Rattle.text.proofs.Accepted.{judge_accepted, text_valid}
use Rattle.stepping.specs.Slip.{SlipStep, ends_at, run}
use Rattle.stepping.proofs.Slips.{accepted_linked, reduced_slip, slips_compose}
use Rattle.sliptext.specs.Demands.{AcceptsSlip}
use Rattle.sliptext.proofs.Slips.{accepts_slip_exactly_if, accepts_both}
use Rattle.habits.specs.Habits.{Exit}
use Rattle.habits.specs.Demands.{Accepts}
use Rattle.habits.proofs.Yields.{fine_is}
use Rattle.slips.specs.Slip.{Slip}
use Rattle.slips.specs.Demands.{Accepted, no_refusal, Leads, Slips}
use Rattle.slips.proofs.One.{slip_one}
use Rattle.slips.proofs.Demands.{slip_demand}

-- ---- apart from the lists

-- the slip t from the text s to the text u, by what the three show
record Way (s t u : List ℕ) : Type 0 where
  head_1 : Head
  circuit_1 : List Gate
  steps : List SlipStep
  head_2 : Head
  circuit_2 : List Gate
  first : Accepts kind.Circuit s [] head_1 circuit_1
  slip : AcceptsSlip t steps
  second : Accepts kind.Circuit u [] head_2 circuit_2
  lines : head_1.lines ≡ head_2.lines
  ends : run steps circuit_1 ≡ ends_at circuit_2

without_list : {s rooms : List ℕ} {h : Head} {c : List Gate} → Accepts kind.Circuit s rooms h c → Accepts kind.Circuit s [] h c
without_list a = record { sized = record { small = a.sized.small; room = tt }; judged = a.judged }

with_list : {s rooms : List ℕ} {h : Head} {c : List Gate} {n : ℕ} → 4096 ≤ n → Accepts kind.Circuit s rooms h c → Accepts kind.Circuit s (n ∷ []) h c
with_list k a = record { sized = record { small = a.sized.small; room = (k, tt) }; judged = a.judged }

accepted_way : {s : List ℕ} {l : List Gate} {t u : List ℕ} {m : List Gate} {g : Head} {c : List Gate} {ss : List SlipStep} {h : Head} {d : List Gate} → Accepted s l t u m g c ss h d → Way s t u
accepted_way {g = g} {c = c} {ss = ss} {h = h} {d = d} a = record { head_1 = g; circuit_1 = c; steps = ss; head_2 = h; circuit_2 = d; first = without_list a.read.first; slip = a.read.slip; second = without_list a.read.second; lines = a.lines; ends = a.ends }

-- it leads, whatever lists are lent
way_leads : (s t u : List ℕ) → Way s t u → Leads s t u
unfolding Leads
way_leads s t u w l m x i j says =
    (((slip_demand s l t u m x says).by_table 0 0 0).1 (no_refusal (record { read = record { first = with_list i w.first; slip = w.slip; second = with_list j w.second }; lines = w.lines; ends = w.ends }))).0

-- what was accepted once is accepted always
any_lists : (s t u : List ℕ) (l m : List Gate) (x : Exit) → Slip s l t u m x → x.number ≡ 0 → Leads s t u
any_lists s t u l m x says e = way_leads s t u (accepted_way ((slip_demand s l t u m x says).success_leaves e).5)

leads_way : (s t u : List ℕ) → Leads s t u → Way s t u
unfolding Leads
leads_way s t u k =
    let l = replicate 4096 (Not 0) in
    let n : 4096 ≤ length l = omega (arith, length-replicate 4096 (Not 0)) in
    let (x, says, _) = slip_one s l t u l in
    accepted_way ((slip_demand s l t u l x says).success_leaves (k l l x n n says)).5

-- ---- what is accepted

circuit_valid : {s rooms : List ℕ} {h : Head} {c : List Gate} → Accepts kind.Circuit s rooms h c → AllValid h.lines c
circuit_valid {s} a = text_valid (judge_accepted kind.Circuit s a.judged)

-- a slip has one list of steps
one_slip : {t : List ℕ} {ss ts : List SlipStep} → AcceptsSlip t ss → AcceptsSlip t ts → ss ≡ ts
one_slip {t} {ss} {ts} a b = fine_is (sym ((accepts_slip_exactly_if 2 t ss).0 a) ∙ (accepts_slip_exactly_if 2 t ts).0 b)

-- a text has one circuit
accepted_is : {g h : Head} {c d : List Gate} → accepted g c ≡ accepted h d → (g ≡ h) × (c ≡ d)
accepted_is e = (cc, cc)

compose : (s t u t' w : List ℕ) {ss ss' : List SlipStep} → Leads s t u → Leads u t' w → AcceptsSlip t ss → AcceptsSlip t' ss' → length ss + length ss' ≤ 4096 → Leads s (t ++ t') w
compose s t u t' w {ss} {ss'} k j a b h = way_leads s (t ++ t') w (go (leads_way s t u k) (leads_way u t' w j))
  where
    go : Way s t u → Way u t' w → Way s (t ++ t') w
    go p q =
        let e = accepted_is (sym p.second.judged ∙ q.first.judged) in
        record {
          head_1 = p.head_1;
          circuit_1 = p.circuit_1;
          steps = ss ++ ss';
          head_2 = q.head_2;
          circuit_2 = q.circuit_2;
          first = p.first;
          slip = accepts_both a b h;
          second = q.second;
          lines = p.lines ∙ ap (λ (g : Head). g.lines) e.0 ∙ q.lines;
          ends = slips_compose ss ss' p.circuit_1 p.circuit_2 q.circuit_2 (rw (one_slip a p.slip) p.ends) (rw (one_slip b q.slip, e.1) q.ends);
        }

reduced : {s u rooms rooms' : List ℕ} {g h : Head} {c r : List Gate} → Accepts kind.Circuit s rooms g c → Accepts kind.Circuit u rooms' h r → g.lines ≡ h.lines → Reduced g.lines c r
    → (ss : List SlipStep) × (run ss c ≡ ends_at r) × ((t : List ℕ) → AcceptsSlip t ss → Leads s t u)
reduced {s} {u} {g = g} {h = h} {c = c} {r = r} a b e k =
    let (ss, z) = reduced_slip g.lines c r (circuit_valid a) k in
    (ss, z, λ t i. way_leads s t u (record { head_1 = g; circuit_1 = c; steps = ss; head_2 = h; circuit_2 = r; first = without_list a; slip = i; second = without_list b; lines = e; ends = z }))

pub slips : Slips
slips = record {
  any_lists = any_lists;
  linked = λ {g = g} {c = c} {d = d} {ss = ss} a. accepted_linked g.lines ss c d (circuit_valid a.read.first) a.ends;
  compose = compose;
  reduced = reduced;
}
