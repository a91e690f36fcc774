-- Invert answers a text as reduce answers the text of the inverse circuit. Assumes nothing.
use Prim.Native.Nat.{ℕ, ◌≤◌}
use mathlib.Core.Path.{◌≡◌, sym, subst}
use mathlib.Core.Logic.{◌↔◌}
use mathlib.Core.List.{List, [], ◌∷◌}
use native.Mathlib.Omega.{arith}
use lib.ListN.{length}
use Rattle.gates.specs.declared.Gate.{Gate}
use Rattle.gates.specs.Circuit.{AllValid}
use Rattle.gates.specs.Inverse.{inverse}
use Rattle.gates.proofs.Inverses.{all_valid_inverse, length_inverse}
use Rattle.text.specs.declared.Head.{Head}
use Rattle.text.specs.declared.Refusal.{Refusal}
use Rattle.text.specs.declared.Kind.TheVariants.{Circuit}
use Rattle.text.specs.Heads.{unkept}
use Rattle.text.specs.Text.{circuit_text}
use Rattle.text.specs.Judging.{Judged, turned_away}
use Rattle.text.proofs.Accepted.{judge_accepted, text_valid, circuit_head}
use Rattle.text.proofs.Longest.{text_length}
use Rattle.text.proofs.Written.{judge_written}
use Rattle.habits.specs.Demands.{Sized, Accepts}
use Rattle.jobs.specs.Jobs.{reducing, takes, Entry, Exit, refusal, judged, written, answered, Settled, Says}
use Rattle.jobs.proofs.Habits.{accepts_judged}
use Rattle.inversion.specs.Invert.{inverse_judged, Invert}

-- the same list and area with the text of the inverse of the circuit c on n lines
abbrev pub inverse_entry : Entry → ℕ → List Gate → Entry
inverse_entry e n c = record { text = circuit_text n (inverse c); list = e.list; area = e.area }

-- the text of a circuit shows it, beside any lists that rule 2 lets pass
pub written_accepts : {s rooms : List ℕ} {n : ℕ} (c : List Gate) → AllValid n c → 1 ≤ n → n ≤ 32 → length c ≤ 4096 → Sized s rooms → Accepts Circuit (circuit_text n c) rooms (unkept n) c
written_accepts {n = n} c f a b few z = record {
  sized = record { small = omega (arith, text_length n c); room = z.room };
  judged = judge_written n c f a b few;
}

-- the text of the inverse shows the inverse
pub inverse_accepts : {s rooms : List ℕ} {h : Head} {c : List Gate} → Accepts Circuit s rooms h c → Accepts Circuit (circuit_text h.lines (inverse c)) rooms h (inverse c)
inverse_accepts {s} {rooms} {h} {c} a =
    let t = judge_accepted Circuit s a.judged in
    subst (λ (g : Head). Accepts Circuit (circuit_text h.lines (inverse c)) rooms g (inverse c)) (sym (circuit_head t))
    (written_accepts (inverse c) (all_valid_inverse h.lines c (text_valid t)) t.least t.largest (omega (arith, length_inverse c, t.short)) a.sized)

-- what rules 1 to 9 let pass
pub inverts_as : (e : Entry) (x : Exit) {h : Head} {c : List Gate} → Accepts Circuit e.text (length e.list ∷ []) h c → Invert e x ↔ Says reducing (inverse_entry e h.lines c) x
unfolding Invert Says Settled judged inverse_judged answered written refusal takes
inverts_as e x {h} {c} a =
    let e' = inverse_entry e h.lines c in
    let q = accepts_judged Circuit e.text (length e.list) a in
    let q' = accepts_judged Circuit e'.text (length e.list) (inverse_accepts a) in (
      λ s. subst (λ (d : Judged). Settled reducing e' d x) (sym q') (subst (λ (d : Judged). Settled reducing e (inverse_judged d) x) q s),
      λ s. subst (λ (d : Judged). Settled reducing e (inverse_judged d) x) (sym q) (subst (λ (d : Judged). Settled reducing e' d x) q' s),
    )

-- what they turn away
pub refuses_as : (e : Entry) (x : Exit) {r : Refusal} {l : ℕ} → judged Circuit e ≡ turned_away r l → Invert e x ↔ Says reducing e x
unfolding Invert Says Settled inverse_judged takes
refuses_as e x q = (
  λ s. subst (λ (d : Judged). Settled reducing e d x) (sym q) (subst (λ (d : Judged). Settled reducing e (inverse_judged d) x) q s),
  λ s. subst (λ (d : Judged). Settled reducing e (inverse_judged d) x) (sym q) (subst (λ (d : Judged). Settled reducing e d x) q s),
)
