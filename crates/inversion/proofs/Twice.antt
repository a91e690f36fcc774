-- The inverse of the inverse is the circuit's reduced list: invert answers the inverse's text as reduce answers the circuit's. Assumes nothing.
use Prim.Native.Nat.{ℕ, ◌≤◌}
use mathlib.Core.Path.{◌≡◌, sym, ap, ◌∙◌, subst, refl}
use mathlib.Core.Logic.{◌↔◌}
use mathlib.Core.List.{List, [], ◌∷◌}
use native.Mathlib.Omega.{arith}
use lib.ListN.{length, take}
use Rattle.gates.specs.declared.Gate.{Gate}
use Rattle.gates.specs.Circuit.{Linked, done}
use Rattle.gates.specs.Inverse.{inverse}
use Rattle.gates.proofs.Chains.{linked_sym}
use Rattle.gates.proofs.Inverses.{all_valid_inverse, length_inverse, inverse_inverse, linked_inverse}
use Rattle.gates.proofs.ReducedLists.{reduced_linked, reduced_all_valid, reduced_fewest}
use Rattle.text.specs.Heads.{unkept}
use Rattle.text.specs.declared.Head.{Head}
use Rattle.text.specs.declared.Refusal.TheVariants.{ShortList}
use Rattle.text.specs.declared.Kind.TheVariants.{Circuit}
use Rattle.text.specs.Text.{circuit_text}
use Rattle.text.specs.Judging.{Judged, Found, turned_away, accepted, or_else, judge}
use Rattle.text.proofs.Accepted.{judge_accepted, text_valid, circuit_of, circuit_head}
use Rattle.text.proofs.Longest.{text_length}
use Rattle.text.proofs.Written.{judge_written}
use Rattle.habits.proofs.Rules.{Roomy, Sizes, too_long, too_few, passing, sizes}
use Rattle.jobs.specs.Jobs.{reducing, takes, Entry, Exit, refusal, judged, judged_text, written, answered, Settled, Says}
use Rattle.jobs.proofs.Habits.{judged_sized}
use Rattle.inversion.specs.Invert.{inverse_judged, Invert}
use Rattle.inversion.specs.Demands.{AnsweredAs, Twice}
use Rattle.inversion.proofs.Demands.{invert_demand}

-- ---- two texts of which one shows a circuit linked to the inverse of the other's

-- a text that shows a circuit is not too long
pub shown_small : (s : List ℕ) {h : Head} {c : List Gate} → judge Circuit s ≡ accepted h c → length s ≤ 60000
shown_small s {h} {c} q =
    let t = judge_accepted Circuit s q in
    let e : length s ≡ length (circuit_text h.lines c) = ap length (circuit_of t) in
    omega (arith, e, text_length h.lines c, t.short)

-- a short list refuses every such text
judged_short : (s : List ℕ) (records : ℕ) → length s ≤ 60000 → (Roomy (records ∷ []) → ⊥) → judged_text Circuit s records ≡ turned_away ShortList 0
unfolding judged_text or_else
judged_short s records h k = go (sizes s (records ∷ []))
  where
    go : {f : Found} → Sizes s (records ∷ []) f → or_else f 0 (judge Circuit s) ≡ turned_away ShortList 0
    go (too_long l) = absurd (omega arith)
    go (too_few l i) = refl
    go (passing z) = absurd (k z.room)

module _ {n : ℕ} {c d : List Gate} (s t : List ℕ) (p : judge Circuit s ≡ accepted (unkept n) c) (q : judge Circuit t ≡ accepted (unkept n) d) (w : Linked n (inverse c) d) where
  -- the inverse of the one circuit is linked to the other
  back : Linked n (inverse d) c
  back = let v = text_valid (judge_accepted Circuit s p) in linked_sym (rw (inverse_inverse n c v) at (linked_inverse w))

  module _ (l : List Gate) (a : List ℕ) (x : Exit) where
    abbrev of_s : Entry
    of_s = record { text = s; list = l; area = a }

    abbrev of_t : Entry
    of_t = record { text = t; list = l; area = a }

    -- the two are judged so, and so settled
    settled : {u v : Judged} → judged_text Circuit t (length l) ≡ u → judged_text Circuit s (length l) ≡ v → Settled reducing of_t (inverse_judged u) x ↔ Settled reducing of_s v x → Invert of_t x ↔ Says reducing of_s x
    unfolding Invert Says judged takes
    settled e f r = (
      λ i. subst (λ (j : Judged). Settled reducing of_s j x) (sym f) (r.0 (subst (λ (j : Judged). Settled reducing of_t (inverse_judged j) x) e i)),
      λ i. subst (λ (j : Judged). Settled reducing of_t (inverse_judged j) x) (sym e) (r.1 (subst (λ (j : Judged). Settled reducing of_s j x) f i)),
    )

    same : {f : Found} → Sizes s (length l ∷ []) f → Invert of_t x ↔ Says reducing of_s x
    unfolding Settled inverse_judged answered written refusal
    same (too_long h) = absurd (omega (arith, h, shown_small s p))
    same (too_few h k) = settled (judged_short t (length l) (shown_small t q) k) (judged_short s (length l) h k) (λ i. i, λ i. i)
    same (passing z) =
        settled (judged_sized Circuit t (length l) (record { small = shown_small t q; room = z.room }) ∙ q) (judged_sized Circuit s (length l) z ∙ p)
        (λ i. (i.0, reduced_linked n back i.1, i.2), λ i. (i.0, reduced_linked n (linked_sym back) i.1, i.2))

  answered_as : AnsweredAs s t
  unfolding AnsweredAs
  answered_as l a x = same l a x (sizes s (length l ∷ []))

-- ---- the text that invert answers

-- a text that was inverted: its circuit, and the list of the answer text
pub record Inverse (e : Entry) (y : Exit) : Type 0 where
  pub lines : ℕ
  pub circuit : List Gate
  pub list : List Gate
  pub judged : judge Circuit e.text ≡ accepted (unkept lines) circuit
  pub answer : judge Circuit (take y.bytes y.area) ≡ accepted (unkept lines) list
  pub linked : Linked lines (inverse circuit) list

pub inverse_shown : (e : Entry) (y : Exit) → Invert e y → y.number ≡ 0 → Inverse e y
inverse_shown e y s z =
    let (h, c, r, i, w) = (invert_demand e y s).success_leaves z in
    let n = h.lines in
    let t = judge_accepted Circuit e.text i.accepts.judged in
    let short : length r ≤ 4096 = omega (arith, reduced_fewest n i.reduced done, length_inverse c, t.short) in
    record {
      lines = n;
      circuit = c;
      list = r;
      judged = subst (λ (g : Head). judge Circuit e.text ≡ accepted g c) (circuit_head t) i.accepts.judged;
      answer = ap (judge Circuit) (w.area_text refl) ∙ judge_written n r (reduced_all_valid n (all_valid_inverse n c (text_valid t)) i.reduced) t.least t.largest short;
      linked = i.reduced.linked;
    }

pub twice : Twice
twice = record {
  linked = λ s t p q w. answered_as s t p q w;
  answered = λ e y s z. let i = inverse_shown e y s z in answered_as e.text (take y.bytes y.area) i.judged i.answer i.linked;
}
