-- What the covered part of invert hands over makes the job say what it should: of the gate list that needs only its length. Assumes nothing.
use Prim.Native.Nat.{ℕ}
use mathlib.Core.Path.{◌≡◌, ap, ◌∙◌}
use mathlib.Core.List.{List}
use native.Mathlib.Nat.{le_refl}
use native.Mathlib.Omega.{arith}
use lib.ListN.{length, take}
use Rattle.gates.specs.Circuit.{AllValid}
use Rattle.gates.specs.Code.{gates}
use Rattle.gates.specs.Inverse.{inverse}
use Rattle.gates.proofs.Inverses.{all_valid_inverse}
use Rattle.composition.specs.Composition.{inverse_codes}
use Rattle.composition.proofs.Composed.{gates_inverse}
use Rattle.reduction.specs.Reducing.{ReducedTo}
use Rattle.text.specs.declared.Head.{Head}
use Rattle.text.specs.declared.Kind.TheVariants.{Circuit}
use Rattle.text.specs.declared.Refusal.{Refusal}
use Rattle.text.specs.Judging.{Judged, turned_away}
use Rattle.loading.specs.declared.Loaded.{Loaded}
use Rattle.std.proofs.Common.{Result}
use Rattle.text.specs.declared.Refused.{Refused}
use Rattle.loading.specs.Loaded.{Accepts}
use Rattle.jobs.specs.Jobs.{reducing, output, judged, judged_text}
use Rattle.jobs.specs.Handing.{AcceptsReduced, LoadsReduced, loaded_done, loaded_area}
use Rattle.jobs.proofs.One.{text_passed, passed_valid}
use Rattle.jobs.proofs.Handed.{loaded_by}
use Rattle.inversion.specs.Invert.{inverse_judged, Invert, Hands}
use Rattle.inversion.proofs.Inverted.{text_inverse}

-- a text that was loaded, its circuit inverted and the inverse reduced
pub inverts : (s : List ℕ) (room : ℕ) {codes inverted reduced : List ℕ} {h : Head} {m r : ℕ} → Accepts (judged_text Circuit s room) codes h m
    → take m inverted ≡ inverse_codes (take m codes) → ReducedTo inverted m r reduced → AcceptsReduced (inverse_judged (judged_text Circuit s room)) reduced h r
unfolding inverse_judged
inverts s room {codes} {inverted} {h = h} {m} w i x =
    let e : gates (take m inverted) ≡ inverse (gates (take m codes)) = ap (λ (l : List ℕ). gates l) i ∙ gates_inverse 32 (take m codes) (le_refl 32) w.renderable.codes in
    let v : AllValid h.lines (gates (take m inverted)) = rw e (all_valid_inverse h.lines (gates (take m codes)) (passed_valid (text_passed Circuit s room w.judged))) in
    record {
      circuit = inverse (gates (take m codes));
      judged = ap inverse_judged w.judged;
      reduced = rw e at (x.reduced h.lines v);
      renderable = record { narrow = w.renderable.narrow; few = omega (arith, w.renderable.few, x.within); codes = x.codes };
    }

-- a text that was refused
pub refuses : {d : Judged} {r : Refusal} {l : ℕ} → d ≡ turned_away r l → inverse_judged d ≡ turned_away r l
unfolding inverse_judged
refuses w = ap inverse_judged w

-- by the reduced list of the inverse, or the refusal
pub loaded_hands : (s a codes : List ℕ) (room : ℕ) (x : Result Loaded Refused) → length codes ≡ 4096 → LoadsReduced (inverse_judged (judged_text Circuit s room)) codes x
    → let o = output reducing (length a) in Hands s room a (loaded_done o x room codes a) (loaded_area o x codes a)
unfolding Invert judged
loaded_hands s a codes room x e w = loaded_by reducing (λ k. inverse_judged (judged_text Circuit s k)) s a codes room x e (λ h c q. (text_inverse s room q).1.room) w
