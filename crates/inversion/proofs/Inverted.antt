-- What is judged with the inverse of a circuit: what it was made of, and that it is a circuit on the same lines. Assumes nothing.
use Prim.Native.Nat.{ℕ}
use mathlib.Core.Path.{◌≡◌, sym, ap}
use mathlib.Core.List.{List}
use Rattle.gates.specs.declared.Gate.{Gate}
use Rattle.gates.specs.Circuit.{AllValid}
use Rattle.gates.specs.Inverse.{inverse}
use Rattle.gates.proofs.Inverses.{all_valid_inverse}
use Rattle.text.specs.declared.Refusal.{Refusal}
use Rattle.text.specs.declared.Head.{Head}
use Rattle.text.specs.declared.Kind.TheVariants.{Circuit}
use Rattle.text.specs.Judging.{Judged, turned_away, accepted}
use Rattle.text.proofs.Accepted.{accepted_head, accepted_circuit, away_accepted}
use Rattle.jobs.specs.Jobs.{judged_text}
use Rattle.jobs.proofs.One.{Passed, text_passed, passed_valid}
use Rattle.inversion.specs.Invert.{inverse_judged}

-- an accepted inverse is that of a circuit which was accepted
inverse_accepted : (d : Judged) {h : Head} {c : List Gate} → inverse_judged d ≡ accepted h c → (b : List Gate) × (d ≡ accepted h b) × (c ≡ inverse b)
unfolding inverse_judged
inverse_accepted (turned_away r l) q = absurd (away_accepted q)
inverse_accepted (accepted g b) q = (b, ap (λ (f : Head). accepted f b) (accepted_head q), sym (accepted_circuit q))

-- a text that is turned away was turned away before
pub inverse_away : (d : Judged) {r : Refusal} {l : ℕ} → inverse_judged d ≡ turned_away r l → d ≡ turned_away r l
unfolding inverse_judged
inverse_away (turned_away r l) q = q
inverse_away (accepted h c) q = absurd (away_accepted (sym q))

-- the text s, with which a gate list of so many records is judged
module _ (s : List ℕ) (records : ℕ) where
  -- its circuit is one on the lines of the head
  pub text_inverse : {h : Head} {c : List Gate} → inverse_judged (judged_text Circuit s records) ≡ accepted h c → (b : List Gate) × Passed Circuit s records h b × (c ≡ inverse b)
  text_inverse q = let z = inverse_accepted (judged_text Circuit s records) q in (z.0, text_passed Circuit s records z.1, z.2)

  pub inverse_valid : {h : Head} {c : List Gate} → inverse_judged (judged_text Circuit s records) ≡ accepted h c → AllValid h.lines c
  inverse_valid {h} q = let z = text_inverse q in rw z.2 (all_valid_inverse h.lines z.0 (passed_valid z.1))
