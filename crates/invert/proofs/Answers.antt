-- What the job left in the area is what the program writes. Assumes nothing.
use Prim.Native.Nat.{ℕ, ◌≤◌}
use mathlib.Core.Path.{◌≡◌, subst}
use mathlib.Core.List.{List}
use native.Mathlib.Omega.{arith}
use lib.ListN.{length, replicate, length-replicate}
use Rattle.gates.specs.declared.Gate.{Gate}
use Rattle.gates.specs.declared.Gate.TheVariants.{Not}
use Rattle.gates.proofs.Inverses.{length_inverse}
use Rattle.records.specs.declared.Done.{Done}
use Rattle.records.specs.declared.Outcome.{Outcome}
use Rattle.records.specs.Records.{filled_by}
use Rattle.text.specs.declared.Head.{Head}
use Rattle.text.specs.declared.Kind.TheVariants.{Circuit}
use Rattle.text.specs.Judging.{accepted}
use Rattle.jobs.specs.Jobs.{reducing, as_text, Entry, judged, judged_text, Settled}
use Rattle.jobs.specs.Handing.{exit_of}
use Rattle.inversion.specs.Invert.{inverse_judged, Invert, Hands}
use Rattle.inversion.proofs.Inverted.{text_inverse}
use Rattle.console.specs.Output.{answer_bytes}
use Rattle.console.proofs.Answers.{Left, settled_left}

-- the inverse of an accepted circuit has at most 4,096 gates
short : (s : List ℕ) (records : ℕ) (h : Head) (c : List Gate) → inverse_judged (judged_text Circuit s records) ≡ accepted h c → length c ≤ 4096
short s records h c q = let z = text_inverse s records q in rw z.2 (omega (arith, length_inverse z.0, z.1.text.short))

-- by what its covered part hands over, which is told of every list of 4,096 records
pub hands_left : (s a : List ℕ) (d : Done Outcome) (b : List ℕ) → answer_bytes ≤ length a → Hands s 4096 a d b → Left (inverse_judged (judged_text Circuit s 4096)) as_text a d.outcome b
unfolding Invert judged
hands_left s a d b room w =
    let l : List Gate = replicate 4096 (Not 0) in
    let e : Entry = record { text = s; list = l; area = a } in
    let k = filled_by d.filling l in
    settled_left reducing e d.outcome k b (inverse_judged (judged_text Circuit s 4096)) (short s 4096) (λ _. room)
    (subst (λ (n : ℕ). Settled reducing e (inverse_judged (judged_text Circuit s n)) (exit_of d.outcome k b)) (length-replicate 4096 (Not 0)) (w.tells l (length-replicate 4096 (Not 0))))
