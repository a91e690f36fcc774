-- What a program writes: for every text exactly one thing, and its last byte is 10. Assumes nothing.
use mathlib.Core.Path.{◌≡◌, refl, sym, ap, ◌∙◌}
use mathlib.Core.List.{List, [], ◌∷◌, map, append-nil}
use Prim.Native.Nat.{ℕ}
use Rattle.gates.specs.declared.Gate.{Gate}
use Rattle.gates.specs.declared.Gate.TheVariants.{Not, Powered}
use Rattle.gates.specs.Circuit.{AllValid}
use Rattle.gates.proofs.ReducedLists.{one_reduced_list}
use Rattle.text.specs.declared.Head.{Head}
use Rattle.text.specs.Text.{Form, lines, gate, bytes, digits, one, two, word, render, rendered, circuit_text}
use Rattle.text.specs.Judging.{Judged, turned_away, accepted}
use Rattle.habits.specs.Demands.{One}
use Rattle.jobs.specs.Jobs.{takes, Output, as_text, as_count, judged_text}
use Rattle.jobs.proofs.One.{text_passed, passed_valid}
use Rattle.console.specs.declared.Program.{Program}
use Rattle.console.specs.Output.{job_of, output_of, shown, PrintsBy, Prints, Answers}
use Rattle.console.proofs.Front.{fronts_one}
use Rattle.writing.proofs.Ended.{Ended, behind, bracket, one_number_ended, two_numbers_ended}

-- ---- exactly one

-- by what the text was judged to be, with a circuit on the lines of the head
pub printed_one : (o : Output) (d : Judged) → ((h : Head) (c : List Gate) → d ≡ accepted h c → AllValid h.lines c) → One (PrintsBy o d)
unfolding PrintsBy
printed_one o (turned_away r l) v = (_, refl, λ w e. e)
printed_one o (accepted h c) v =
    let y = one_reduced_list h.lines c (v h c refl) in
    (shown o h.lines y.0, (y.0, y.1, refl), λ w z. z.2 ∙ ap (shown o h.lines) (sym (y.2 z.0 z.1)))

pub prints_one : (p : Program) (s : List ℕ) → One (Prints p s)
unfolding Prints
prints_one p s = printed_one (output_of p) (judged_text (takes (job_of p)) s 4096) (λ h c q. passed_valid (text_passed (takes (job_of p)) s 4096 q))

-- so the contract of `answer` leaves nothing free
pub answers_one : {Writes : List ℕ → Type 0} → One Writes → {a : List ℕ} {n m : ℕ} {b d : List ℕ} → Answers Writes a n b → Answers Writes a m d → (n ≡ m) × (b ≡ d)
answers_one o x y = fronts_one (o.2 x.written x.prints ∙ sym (o.2 y.written y.prints)) x.fronts y.fronts

-- ---- ended by byte 10

one_ended : (t : ℕ) → Ended (one t)
unfolding one
one_ended t = behind (digits t) bracket

gate_ended : (g : Gate) → Ended (render (gate g))
unfolding render two
gate_ended (Not t) = behind (bytes "(not ") (one_ended t)
gate_ended (Powered p c t) = behind (word p) (behind (digits c) (behind (bytes " ") (one_ended t)))

forms_ended : (f : Form) (c : List Gate) → Ended (render f) → Ended (rendered (f ∷ map gate c))
unfolding rendered
forms_ended f [] e = rw (append-nil (render f)) e
forms_ended f (g ∷ c) e = behind (render f) (forms_ended (gate g) c (gate_ended g))

pub shown_ended : (k : Output) (n : ℕ) (r : List Gate) → Ended (shown k n r)
unfolding circuit_text render
shown_ended as_text n r = forms_ended (lines n) r (behind (bytes "(lines ") (one_ended n))
shown_ended as_count n r = one_number_ended (bytes "(quote ") _

pub shows_ended : (k : Output) (d : Judged) (w : List ℕ) → PrintsBy k d w → Ended w
unfolding PrintsBy
shows_ended k (turned_away r l) w e = rw e (two_numbers_ended (bytes "(turned-away ") _ l)
shows_ended k (accepted h c) w (r, x, e) = rw e (shown_ended k h.lines r)

pub prints_ended : (p : Program) (s w : List ℕ) → Prints p s w → Ended w
unfolding Prints
prints_ended p s w x = shows_ended (output_of p) (judged_text (takes (job_of p)) s 4096) w x
