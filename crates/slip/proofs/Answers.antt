-- What the job told of three texts, and what was written then, is what the program writes: exactly one thing, and its last byte is 10.
-- Assumes nothing.
use mathlib.Core.Path.{◌≡◌, refl, ap}
use mathlib.Core.Logic.{◌≢◌}
use mathlib.Core.List.{List, []}
use Prim.Native.Nat.{ℕ}
use native.Mathlib.Omega.{arith}
use Rattle.gates.specs.declared.Gate.{Gate}
use Rattle.text.specs.Refusals.{number_of}
use Rattle.text.specs.Text.{bytes}
use Rattle.writing.proofs.Ended.{Ended}
use Rattle.forms.specs.Forms.{text_turned_away}
use Rattle.forms.proofs.Ended.{three_numbers_ended}
use Rattle.habits.specs.Habits.{Judgement, fine, away, Answer}
use Rattle.habits.specs.Demands.{One}
use Rattle.records.specs.declared.DoneTwo.{DoneTwo}
use Rattle.demands.proofs.Numbers.{from_1}
use Rattle.slips.specs.Slip.{judged, Slipped, Slip, Hands}
use Rattle.console.specs.Output.{Fronts, Answers}
use Rattle.printing.proofs.Told.{Told, refused, succeeded, told}
use Rattle.slip.specs.Output.{printed_by, Prints}

-- ---- what the job tells of the texts s, t and u

-- an accepted slip has no text
textless : (p : List Gate × List Gate) (w : Answer) → Slipped p w → w.text ≡ []
unfolding Slipped
textless (e, d) w z = ap (λ (y : Answer). y.text) z

tells : (s t u : List ℕ) (h : DoneTwo) → Hands s 4096 t u 4096 h → Told (λ k j. judged s k t u j) Slipped textless h.outcome
unfolding Slip
tells s t u h w = told (λ k j. judged s k t u j) Slipped textless h w

-- ---- what is written then

-- the contract of `answer`, by what was handed over and what was then written at the front of the area
module _ (s t u : List ℕ) (h : DoneTwo) (hands : Hands s 4096 t u 4096 h) {a : List ℕ} {n : ℕ} {b : List ℕ} where
  -- the refusal
  pub refusal_answers : h.outcome.number ≢ 0 → Fronts a n b (text_turned_away h.outcome.number h.outcome.line h.outcome.text) → Answers (Prints s t u) a n b
  unfolding Prints printed_by
  refusal_answers z f = go (tells s t u h hands)
    where
      go : Told (λ k j. judged s k t u j) Slipped textless h.outcome → Answers (Prints s t u) a n b
      go (refused q i j k) = record { written = text_turned_away h.outcome.number h.outcome.line h.outcome.text; prints = rw (q, i, j, k); fronts = f }
      go (succeeded q w i j) = absurd (z i)

  -- the success
  pub success_answers : h.outcome.number ≡ 0 → Fronts a n b (bytes "(accepted)\n") → Answers (Prints s t u) a n b
  unfolding Prints printed_by
  success_answers z f = go (tells s t u h hands)
    where
      go : Told (λ k j. judged s k t u j) Slipped textless h.outcome → Answers (Prints s t u) a n b
      go (refused {r} q i j k) = absurd (omega (arith, from_1 r, i, z))
      go (succeeded q w i j) = record { written = bytes "(accepted)\n"; prints = rw q; fronts = f }

-- for every three texts the program writes exactly one thing
pub prints_one : (s t u : List ℕ) → One (Prints s t u)
unfolding Prints
prints_one s t u = (printed_by (judged s 4096 t u 4096), refl, λ y e. e)

-- a word or a refusal is ended by byte 10
printed_ended : (v : Judgement (List Gate × List Gate)) → Ended (printed_by v)
unfolding printed_by
printed_ended (away r t l) = three_numbers_ended (bytes "(turned-away ") (number_of r) l t
printed_ended (fine p) = (bytes "(accepted)", refl)

-- the last byte that the program writes is 10
pub prints_ended : (s t u w : List ℕ) → Prints s t u w → Ended w
unfolding Prints
prints_ended s t u w e = rw e (printed_ended (judged s 4096 t u 4096))
