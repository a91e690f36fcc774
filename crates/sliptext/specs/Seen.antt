-- What the answers about a slip line say, in the terms of its reading in SlipText. Assumes nothing.
use Rattle.std.specs.Prelude.{◌≡◌, List, ℕ, ◌<◌, Some, None}
use Rattle.std.specs.declared.option.Option.{Option}
use Rattle.text.specs.Text.{bytes}
use Rattle.text.specs.Reading.{Got, got, none, bind, strip}
use Rattle.tokens.specs.declared.Parsed.{Parsed}
use Rattle.tokens.specs.Seen.{reached}
use Rattle.stepping.specs.Slip.{SlipStep}
use Rattle.stepping.specs.Stepped.{slip_step}
use Rattle.sliptext.specs.SlipText.{place}

-- a place, `)` and the line's end
unfoldable pub closed_place : List ℕ → Got ℕ
closed_place s = bind (place s) (λ i s'. bind (strip (bytes ")\n") s') (λ _ s''. got i s''))

-- what an answer tells of the reading g from the place at of the text s on: the place of a step, and the place of the text after it
abbrev pub place_at : List ℕ → ℕ → Got ℕ → Parsed ℕ → Type 0
place_at s at g p = reached s at g p.value p.end × (p.value < 10000)

abbrev pub place_tells : List ℕ → ℕ → Got ℕ → Option (Parsed ℕ) → Type 0
place_tells s at g (Some p) = place_at s at g p
place_tells s at g None = g ≡ none

-- the number of a step, and the place of the text after it
abbrev pub step_tells : List ℕ → ℕ → Got SlipStep → Option (Parsed ℕ) → Type 0
step_tells s at g (Some p) = reached s at g (slip_step p.value) p.end
step_tells s at g None = g ≡ none
