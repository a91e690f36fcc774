-- What the answers about a token say, in the terms of the parser in text's Reading. Assumes nothing.
use Rattle.std.specs.Prelude.{◌≡◌, false, List, ℕ, ◌+◌, ◌≤◌, ◌<◌, length, get_or, drop}
use Rattle.std.specs.declared.option.Option.{Option}
use Rattle.std.specs.declared.option.Option.TheVariants.{Some, None}
use Rattle.text.specs.Reading.{Got, got, none, bind, strip, num, digit}
use Rattle.tokens.specs.declared.Parsed.{Parsed}

-- a number between fixed bytes: w before it, v after it
unfoldable pub delimited : List ℕ → List ℕ → List ℕ → Got ℕ
delimited w v s = bind (strip w s) (λ _ r. bind (num r) (λ x q. bind (strip v q) (λ _. got x)))

-- ---- the place only moves forward and stays within the text

abbrev pub ahead : List ℕ → ℕ → ℕ → Type 0
ahead s at next = (at < next) × (next ≤ length s)

-- ---- what an answer tells of the parse g from the place at of the text s on: what was got, and the place after it

abbrev pub reached : {A : Type 0} → List ℕ → ℕ → Got A → A → ℕ → Type 0
reached s at g a next = (g ≡ got a (drop next s)) × ahead s at next

abbrev pub tells : {A : Type 0} → List ℕ → ℕ → Got A → Option (Parsed A) → Type 0
tells s at g (Some p) = reached s at g p.value p.end
tells s at g None = g ≡ none

-- the place alone, where a is got
abbrev pub found_tells : {A : Type 0} → List ℕ → ℕ → Got A → A → Option ℕ → Type 0
found_tells s at g a (Some next) = (g ≡ got a (drop next s)) × (at ≤ next) × (next ≤ length s)
found_tells s at g a None = g ≡ none

-- ---- what an answer tells of the byte at a place: the digit's value, or that none stands there

abbrev pub digit_tells : List ℕ → ℕ → Option ℕ → Type 0
digit_tells s at (Some d) = (at < length s) × (get_or s at 0 ≡ 48 + d) × (d < 10)
digit_tells s at None = at < length s → digit (get_or s at 0) ≡ false
