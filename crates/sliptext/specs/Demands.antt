-- When a slip is accepted, with its steps, and when it is refused, with its number and its line: document 02's words. Assumes nothing.
use Rattle.std.specs.Prelude.{ℕ, ◌+◌, ◌≤◌, ◌<◌, ◌≡◌, ◌≢◌, List, [], ◌++◌, length}
use Rattle.gates.specs.Every.{Every}
use Rattle.stepping.specs.Slip.{SlipStep}
use Rattle.sliptext.specs.SlipText.{place_in, slip_line, slip_text}

-- each place has "up to four digits"
abbrev pub ShortPlaces : List SlipStep → Type 0
ShortPlaces = Every (λ x. place_in x < 10000)

-- the text s is a slip of these steps: "at most 4,096 lines"; "may be empty"
pub record AcceptsSlip (s : List ℕ) (ss : List SlipStep) : Type 0 where
  pub written : s ≡ slip_text ss
  pub places : ShortPlaces ss
  pub few : length ss ≤ 4096

-- bytes that do not begin with a line in form
abbrev pub Formless : List ℕ → Type 0
Formless r = (x : SlipStep) (q : List ℕ) → place_in x < 10000 → r ≢ slip_line x ++ q

-- the numbers that a slip is refused with, each with its line
pub data RefusesSlip (s : List ℕ) : ℕ → ℕ → Type 0 where
  -- 1, "text over 60,000 bytes", with line 0
  overlong : 60000 < length s → RefusesSlip s 1 0
  -- 3: after at most 4,096 lines in form there are bytes, and no line in form
  malformed : length s ≤ 60000 → (ss : List SlipStep) (r : List ℕ) → s ≡ slip_text ss ++ r → ShortPlaces ss → length ss ≤ 4096 → r ≢ [] → Formless r → RefusesSlip s 3 (length ss + 1)
  -- 9: 4,097 lines in form, whatever comes after them
  too_many : length s ≤ 60000 → (ss : List SlipStep) (r : List ℕ) → s ≡ slip_text ss ++ r → ShortPlaces ss → length ss ≡ 4097 → RefusesSlip s 9 4097
