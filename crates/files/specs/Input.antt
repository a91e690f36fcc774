-- What is known of the input that was read. Assumes nothing.
use Rattle.std.specs.Prelude.{ℕ, ◌≤◌, IfOk, Result}
use Rattle.files.specs.declared.Unread.{Unread}

-- the bytes read are no fewer than a and no more than b
abbrev pub Within : ℕ → ℕ → Result ℕ Unread → Type 0
Within a b r = IfOk r (λ n. (a ≤ n) × (n ≤ b))

-- of two texts those read are no more than a and b
abbrev pub WithinTwo : ℕ → ℕ → Result (ℕ × ℕ) Unread → Type 0
WithinTwo a b r = IfOk r (λ (m, n). (m ≤ a) × (n ≤ b))

-- and of three no more than a, b and c
abbrev pub WithinThree : ℕ → ℕ → ℕ → Result (ℕ × ℕ × ℕ) Unread → Type 0
WithinThree a b c r = IfOk r (λ (m, n, k). (m ≤ a) × (n ≤ b) × (k ≤ c))
