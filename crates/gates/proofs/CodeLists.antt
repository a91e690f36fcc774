-- Circuits as lists of numbers: there and back, parts of such lists, more lines, and dictionary order. Assumes nothing.
use mathlib.Core.Path.{◌≡◌, refl}
use mathlib.Core.Logic.{◌↔◌, ◌⊎◌, inl, inr}
use mathlib.Core.List.{List, [], ◌∷◌, ◌++◌, map, map-append}
use Prim.Native.Nat.{ℕ, zero, suc, ◌≤◌, ◌<◌}
use native.Mathlib.Omega.{arith}
use lib.ListN.{length, length-map, get_or, take, drop}
use lib.Seq.{length-take-le, get_or-take}
use Rattle.gates.specs.declared.Gate.{Gate}
use Rattle.gates.specs.Circuit.{Valid, valid_not, valid_powered, AllValid}
use Rattle.gates.specs.Order.{◌≼◌, none, less, same}
use Rattle.gates.specs.Code.{code, gate, gates, Code, AllCodes}
use Rattle.gates.proofs.Every.{every_append, every_take, every_at, every_follows}
use Rattle.gates.proofs.Codes.{gate_code, code_code, code_injective, earlier_code}

-- ---- the gates of a list, part by part

pub length_gates : (l : List ℕ) → length (gates l) ≡ length l
length_gates l = length-map l gate

pub gates_append : (l m : List ℕ) → gates (l ++ m) ≡ gates l ++ gates m
gates_append l m = map-append gate l m

pub gates_drop : (i : ℕ) (l : List ℕ) → gates (drop i l) ≡ drop i (gates l)
gates_drop zero l = refl
gates_drop (suc i) [] = refl
gates_drop (suc i) (k ∷ l) = gates_drop i l

module _ (n : ℕ) where
  -- ---- there and back

  pub code_gates : (l : List ℕ) → AllCodes n l → map code (gates l) ≡ l
  code_gates [] h = refl
  code_gates (k ∷ l) h = rw (h.0.exact, code_gates l h.1)

  pub all_codes_code : (c : List Gate) → n ≤ 32 → AllValid n c → AllCodes n (map code c)
  all_codes_code [] h f = tt
  all_codes_code (g ∷ c) h f = (code_code h f.0, all_codes_code c h f.1)

  pub gates_code : (c : List Gate) → n ≤ 32 → AllValid n c → gates (map code c) ≡ c
  gates_code [] h f = refl
  gates_code (g ∷ c) h f = rw (gate_code h f.0, gates_code c h f.1)

  -- ---- parts of lists of numbers

  pub all_codes_append : (l m : List ℕ) → AllCodes n l → AllCodes n m → AllCodes n (l ++ m)
  all_codes_append = every_append (Code n)

  pub all_codes_take : (i : ℕ) (l : List ℕ) → AllCodes n l → AllCodes n (take i l)
  all_codes_take = every_take (Code n)

  pub code_at : (l : List ℕ) (i d : ℕ) → i < length l → AllCodes n l → Code n (get_or l i d)
  code_at = every_at (Code n)

  -- one of the first m
  pub code_in_front : (l : List ℕ) (m i d : ℕ) → i < m → m ≤ length l → AllCodes n (take m l) → Code n (get_or l i d)
  code_in_front l m i d b k h = rw (get_or-take m l i d b) at (code_at (take m l) i d (rw (length-take-le m l k) b) h)

-- ---- what is valid on n lines is valid on more

pub valid_more : {n m : ℕ} {g : Gate} → n ≤ m → Valid n g → Valid m g
valid_more h (valid_not {t} a) = valid_not {t = t} (omega arith)
valid_more h (valid_powered {p} {c} {t} a b i j d) = valid_powered {c = c} {t = t} a b (omega arith) (omega arith) d

module _ (n m : ℕ) where
  pub all_valid_more : (c : List Gate) → n ≤ m → AllValid n c → AllValid m c
  all_valid_more c h = every_follows (Valid n) (Valid m) (λ g. valid_more h) c

-- ---- dictionary order

-- the dictionary order of lists of numbers: the first is equal to the second, or comes before it
pub data Ordered : List ℕ → List ℕ → Type 0 where
  ordered_nil : {m : List ℕ} → Ordered [] m
  ordered_less : {j k : ℕ} {l m : List ℕ} → j < k → Ordered (j ∷ l) (k ∷ m)
  ordered_same : {k : ℕ} {l m : List ℕ} → Ordered l m → Ordered (k ∷ l) (k ∷ m)

ordered_cons : {j k : ℕ} {l m : List ℕ} → Ordered (j ∷ l) (k ∷ m) → (j < k) ⊎ ((j ≡ k) × Ordered l m)
ordered_cons (ordered_less i) = inl i
ordered_cons (ordered_same o) = inr (refl, o)

module _ (n : ℕ) where
  ordered_code : {c d : List Gate} → n ≤ 32 → AllValid n c → AllValid n d → c ≼ d → Ordered (map code c) (map code d)
  ordered_code b f h none = ordered_nil
  ordered_code b f h (less e) = ordered_less ((earlier_code b f.0 h.0).0 e)
  ordered_code b f h (same o) = ordered_same (ordered_code b f.1 h.1 o)

  code_ordered : (c d : List Gate) → n ≤ 32 → AllValid n c → AllValid n d → Ordered (map code c) (map code d) → c ≼ d
  code_ordered [] d b f h o = none
  code_ordered (g ∷ c) [] b f h o = elim o [ ]
  code_ordered (g ∷ c) (k ∷ d) b f h o = go (λ q. code_ordered c d b f.1 h.1 q) (ordered_cons o)
    where
      go : (Ordered (map code c) (map code d) → c ≼ d) → (code g < code k) ⊎ ((code g ≡ code k) × Ordered (map code c) (map code d)) → (g ∷ c) ≼ (k ∷ d)
      go ih (inl l) = less ((earlier_code b f.0 h.0).1 l)
      go ih (inr q) = rw (code_injective b f.0 h.0 q.0) (same (ih q.1))

  -- the dictionary order of circuits is that of their lists of numbers
  pub dictionary_code : (c d : List Gate) → n ≤ 32 → AllValid n c → AllValid n d → (c ≼ d) ↔ Ordered (map code c) (map code d)
  dictionary_code c d b f h = (λ o. ordered_code b f h o, λ o. code_ordered c d b f h o)
