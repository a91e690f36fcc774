-- A list that is written over from the front, one element a turn; what `store` writes at each place; and that each code that is written is
-- the number of a gate. Assumes nothing.
use mathlib.Core.Path.{◌≡◌, refl, ap, ◌∙◌}
use mathlib.Core.List.{List, [], ◌∷◌, ◌++◌, map-append}
use Prim.Native.Nat.{ℕ, zero, suc, ◌+◌, ◌-◌, ◌<◌, ◌≤◌}
use native.Mathlib.Nat.{zero-add}
use native.Mathlib.Numerals.{add-one}
use native.Mathlib.Omega.{arith}
use lib.ListN.{length, get_or, set, take, drop, replicate, get_or-map, length-append, length-replicate}
use lib.Seq.{length-take-le, paste-suc}
use Rattle.std.proofs.lemmas.List.{length-map}
use Rattle.gates.specs.declared.Gate.TheVariants.{Not}
use Rattle.gates.specs.Circuit.{valid_not}
use Rattle.gates.specs.Code.{assembled, gate, gates, Code, AllCodes}
use Rattle.gates.proofs.Codes.{code_not, code_code}
use Rattle.records.specs.Records.{not_0, padded, front}

-- ---- a list written over from the front

module _ {A : Type 0} where
  -- l with the first i of s written over its first i
  abbrev pub pasted : List A → List A → ℕ → List A
  pasted s l i = take i s ++ drop i l

  -- one more
  pub pasted_more : (s l : List A) (i : ℕ) (a : A) → i < length s → i < length l → set (pasted s l i) i (get_or s i a) ≡ pasted s l (i + 1)
  pasted_more s l i a h k = rw (add-one i) (rw (zero-add i, zero-add (suc i)) at (paste-suc l 0 s i a (rw (zero-add i) k) h))

-- ---- what `store` writes

padded_at : (l : List ℕ) (m i d : ℕ) → get_or (l ++ replicate m d) i d ≡ get_or l i d
padded_at [] zero i d = refl
padded_at [] (suc m) zero d = refl
padded_at [] (suc m) (suc i) d = padded_at [] m i d
padded_at (k ∷ l) m zero d = refl
padded_at (k ∷ l) m (suc i) d = padded_at l m i d

module _ {A : Type 0} (of : ℕ → A) (codes : List ℕ) (room : ℕ) where
  -- record i
  pub record_at : (i : ℕ) → get_or (padded of codes room) i (of not_0) ≡ of (get_or codes i not_0)
  record_at i = get_or-map of (codes ++ replicate (room - length codes) not_0) i not_0 ∙ ap of (padded_at codes (room - length codes) i not_0)

  pub length_padded : length codes ≤ room → length (padded of codes room) ≡ room
  length_padded h =
      length-map (codes ++ replicate (room - length codes) not_0) of
      ∙ length-append codes (replicate (room - length codes) not_0)
      ∙ omega (arith, h, length-replicate (room - length codes) not_0)

-- `not 0` is the gate of its number
not_0_gate : gate not_0 ≡ Not 0
unfolding gate assembled
not_0_gate = refl

not_0_code : Code 32 not_0
not_0_code = rw (code_not 0) (code_code {n = 32} {g = Not 0} (omega arith) (valid_not (omega arith)))

not_0_gates : (m : ℕ) → gates (replicate m not_0) ≡ replicate m (Not 0)
not_0_gates zero = refl
not_0_gates (suc m) = rw (not_0_gate, not_0_gates m)

-- each code, also behind the last, is the number of a gate
pub code_behind : (codes : List ℕ) (i : ℕ) → AllCodes 32 codes → Code 32 (get_or codes i not_0)
code_behind [] i h = not_0_code
code_behind (k ∷ codes) zero h = h.0
code_behind (k ∷ codes) (suc i) h = code_behind codes i h.1

-- the gates of codes and of `not 0`
pub padded_front : (codes : List ℕ) (count limit room : ℕ) → count ≤ length codes → room ≡ limit → padded gate (take count codes) room ≡ front codes count limit
padded_front codes count limit room h e =
    map-append gate (take count codes) (replicate (room - length (take count codes)) not_0) ∙ rw (length-take-le count codes h, e, not_0_gates (limit - count))
