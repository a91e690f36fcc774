-- Laws of the lines of a circuit text: each is a form of one number or of two, and a text grows by a line for each code. Assumes nothing.
use mathlib.Core.Path.{◌≡◌, refl, sym, ap, ◌∙◌}
use mathlib.Core.Logic.{◌≢◌}
use mathlib.Core.List.{List, [], ◌∷◌, ◌++◌, map, map-append, append_assoc, append-nil}
use Prim.Native.Nat.{ℕ, ◌+◌, ◌≤◌, ◌<◌}
use native.Mathlib.Nat.{le_refl}
use native.Mathlib.Numerals.{add-one}
use native.Mathlib.Omega.{arith}
use lib.ListN.{length, take, drop, get_or, length-append, take-append-drop}
use lib.Seq.{take-suc}
use Rattle.gates.specs.declared.Gate.{Gate}
use Rattle.gates.specs.declared.Gate.TheVariants.{Not, Powered}
use Rattle.gates.specs.Code.{gates, Code}
use Rattle.text.specs.Text.{Form, lines, gate, bytes, one, two, word, render, rendered, circuit_text, Proper}
use Rattle.text.proofs.Written.{gate_proper}
use Rattle.writing.specs.Written.{gate_lines}
use Rattle.writing.specs.Decimal.{decimal, one_number, two_numbers}
use Rattle.writing.proofs.Numbers.{digits_decimal}
use Rattle.gates.specs.Code as C

-- ---- a line

pub length_one : (w : List ℕ) (n : ℕ) → length (one_number w n) ≡ length w + (length (decimal n) + 2)
unfolding one_number
length_one w n = simp length-append

pub length_two : (w : List ℕ) (m n : ℕ) → length (two_numbers w m n) ≡ length w + (length (decimal m) + 1 + (length (decimal n) + 2))
unfolding two_numbers
length_two w m n = simp length-append

lines_line : (n : ℕ) → n < 100 → render (lines n) ≡ one_number (bytes "(lines ") n
unfolding render one one_number
lines_line n h = rw (digits_decimal n h)

not_line : (t : ℕ) → t < 100 → render (gate (Not t)) ≡ one_number (bytes "(not ") t
unfolding render one one_number
not_line t h = rw (digits_decimal t h)

powered_line : (p c t : ℕ) → c < 100 → t < 100 → render (gate (Powered p c t)) ≡ two_numbers (word p) c t
unfolding render two one two_numbers
powered_line p c t h k = rw (digits_decimal c h, digits_decimal t k, append_assoc (decimal c) (bytes " "))

-- a NOT that can be written
pub not_parts : {g : Gate} {t : ℕ} → g ≡ Not t → Proper (gate g) → (t < 100) × (render (gate g) ≡ one_number (bytes "(not ") t)
not_parts {g} {t} e h = let k : t < 100 = rw e at h in (k, rw e (not_line t k))

-- a powered gate that can be written
pub record Parts (g : Gate) (p c t : ℕ) : Type 0 where
  pub power : (1 ≤ p) × (p ≤ 3)
  pub control : c < 100
  pub target : t < 100
  pub line : render (gate g) ≡ two_numbers (word p) c t

pub powered_parts : {g : Gate} {p c t : ℕ} → g ≡ Powered p c t → Proper (gate g) → Parts g p c t
powered_parts {g} {p} {c} {t} e h =
    let k : (c < 100) × (t < 100) × (1 ≤ p) × (p ≤ 3) = rw e at h in
    record { power = (k.2, k.3); control = k.0; target = k.1; line = rw e (powered_line p c t k.0 k.1) }

-- the words by power
pub word_v : (p : ℕ) → p ≡ 1 → word p ≡ bytes "(v "
unfolding word
word_v p e = rw e

pub word_cn : (p : ℕ) → p ≡ 2 → word p ≡ bytes "(cn "
unfolding word
word_cn p e = rw e

pub word_vp : (p : ℕ) → (1 ≤ p) × (p ≤ 3) → p ≢ 1 → p ≢ 2 → word p ≡ bytes "(vp "
unfolding word
word_vp p h v cn = let e : p ≡ 3 = omega arith in rw e

-- the line of a code can be written
pub code_proper : (k : ℕ) → Code 32 k → Proper (gate (C.gate k))
code_proper k w = gate_proper 32 (le_refl 32) w.valid

-- ---- the lines of a list

rendered_append : (fs gs : List Form) → rendered (fs ++ gs) ≡ rendered fs ++ rendered gs
unfolding rendered
rendered_append [] gs = refl
rendered_append (f ∷ fs) gs = rw (rendered_append fs gs) (sym (append_assoc (render f) (rendered fs) (rendered gs)))

lines_append : (a b : List ℕ) → gate_lines (a ++ b) ≡ gate_lines a ++ gate_lines b
unfolding gate_lines
lines_append a b = rw (map-append C.gate a b, map-append gate (gates a) (gates b)) (rendered_append (map gate (gates a)) (map gate (gates b)))

-- the head's line and the gates' lines
pub circuit_lines : (n : ℕ) (l : List ℕ) → n < 100 → circuit_text n (gates l) ≡ one_number (bytes "(lines ") n ++ gate_lines l
unfolding circuit_text rendered gate_lines
circuit_lines n l h = rw (lines_line n h)

pub circuit_length : (n : ℕ) (l : List ℕ) → n < 100 → length (circuit_text n (gates l)) ≡ length (one_number (bytes "(lines ") n) + length (gate_lines l)
circuit_length n l h = ap length (circuit_lines n l h) ∙ length-append (one_number (bytes "(lines ") n) (gate_lines l)

-- no code yet
pub no_lines : gate_lines [] ≡ []
unfolding gate_lines rendered
no_lines = refl

-- one code more
pub more_lines : (i : ℕ) (l : List ℕ) → i < length l → gate_lines (take (i + 1) l) ≡ gate_lines (take i l) ++ render (gate (C.gate (get_or l i 0)))
unfolding gate_lines rendered
more_lines i l h =
    rw (add-one, take-suc l i 0 h) (lines_append (take i l) (get_or l i 0 ∷ []) ∙ ap (λ (x : List ℕ). gate_lines (take i l) ++ x) (append-nil (render (gate (C.gate (get_or l i 0))))))

-- the lines of the first i codes are no longer than those of all
pub lines_all : (i : ℕ) (l : List ℕ) → length (gate_lines (take i l)) ≤ length (gate_lines l)
lines_all i l =
    omega (arith, ap length (ap gate_lines (sym (take-append-drop i l)) ∙ lines_append (take i l) (drop i l)) ∙ length-append (gate_lines (take i l)) (gate_lines (drop i l)))

-- the length of the lines of one code more
pub lines_length : (i : ℕ) (l : List ℕ) → i < length l → length (gate_lines (take (i + 1) l)) ≡ length (gate_lines (take i l)) + length (render (gate (C.gate (get_or l i 0))))
lines_length i l h = ap length (more_lines i l h) ∙ length-append (gate_lines (take i l)) (render (gate (C.gate (get_or l i 0))))
