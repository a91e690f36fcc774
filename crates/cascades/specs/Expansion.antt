-- The expansion of an mct gate into NOT, cn, v and vp gates, with any choice of spare lines and with those of the published order, and the table
-- of its counts (document 01, "Expansion"; document 02, orders 5 and 8). Assumes nothing.
use Rattle.std.specs.Prelude.{◌≡◌, true, false, cond, List, [], ◌∷◌, ◌++◌, ℕ, zero, suc, ◌/◌, ◌≤◌, ◌<◌, length, take, drop, get_or}
use Rattle.gates.specs.declared.Gate.{Gate}
use Rattle.gates.specs.declared.Gate.TheVariants.{Not, Powered}
use Rattle.gates.specs.Inverse.{inverse}
use Rattle.meaning.specs.Pattern.{has, distinct}

-- ---- circuits

-- the circuits of one gate: `v c t`, `vp c t` (V+) and `cn c t`
abbrev pub v : ℕ → ℕ → List Gate
v c t = Powered 1 c t ∷ []

abbrev pub v⁺ : ℕ → ℕ → List Gate
v⁺ c t = Powered 3 c t ∷ []

abbrev pub cn : ℕ → ℕ → List Gate
cn c t = Powered 2 c t ∷ []

-- "joined": one circuit, then another
infixr 5 ◌⨾◌
unfoldable pub ◌⨾◌ : List Gate → List Gate → List Gate
a ⨾ b = a ++ b

-- two controls a and b: "v b t; cn a b; vp b t; cn a b; v a t"
abbrev pub toffoli : ℕ → ℕ → ℕ → List Gate
toffoli a b t = v b t ⨾ cn a b ⨾ v⁺ b t ⨾ cn a b ⨾ v a t

-- three or more controls: "v s t; M0; vp s t; M1; v s t; M2; vp s t; M3", where M2 and M3 are M0 and M1 reversed, with v and vp exchanged
unfoldable pub joined : ℕ → ℕ → List Gate → List Gate → List Gate
joined s t m0 m1 = v s t ⨾ m0 ⨾ v⁺ s t ⨾ m1 ⨾ v s t ⨾ inverse m0 ⨾ v⁺ s t ⨾ inverse m1

-- ---- any spare lines

-- "C0 is the first floor(k/2) controls, C1 the others"
abbrev pub c0 : List ℕ → List ℕ
c0 cs = take (length cs / 2) cs

abbrev pub c1 : List ℕ → List ℕ
c1 cs = drop (length cs / 2) cs

-- the circuit is an expansion on n lines of the mct gate with controls cs and target t, whichever spare lines it and its smaller gates chose:
-- s is one of the n lines that the gate names neither as control nor as target
pub data Expands (n : ℕ) : List ℕ → ℕ → List Gate → Type 0 where
  no_control : (t : ℕ) → Expands n [] t (Not t ∷ [])
  one_control : (a t : ℕ) → Expands n (a ∷ []) t (cn a t)
  two_controls : (a b t : ℕ) → Expands n (a ∷ b ∷ []) t (toffoli a b t)
  more_controls : {cs : List ℕ} {t : ℕ} {m0 m1 : List Gate} (s : ℕ) → 3 ≤ length cs → s < n → has s (t ∷ cs) ≡ false → Expands n (c0 cs) s m0 → Expands n (c1 cs) s m1 → Expands n cs t (joined s t m0 m1)

-- ---- spare lines in the published order (document 02, order 5; "ancillary lines" of document 001, section III.B)

-- the lines from i on, of m lines, that are not in the list, rising
unfoldable pub lines_outside : ℕ → ℕ → List ℕ → List ℕ
lines_outside zero i l = []
lines_outside (suc m) i l = cond (has i l) (lines_outside m (suc i) l) (i ∷ lines_outside m (suc i) l)

-- the spares of an mct gate: "For an mct it is all unnamed lines, rising"; "A kept line that an mct doesn't name is no spare of it" (order 8)
unfoldable pub mct_spares : ℕ → List ℕ → List ℕ → ℕ → List ℕ
mct_spares n kept cs t = lines_outside n 0 (kept ++ (t ∷ cs))

-- each gate "takes the first as s" (0 where it has none)
abbrev pub first_spare : List ℕ → ℕ
first_spare sp = get_or sp 0 0

-- of the smaller gates of the gate with spares sp, controls cs and target t: "M0 gets t, then the remaining spares, then C1"
abbrev pub m0_spares : List ℕ → List ℕ → ℕ → List ℕ
m0_spares sp cs t = t ∷ (drop 1 sp ++ c1 cs)

-- "M1 gets the remaining spares, then C0"
abbrev pub m1_spares : List ℕ → List ℕ → List ℕ
m1_spares sp cs = drop 1 sp ++ c0 cs

-- the expansion of the gate with the ordered list sp of spares; the first argument bounds the recursion: more than the number of controls
unfoldable pub expand : ℕ → List ℕ → List ℕ → ℕ → List Gate
expand zero sp cs t = []
expand (suc f) sp [] t = Not t ∷ []
expand (suc f) sp (a ∷ []) t = cn a t
expand (suc f) sp (a ∷ b ∷ []) t = toffoli a b t
expand (suc f) sp (a ∷ b ∷ c ∷ cs) t =
    let l = a ∷ b ∷ c ∷ cs in
    let s = first_spare sp in
    joined s t (expand f (m0_spares sp l t) (c0 l) s) (expand f (m1_spares sp l) (c1 l) s)

-- the same, with such a bound
unfoldable pub expand_with : List ℕ → List ℕ → ℕ → List Gate
expand_with sp cs t = expand (suc (length cs)) sp cs t

-- the expansion on n lines, of which some are kept, of the mct gate with controls cs and target t
unfoldable pub expansion : ℕ → List ℕ → List ℕ → ℕ → List Gate
expansion n kept cs t = expand_with (mct_spares n kept cs t) cs t

-- ---- which gates can be expanded

-- an mct gate that can be expanded on n lines, of which some are kept: no control twice, the target another line, and for three or more controls
-- one of the n lines to spare, unnamed and unkept
pub record Expandable (n : ℕ) (kept cs : List ℕ) (t : ℕ) : Type 0 where
  pub apart : distinct cs ≡ true
  pub other : has t cs ≡ false
  pub line : t < n
  pub spare : 3 ≤ length cs → (j : ℕ) × (j < n) × (has j (kept ++ (t ∷ cs)) ≡ false)

-- ---- counts

-- "Gates for k = 0 to 15"
abbrev pub counts : List ℕ
counts = 1 ∷ 1 ∷ 5 ∷ 16 ∷ 24 ∷ 46 ∷ 68 ∷ 84 ∷ 100 ∷ 144 ∷ 188 ∷ 232 ∷ 276 ∷ 308 ∷ 340 ∷ 372 ∷ []
