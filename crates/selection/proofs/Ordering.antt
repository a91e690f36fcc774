-- The whole selection: from the numbers of a shortest circuit to those of its reduced list. Assumes nothing.
use mathlib.Core.Path.{◌≡◌, refl, ap}
use mathlib.Core.Logic.{◌≢◌}
use mathlib.Core.List.{List, [], ◌∷◌, ◌++◌, append-nil}
use Prim.Native.Nat.{ℕ, zero, suc, ◌+◌, ◌≤◌, ◌<◌}
use native.Mathlib.Omega.{arith}
use native.Mathlib.Decide.{dec_lt}
use lib.ListN.{length, take, drop, get_or, replicate, length-replicate, get_or-replicate, get_or-eq_default}
use Rattle.std.proofs.lemmas.List.{nil_from_length}
use Rattle.gates.specs.declared.Gate.{Gate}
use Rattle.gates.specs.Code.{code, gates, Code, AllCodes}
use Rattle.gates.proofs.Codes.{gate_not, code_not}
use Rattle.gates.proofs.CodeLists.{code_at}
use Rattle.gates.proofs.ReducedLists.{reduced_on_lines}
use Rattle.partners.specs.Shortest.{Shortest}
use Rattle.selection.specs.Selection.{Selects, nothing}
use Rattle.sites.proofs.Sets.{sites_none, none_has}
use Rattle.selection.specs.declared.Kind.TheVariants.{Target}
use Rattle.selection.specs.Places.{rest, Numbers, line}
use Rattle.selection.specs.Taking.{State, Unopened, Prepared, Ordered}
use Rattle.selection.proofs.Selection.{selects_reduced}
use Rattle.selection.proofs.Counting.{number_some}
use Rattle.selection.proofs.Opening.{left_line}

-- ---- the turns

-- k gates have been taken: what a selection takes from those left comes after them
pub record Going (list₀ : List ℕ) (r k : ℕ) (list left next_target next_control opened running places rows : List ℕ) : Type 0 where
  pub prepared : Prepared left r next_target next_control opened running places rows
  pub shortest : Shortest 32 (gates (take r list₀))
  pub size : length list ≡ length list₀
  pub count : length (rest left) + k ≡ r
  pub codes : AllCodes 32 (take k list)
  pub after : drop r list ≡ drop r list₀
  pub selects : (t : List Gate) → Selects (gates (rest left)) t → Selects (gates (take r list₀)) (gates (take k list) ++ t)

module _ {list₀ : List ℕ} {r k : ℕ} {list left nt nc opened running places rows : List ℕ} (w : Going list₀ r k list left nt nc opened running places rows) where
  pub going_end : r ≤ k → Ordered list₀ r list
  going_end h =
      let e : k ≡ r = omega (arith, w.count) in
      let z : rest left ≡ [] = nil_from_length (rest left) (omega (arith, w.count)) in
      let s : Selects (gates (take r list₀)) (gates (take r list)) = rw (e, append-nil (gates (take r list))) at (w.selects [] (rw z nothing)) in
      record {
        reduced = λ n f. reduced_on_lines 32 n w.shortest.valid f (selects_reduced w.shortest s);
        codes = rw e at w.codes;
        after = w.after;
      }

-- ---- the start

-- the next uses are noted, and nothing is open or marked
pub start_state : {l : List ℕ} {r : ℕ} {nt nc opened : List ℕ} → Numbers l r → r ≤ length nt → r ≤ length nc → Unopened l r nt nc opened → State l r nt nc opened (replicate 33 0) (replicate 1056 0) (replicate 33 0)
start_state {l} {opened = opened} n a b w = record {
  room_target = a;
  room_control = b;
  targets = w.targets;
  controls = w.controls;
  lines = w.lines;
  marks = record {
    size = length-replicate {A = ℕ} 1056 0;
    sites = sites_none;
    shown = λ s h e. absurd (none_has s e);
    all = λ i d o.
        let y = line Target (get_or l i 0) in
        let g = left_line n Target i d in
        let z : ◌≡◌ {A = ℕ} (get_or (replicate 33 0) y 0) 0 = get_or-replicate {A = ℕ} 33 y 0 0 g in
        absurd (omega (arith, number_some y l (get_or opened y 0) i Target o.there d refl, w.lines.count y g, z));
  };
}

code_not_zero : Code 32 0 → ⊥
code_not_zero w = omega (arith, code_not 0, ap code (gate_not 0 refl), w.exact)

pub rest_codes : (l : List ℕ) → AllCodes 32 l → rest l ≡ l
rest_codes [] f = refl
rest_codes (zero ∷ l) f = absurd (code_not_zero f.0)
rest_codes (suc k ∷ l) f = ap (λ (x : List ℕ). suc k ∷ x) (rest_codes l f.1)

-- the numbers of a circuit, of which none has been taken
module _ (left : List ℕ) (few : length left ≤ 4096) (f : AllCodes 32 left) where
  pub start_numbers : Numbers left (length left)
  start_numbers = record { size = refl; few = few; code = code }
    where
      code : (i : ℕ) → get_or left i 0 ≢ 0 → Code 32 (get_or left i 0)
      code i d = go (dec_lt i (length left))
        where
          go : Dec (i < length left) → Code 32 (get_or left i 0)
          go (yes b) = code_at 32 left i 0 b f
          go (no b) = absurd (d (get_or-eq_default left 0 (omega arith)))

  pub start_left : (i : ℕ) → i < length left → get_or left i 0 ≢ 0
  start_left i b z = code_not_zero (rw z at (code_at 32 left i 0 b f))
