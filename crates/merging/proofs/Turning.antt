-- The steps in turn, and the gaps closed. Assumes nothing.
use mathlib.Core.Path.{◌≡◌, refl, sym, ap, ◌∙◌}
use mathlib.Core.Logic.{◌↔◌}
use mathlib.Core.List.{List, [], ◌∷◌, ◌++◌, append-nil}
use Prim.Native.Nat.{ℕ, suc, ◌+◌, ◌-◌, ◌%◌, ◌≤◌, ◌<◌}
use native.Mathlib.Omega.{arith}
use lib.ListN.{length, take, drop, get_or, set}
use lib.Seq.{take-suc, take-suc-set, drop-set-lt, drop-drop, get_or-drop}
use Rattle.gates.specs.declared.Gate.{Gate}
use Rattle.gates.specs.Circuit.{AllValid}
use Rattle.gates.specs.Code.{gate, gates, Code, AllCodes}
use Rattle.gates.proofs.Codes.{below}
use Rattle.gates.proofs.CodeLists.{gates_append, code_at}
use Rattle.gates.specs.Reduced.{Reduced}
use Rattle.partners.specs.Shortest.{Shortest}
use Rattle.partners.specs.Steps.{Leaves, Turns, over, turn}
use Rattle.partners.proofs.PartnerSearch.{turns_fewest, turns_reduced}
use Rattle.stacks.specs.Remaining.{kept, remaining}
use Rattle.merging.specs.Merged.{Codes, Stepped, Kept, Closed, MergedTo}
use Rattle.stacks.proofs.Remaining.{kept_none, kept_one, remaining_nil, all_remaining, remaining_suc}

-- ---- lists

-- lists with the same rest have the same later rest, and the same first element of it
pub drop_later : (x y : List ℕ) (a b : ℕ) → a ≤ b → drop a x ≡ drop a y → drop b x ≡ drop b y
drop_later x y a b h e =
    let k : a + (b - a) ≡ b = omega arith in
    rw k at (sym (drop-drop (b - a) a x) ∙ ap (λ (z : List ℕ). drop (b - a) z) e ∙ drop-drop (b - a) a y)

next : (l L : List ℕ) (i : ℕ) → drop i l ≡ drop i L → get_or l i 0 ≡ get_or L i 0
next l L i e =
    let z : i + 0 ≡ i = omega arith in
    rw z at (sym (get_or-drop i l 0 0) ∙ ap (λ (x : List ℕ). get_or x 0 0) e ∙ get_or-drop i L 0 0)

-- a gate's number, for the stacks
pub code_below : (g : ℕ) → Code 32 g → g < 4224
code_below g w = omega (arith, below {n = 32} (omega arith) w)

-- ---- the gaps closed

pub kept_removed : (l : List ℕ) (r x : ℕ) → x % 4 ≡ 0 → Kept l r x r l
kept_removed l r x e = record { front = sym (ap (λ (k : List ℕ). take r l ++ k) (kept_none x e) ∙ append-nil (take r l)); within = omega arith; rest = refl }

pub kept_there : (l : List ℕ) (r x : ℕ) → r < length l → (x % 4 ≡ 0 → ⊥) → Kept l r x (r + 1) (set l r x)
kept_there l r x h d =
    let e : r + 1 ≡ suc r = omega arith in
    record {
      front = ap (λ (k : ℕ). take k (set l r x)) e ∙ take-suc-set l r x h ∙ ap (λ (k : List ℕ). take r l ++ k) (sym (kept_one x (let z = d in omega arith)));
      within = omega arith;
      rest = drop-set-lt (r + 1) l r x (omega arith);
    }

pub closed_start : (L : List ℕ) → Closed L 0 0 L
closed_start L = record { front = sym remaining_nil; within = omega arith; rest = refl }

pub closed_more : (L l : List ℕ) (i r : ℕ) → i < length L → Closed L i r l → (r' : ℕ) (l' : List ℕ) → Kept l r (get_or l i 0) r' l' → Closed L (i + 1) r' l'
closed_more L l i r h w r' l' k = record {
  front =
      k.front
      ∙ ap (λ (x : List ℕ). x ++ kept (get_or l i 0)) w.front
      ∙ ap (λ (x : ℕ). remaining (take i L) ++ kept x) (next l L i w.rest)
      ∙ sym (remaining_suc L i h);
  within = omega (arith, k.within, w.within);
  rest = drop_later l' l (r + 1) (i + 1) (omega (arith, w.within)) k.rest ∙ drop_later l L i (i + 1) (omega arith) w.rest;
}

-- ---- the steps in turn

turns_snoc : {c d e gs : List Gate} {g : Gate} → Turns c gs d → Leaves d g e → Turns c (gs ++ g ∷ []) e
turns_snoc over s = turn s over
turns_snoc (turn r t) s = turn r (turns_snoc t s)

-- the first i of L have had their turns, and the first n places are in use
pub record Merging (L : List ℕ) (i n : ℕ) (l : List ℕ) : Type 0 where
  pub within : n ≤ i
  pub turns : Turns [] (gates (take i L)) (gates (remaining (take n l)))
  pub codes : Codes l n
  pub rest : drop i l ≡ drop i L

pub merging_start : (L : List ℕ) → Merging L 0 0 L
merging_start L = record { within = omega arith; turns = rw remaining_nil over; codes = λ j a. absurd (omega arith); rest = refl }

module _ (L l : List ℕ) (i n : ℕ) (h : i < length L) (w : Merging L i n l) where
  pub merging_code : AllCodes 32 L → Code 32 (get_or l i 0)
  merging_code cs = rw (next l L i w.rest) (code_at 32 L i 0 h cs)

  pub merging_more : (r : ℕ) (l' : List ℕ) → Stepped l n (get_or l i 0) r l' → Merging L (i + 1) r l'
  merging_more r l' s =
      let e : i + 1 ≡ suc i = omega arith in
      let q : gates (take (i + 1) L) ≡ gates (take i L) ++ gate (get_or l i 0) ∷ [] =
      ap (λ (k : ℕ). gates (take k L)) e
      ∙ ap (λ (k : List ℕ). gates k) (take-suc L i 0 h)
      ∙ gates_append (take i L) (get_or L i 0 ∷ [])
      ∙ ap (λ (k : ℕ). gates (take i L) ++ gate k ∷ []) (sym (next l L i w.rest)) in
      record {
        within = omega (arith, s.within, w.within);
        turns = rw q (turns_snoc w.turns s.leaves);
        codes = s.codes;
        rest = drop_later l' l (n + 1) (i + 1) (omega (arith, w.within)) s.rest ∙ drop_later l L i (i + 1) (omega arith) w.rest;
      }

pub merging_end : (L l : List ℕ) (m n : ℕ) → m ≤ length l → Merging L m n l → (r : ℕ) (l' : List ℕ) → Closed l n r l' → MergedTo L m r l'
merging_end L l m n h w r l' c = record {
  turns = rw c.front w.turns;
  within = omega (arith, c.within, w.within);
  codes = rw c.front (all_remaining l n (omega (arith, w.within)) w.codes);
  rest = drop_later l' l n m w.within c.rest ∙ w.rest;
}

-- ---- what is left has the fewest gates of all circuits linked to the first m, and their reduced list

module _ (k : ℕ) {entry exit : List ℕ} {m r : ℕ} (v : AllValid k (gates (take m entry))) (w : MergedTo entry m r exit) where
  pub merged_fewest : Shortest k (gates (take r exit))
  merged_fewest = turns_fewest k v w.turns

  pub merged_reduced : (d : List Gate) → Reduced k (gates (take r exit)) d ↔ Reduced k (gates (take m entry)) d
  merged_reduced d = turns_reduced k v w.turns d
