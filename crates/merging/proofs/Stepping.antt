-- One step in place: g merged into its partner at j, or pushed at place n. Assumes nothing.
use mathlib.Core.Path.{◌≡◌, refl, sym, ap, ◌∙◌}
use mathlib.Core.List.{List, [], ◌∷◌, ◌++◌, append_assoc}
use Prim.Native.Nat.{ℕ, suc, ◌+◌, ◌/◌, ◌%◌, ◌≤◌, ◌<◌}
use native.Mathlib.Omega.{arith}
use native.Mathlib.Decide.{ℕ_discrete}
use lib.ListN.{length, take, drop, get_or, set, length-map, length-set}
use lib.Seq.{take-set-lt, take-set-le, drop-set-lt, set_split, split_at, take-take, get_or-take, get_or-set_same, get_or-set_other, length-take-le}
use Rattle.gates.specs.declared.Gate.{Gate}
use Rattle.gates.specs.Circuit.{target, slot, power, Valid, valid_not, valid_powered}
use Rattle.gates.specs.Code.{code, gate, gates, Code, total, joined}
use Rattle.gates.proofs.CodeLists.{gates_append}
use Rattle.gates.proofs.Pushing.{merged}
use Rattle.partners.specs.Partner.{NoPartner}
use Rattle.partners.specs.Steps.{Leaves, partnered, alone}
use Rattle.partners.proofs.Partners.{partner_at, partner_same, merges_merged, brought_partner}
use Rattle.stacks.specs.Remaining.{kept, remaining}
use Rattle.stacks.specs.Found.{PartnerAt}
use Rattle.merging.specs.Merged.{Codes, Stepped}
use Rattle.gates.proofs.CodePairs.{same_site, merged_none, merged_one, code_joined}
use Rattle.stacks.proofs.Remaining.{kept_none, kept_one, remaining_cons, remaining_append, remaining_suc}

-- ---- lists

take_past : {A : Type 0} (u v : List A) → take (length u) (u ++ v) ≡ u
take_past [] v = refl
take_past (x ∷ u) v = ap (λ k. x ∷ k) (take_past u v)

drop_past : {A : Type 0} (u : List A) (x : A) (v : List A) → drop (suc (length u)) (u ++ x ∷ v) ≡ v
drop_past [] x v = refl
drop_past (y ∷ u) x v = drop_past u x v

get_d_past : {A : Type 0} (u : List A) (x : A) (v : List A) (d : A) → get_or (u ++ x ∷ v) (length u) d ≡ x
get_d_past [] x v d = refl
get_d_past (y ∷ u) x v d = get_d_past u x v d

-- what a merge stores is what the two gates merge to, one gate or none
gates_kept : (a g : ℕ) → Code 32 a → Code 32 g → a / 4 ≡ g / 4 → gates (kept (joined a g)) ≡ merged (gate a) (gate g)
gates_kept a g wa wg e = go (ℕ_discrete (total a g) 0)
  where
    go : Dec (total a g ≡ 0) → gates (kept (joined a g)) ≡ merged (gate a) (gate g)
    go (yes z) = ap (λ (k : List ℕ). gates k) (kept_none (joined a g) (omega arith)) ∙ sym (merged_none a g wa wg e z)
    go (no z) = ap (λ (k : List ℕ). gates k) (kept_one (joined a g) (let d = z in omega arith)) ∙ sym (merged_one a g wa wg e z)

-- ---- a partner at j

module _ (l : List ℕ) (n g j : ℕ) (h : n ≤ length l) (m : PartnerAt l n g j) where
  a : ℕ
  a = get_or l j 0

  x : ℕ
  x = joined (get_or l j 0) g

  -- what comes after the partner
  behind : List ℕ
  behind = drop (suc j) (take n l)

  around : (x : ℕ) → remaining (take j (take n l) ++ x ∷ behind) ≡ remaining (take j l) ++ (kept x ++ remaining behind)
  around x =
      ap (λ (k : List ℕ). remaining (k ++ x ∷ behind)) (take-take j n l (omega (arith, m.inside)))
      ∙ remaining_append (take j l) (x ∷ behind)
      ∙ ap (λ (k : List ℕ). remaining (take j l) ++ k) (remaining_cons x behind)

  gates_around : (x : ℕ) → gates (remaining (take j (take n l) ++ x ∷ behind)) ≡ gates (remaining (take j l)) ++ (gates (kept x) ++ gates (remaining behind))
  gates_around x =
      ap (λ (k : List ℕ). gates k) (around x)
      ∙ gates_append (remaining (take j l)) (kept x ++ remaining behind)
      ∙ ap (λ (k : List Gate). gates (remaining (take j l)) ++ k) (gates_append (kept x) (remaining behind))

  in_front : j < length (take n l)
  in_front = omega (arith, m.inside, length-take-le n l h)

  before_merge : gates (remaining (take n l)) ≡ gates (remaining (take j l)) ++ gate a ∷ gates (remaining behind)
  unfolding a behind
  before_merge =
      ap (λ (k : List ℕ). gates (remaining k)) (split_at (take n l) j 0 in_front)
      ∙ ap (λ (k : ℕ). gates (remaining (take j (take n l) ++ k ∷ behind))) (get_or-take n l j 0 m.inside)
      ∙ gates_around a
      ∙ ap (λ (k : List ℕ). gates (remaining (take j l)) ++ (gates k ++ gates (remaining behind))) (kept_one a m.there)

  after_merge : gates (remaining (take n (set l j x))) ≡ gates (remaining (take j l)) ++ (gates (kept x) ++ gates (remaining behind))
  unfolding behind
  after_merge = ap (λ (k : List ℕ). gates (remaining k)) (take-set-lt n l j x m.inside ∙ set_split (take n l) j x in_front) ∙ gates_around x

  place_length : length (gates (remaining (take j l))) ≡ length (remaining (take j l))
  place_length = length-map (remaining (take j l)) gate

  -- the gate that is brought beside g is the one at j
  brought_at : m.brought.partner ≡ gate a
  brought_at =
      let u : List Gate = gates (remaining (take j l)) in
      partner_at (brought_partner m.brought)
      ∙ ap (λ (k : ℕ). get_or (gates (remaining (take n l))) k (gate g)) (sym place_length)
      ∙ ap (λ (k : List Gate). get_or k (length u) (gate g)) before_merge
      ∙ get_d_past u (gate a) (gates (remaining behind)) (gate g)

  one_place : get_or l j 0 / 4 ≡ g / 4
  unfolding a
  one_place = same_site (get_or l j 0) g (rw brought_at at (partner_same (brought_partner m.brought)))

  leaves_merged : Code 32 (get_or l j 0) → Code 32 g → Leaves (gates (remaining (take n l))) (gate g) (gates (remaining (take n (set l j x))))
  unfolding a x
  leaves_merged wa wg =
      let u : List Gate = gates (remaining (take j l)) in
      let v : List Gate = gates (remaining behind) in
      let c : List Gate = gates (remaining (take n l)) in
      let i : ℕ = length (remaining (take j l)) in
      let b = m.brought in
      let e : b.merge ≡ gates (kept x) = sym (merges_merged b.merges) ∙ ap (λ (k : Gate). merged k (gate g)) brought_at ∙ sym (gates_kept a g wa wg one_place) in
      let s : length u ≡ i = place_length in
      let t : take i c ≡ u = ap (λ (k : ℕ). take k c) (sym s) ∙ ap (λ (k : List Gate). take (length u) k) before_merge ∙ take_past u (gate a ∷ v) in
      let d : drop (suc i) c ≡ v = ap (λ (k : ℕ). drop (suc k) c) (sym s) ∙ ap (λ (k : List Gate). drop (suc (length u)) k) before_merge ∙ drop_past u (gate a) v in
      let q : take i c ++ b.merge ++ drop (suc i) c ≡ gates (remaining (take n (set l j x))) = rw (t, e, d) (append_assoc u (gates (kept x)) v ∙ sym after_merge) in
      rw q at (partnered b)

  place_merged : (P : ℕ → ℕ → Type 0) → P j x → ((i : ℕ) → (i ≡ j → ⊥) → P i (get_or l i 0)) → (i : ℕ) → P i (get_or (set l j x) i 0)
  place_merged P px po i = go (ℕ_discrete i j)
    where
      go : Dec (i ≡ j) → P i (get_or (set l j x) i 0)
      go (yes d) = rw (d, get_or-set_same l j x 0 (omega (arith, m.inside))) px
      go (no d) = rw (get_or-set_other l j i x 0 d) (po i d)

  codes_merged : Codes l n → Code 32 g → Codes (set l j x) n
  unfolding x
  codes_merged cs wg =
      place_merged (λ i k. i < n → 1 ≤ k % 4 → Code 32 k)
      (λ b c. code_joined (get_or l j 0) g (cs j m.inside m.there) wg one_place (λ z. omega arith))
      (λ i d b c. cs i b c)

  -- of the list that the code has stored
  pub stepped_merged : (l' : List ℕ) → l' ≡ set l j (joined (get_or l j 0) g) → Codes l n → Code 32 g → Stepped l n g n l'
  unfolding x
  stepped_merged l' e cs wg = rw e (record {
    leaves = leaves_merged (cs j m.inside m.there) wg;
    within = omega arith;
    codes = codes_merged cs wg;
    rest = drop-set-lt (n + 1) l j x (omega (arith, m.inside));
  })

-- ---- no partner

valid_there : {h : Gate} → Valid 32 h → 1 ≤ code h % 4
unfolding code target slot power
valid_there (valid_not a) = omega arith
valid_there (valid_powered a b c d e) = omega arith

code_there : (g : ℕ) → Code 32 g → 1 ≤ g % 4
code_there g w = rw w.exact at (valid_there w.valid)

module _ (l : List ℕ) (n g : ℕ) (h : n < length l) where
  same_before : (i : ℕ) → i < n → get_or (set l n g) i 0 ≡ get_or l i 0
  same_before i a = get_or-set_other l n i g 0 (λ e. omega arith)

  same_at : get_or (set l n g) n 0 ≡ g
  same_at = get_or-set_same l n g 0 h

  leaves_pushed : Code 32 g → NoPartner (gates (remaining (take n l))) (gate g) → Leaves (gates (remaining (take n l))) (gate g) (gates (remaining (take (n + 1) (set l n g))))
  leaves_pushed wg none =
      let e : gates (remaining (take (n + 1) (set l n g))) ≡ gates (remaining (take n l)) ++ gate g ∷ [] =
      ap (λ (k : List ℕ). gates k)
      (remaining_suc (set l n g) n (omega (arith, length-set l n g))
      ∙ ap (λ (k : List ℕ). remaining k ++ kept (get_or (set l n g) n 0)) (take-set-le n l n g (omega arith))
      ∙ ap (λ (k : ℕ). remaining (take n l) ++ kept k) same_at
      ∙ ap (λ (k : List ℕ). remaining (take n l) ++ k) (kept_one g (code_there g wg)))
      ∙ gates_append (remaining (take n l)) (g ∷ []) in
      rw e (alone none)

  codes_pushed : Codes l n → Code 32 g → Codes (set l n g) (n + 1)
  codes_pushed cs wg i a b = go (ℕ_discrete i n)
    where
      go : Dec (i ≡ n) → Code 32 (get_or (set l n g) i 0)
      go (yes e) = rw (e, same_at) wg
      go (no e) = let k : i < n = let z = e in omega arith in rw (same_before i k) (cs i k (rw (same_before i k) at b))

  pub stepped_pushed : (l' : List ℕ) → l' ≡ set l n g → Codes l n → Code 32 g → NoPartner (gates (remaining (take n l))) (gate g) → Stepped l n g (n + 1) l'
  stepped_pushed l' e cs wg none = rw e (record {
    leaves = leaves_pushed wg none;
    within = omega arith;
    codes = codes_pushed cs wg;
    rest = drop-set-lt (n + 1) l n g (omega arith);
  })
