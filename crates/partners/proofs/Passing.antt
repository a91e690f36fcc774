-- A shortest circuit reaches its reduced list by passes alone, and partners go along with passes. Assumes nothing.
use mathlib.Core.Path.{◌≡◌, refl}
use mathlib.Core.List.{List, [], ◌∷◌, ◌++◌}
use Prim.Native.Nat.{ℕ, zero, suc, ◌+◌, ◌%◌, ◌≤◌}
use native.Mathlib.Omega.{arith}
use lib.ListN.{length, length-append}
use Rattle.gates.specs.declared.Gate.{Gate}
use Rattle.gates.specs.declared.Gate.TheVariants.{Not, Powered}
use Rattle.gates.specs.Circuit.{AllValid, Passes, powered, Rewrite, pass, merge, cancel, step, Reaches, stop, more}
use Rattle.gates.proofs.Sites.{passes_sym, passes_same_right}
use Rattle.gates.specs.Sites.{Free, free_cons}
use Rattle.gates.proofs.Chains.{reaches_linked}
use Rattle.gates.proofs.Theorem.{nf, nf_reached}
use Rattle.partners.specs.Shortest.{Shortest}
use Rattle.partners.proofs.Partners.{Partner, here, later}

-- a chain of passes alone between circuits
pub data Passing : List Gate → List Gate → Type 0 where
  none : {c : List Gate} → Passing c c
  next : (u : List Gate) (x y : Gate) (v : List Gate) {d : List Gate} → Passes x y → Passing (u ++ (y ∷ x ∷ []) ++ v) d → Passing (u ++ (x ∷ y ∷ []) ++ v) d

-- ---- forward steps that do not shorten are passes

length_between : (u x v : List Gate) → length (u ++ x ++ v) ≡ length u + length x + length v
length_between u x v = omega (arith, length-append (u ++ x) v, length-append u x)

length_powered : (p c t : ℕ) → length (powered p c t) ≤ 1
unfolding powered
length_powered zero c t = omega arith
length_powered (suc p) c t = omega arith

rewrite_length : {x y : List Gate} → Rewrite x y → length y ≤ length x
rewrite_length (pass p) = omega arith
rewrite_length (merge p q c t) = omega (arith, length_powered ((p + q) % 4) c t)
rewrite_length (cancel t) = omega arith

module _ {n : ℕ} where
  reaches_length : {c d : List Gate} → Reaches n c d → length d ≤ length c
  reaches_length stop = omega arith
  reaches_length (more (step u v {x} {y} w f k) r) = omega (arith, reaches_length r, rewrite_length w, length_between u x v, length_between u y v)

  pub reaches_passing : {c d : List Gate} → Reaches n c d → length c ≤ length d → Passing c d
  reaches_passing stop h = none
  reaches_passing (more (step u v (pass {g} {h} p) f k) r) b =
      next u g h v p (reaches_passing r (omega (arith, length_between u (g ∷ h ∷ []) v, length_between u (h ∷ g ∷ []) v)))
  reaches_passing (more (step u v (merge p q c t) f k) r) b =
      absurd (omega (arith, reaches_length r, length_powered ((p + q) % 4) c t, length_between u (Powered p c t ∷ Powered q c t ∷ []) v, length_between u (powered ((p + q) % 4) c t) v))
  reaches_passing (more (step u v (cancel t) f k) r) b =
      absurd (omega (arith, reaches_length r, length_between u (Not t ∷ Not t ∷ []) v, length_between u [] v))

  -- so a shortest circuit comes to its reduced list by passes alone
  pub shortest_passing : {c : List Gate} → Shortest n c → Passing c (nf c)
  shortest_passing {c} w = let r = nf_reached n c w.valid in reaches_passing r (w.fewest (nf c) (reaches_linked r))

pub passing_length : {c d : List Gate} → Passing c d → length c ≡ length d
passing_length none = refl
passing_length (next u x y v p r) = omega (arith, passing_length r, length_between u (x ∷ y ∷ []) v, length_between u (y ∷ x ∷ []) v)

-- ---- they are chains of steps

all_valid_swap : (n : ℕ) (u : List Gate) (x y : Gate) (v : List Gate) → AllValid n (u ++ (x ∷ y ∷ []) ++ v) → AllValid n (u ++ (y ∷ x ∷ []) ++ v)
all_valid_swap n [] x y v h = (h.1.0, (h.0, h.1.1))
all_valid_swap n (z ∷ u) x y v h = (h.0, all_valid_swap n u x y v h.1)

pub passing_reaches : {n : ℕ} {c d : List Gate} → AllValid n c → Passing c d → Reaches n c d
passing_reaches h none = stop
passing_reaches {n} h (next u x y v p r) = let k = all_valid_swap n u x y v h in more (step u v (pass p) h k) (passing_reaches k r)

-- ---- partners go along with passes

free_swap : {g : Gate} (u : List Gate) (x y : Gate) (v : List Gate) → Free g (u ++ (x ∷ y ∷ []) ++ v) → Free g (u ++ (y ∷ x ∷ []) ++ v)
free_swap [] x y v (free_cons p (free_cons q f)) = free_cons q (free_cons p f)
free_swap (z ∷ u) x y v (free_cons p f) = free_cons p (free_swap u x y v f)

-- a is a partner of g somewhere in c
abbrev pub Has : Gate → Gate → List Gate → Type 0
Has g a c = (i : ℕ) × Partner g a c i

partner_swap : {g a : Gate} {i : ℕ} (u : List Gate) (x y : Gate) (v : List Gate) → Passes x y → Partner g a (u ++ (x ∷ y ∷ []) ++ v) i → Has g a (u ++ (y ∷ x ∷ []) ++ v)
partner_swap [] x y v p (here s (free_cons q f)) = (1, later (here s f))
partner_swap [] x y v p (later (here s f)) = (0, here s (free_cons (passes_sym (passes_same_right s p)) f))
partner_swap [] x y v p (later (later {i = i} w)) = (suc (suc i), later (later w))
partner_swap (z ∷ u) x y v p (here s f) = (0, here s (free_swap u x y v f))
partner_swap (z ∷ u) x y v p (later w) = let r = partner_swap u x y v p w in (suc r.0, later r.1)

pub partner_forth : {g a : Gate} {c d : List Gate} → Passing c d → Has g a c → Has g a d
partner_forth none w = w
partner_forth (next u x y v p r) w = partner_forth r (partner_swap u x y v p w.1)

pub partner_back : {g a : Gate} {c d : List Gate} → Passing c d → Has g a d → Has g a c
partner_back none w = w
partner_back (next u x y v p r) w = partner_swap u y x v (passes_sym p) (partner_back r w).1
