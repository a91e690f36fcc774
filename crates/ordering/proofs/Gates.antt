-- Numbers and gates are ordered by their comparisons; gates compare as their numbers do, and so do lists of them. Assumes nothing.
use mathlib.Core.Path.{◌≡◌, refl, sym, ap, ◌∙◌}
use mathlib.Core.Bool.{Bool, true, false}
use mathlib.Core.List.{List, [], ◌∷◌, map}
use Prim.Native.Nat.{ℕ, ◌≤◌, ◌<◌}
use native.Mathlib.Omega.{arith}
use lib.Dec.{ltb}
use borrow.Author.Tests.{ltb-true, ltb-false, lt-ltb, le-ltb}
use Rattle.gates.specs.declared.Gate.{Gate}
use Rattle.gates.specs.declared.Gate.TheVariants.{Not, Powered}
use Rattle.gates.specs.Circuit.{target, slot, power, Valid, AllValid}
use Rattle.gates.specs.Order.{Earlier, by_target, by_control, by_power}
use Rattle.gates.specs.Code.{code, assembled, gate, gates, Code, AllCodes}
use Rattle.gates.proofs.Every.{every_map}
use Rattle.gates.proofs.Codes.{earlier_code, code_injective}
use Rattle.gates.proofs.CodeLists.{code_gates}
use Rattle.std.specs.declared.cmp.Ordering.TheVariants.{Less, Equal, Greater}
use Rattle.ordering.specs.Comparing.{turned, then, compare_numbers, compare_gates, dictionary}
use Rattle.ordering.proofs.Orders.{less_equal, less_greater, equal_greater, ThenLess, by_first, by_second, then_less, then_equal, then_first, then_second, Orders, self, on_orders, then_orders}

-- ---- numbers

-- by the order of the numbers
pub numbers_less : {m n : ℕ} → m < n → compare_numbers m n ≡ Less
unfolding compare_numbers
numbers_less {m} {n} h = rw (lt-ltb m n h)

pub numbers_equal : {m n : ℕ} → m ≡ n → compare_numbers m n ≡ Equal
unfolding compare_numbers
numbers_equal {m} {n} h = rw (le-ltb m n (omega arith), le-ltb n m (omega arith))

pub numbers_greater : {m n : ℕ} → n < m → compare_numbers m n ≡ Greater
unfolding compare_numbers
numbers_greater {m} {n} h = rw (le-ltb m n (omega arith), lt-ltb n m h)

-- how m stands to n, with how they compare
pub data Stands (m n : ℕ) : Type 0 where
  below : m < n → compare_numbers m n ≡ Less → Stands m n
  level : m ≡ n → compare_numbers m n ≡ Equal → Stands m n
  above : n < m → compare_numbers m n ≡ Greater → Stands m n

pub stands : (m n : ℕ) → Stands m n
stands m n = go (ltb m n) refl (ltb n m) refl
  where
    go : (a : Bool) → ltb m n ≡ a → (b : Bool) → ltb n m ≡ b → Stands m n
    go true d b e = let h = ltb-true m n d in below h (numbers_less h)
    go false d true e = let h = ltb-true n m e in above h (numbers_greater h)
    go false d false e = let h : m ≡ n = omega (arith, ltb-false m n d, ltb-false n m e) in level h (numbers_equal h)

-- numbers that compare as less or as equal are so
less_numbers : (m n : ℕ) → compare_numbers m n ≡ Less → m < n
less_numbers m n e = go (stands m n)
  where
    go : Stands m n → m < n
    go (below h f) = h
    go (level h f) = absurd (less_equal (sym e ∙ f))
    go (above h f) = absurd (less_greater (sym e ∙ f))

pub equal_numbers : (m n : ℕ) → compare_numbers m n ≡ Equal → m ≡ n
equal_numbers m n e = go (stands m n)
  where
    go : Stands m n → m ≡ n
    go (below h f) = absurd (less_equal (sym f ∙ e))
    go (level h f) = h
    go (above h f) = absurd (equal_greater (sym e ∙ f))

-- the answer is turned with the numbers
numbers_turns : (m n : ℕ) → compare_numbers n m ≡ turned (compare_numbers m n)
unfolding turned
numbers_turns m n = go (stands m n)
  where
    go : Stands m n → compare_numbers n m ≡ turned (compare_numbers m n)
    go (below h f) = rw f (numbers_greater h)
    go (level h f) = rw f (numbers_equal (sym h))
    go (above h f) = rw f (numbers_less h)

-- numbers are ordered
pub numbers_orders : Orders compare_numbers
numbers_orders =
    record {
      turns = numbers_turns;
      alike = λ m n k e. ap (λ i. compare_numbers i k) (equal_numbers m n e);
      chains = λ m n k d e. let i = less_numbers m n d in let j = less_numbers n k e in numbers_less (omega arith);
    }

-- ---- gates

-- "less" is document 01's order of gates
pub earlier_gates : {g h : Gate} → Earlier g h → compare_gates g h ≡ Less
unfolding compare_gates
earlier_gates (by_target l) = then_first _ _ (numbers_less l)
earlier_gates (by_control e l) = then_second _ _ (numbers_equal e) ∙ then_first _ _ (numbers_less l)
earlier_gates (by_power e f l) = then_second _ _ (numbers_equal e) ∙ then_second _ _ (numbers_equal f) ∙ numbers_less l

pub gates_earlier : (g h : Gate) → compare_gates g h ≡ Less → Earlier g h
unfolding compare_gates
gates_earlier g h e = go (then_less _ _ e)
  where
    on_target : target g ≡ target h → ThenLess (compare_numbers (slot g) (slot h)) (compare_numbers (power g) (power h)) → Earlier g h
    on_target i (by_first j) = by_control i (less_numbers _ _ j)
    on_target i (by_second j k) = by_power i (equal_numbers _ _ j) (less_numbers _ _ k)

    go : ThenLess (compare_numbers (target g) (target h)) (then (compare_numbers (slot g) (slot h)) (compare_numbers (power g) (power h))) → Earlier g h
    go (by_first i) = by_target (less_numbers _ _ i)
    go (by_second i j) = on_target (equal_numbers _ _ i) (then_less _ _ j)

-- gates are ordered
pub gates_orders : Orders compare_gates
unfolding compare_gates
gates_orders = then_orders (on_orders target numbers_orders) (then_orders (on_orders slot numbers_orders) (on_orders power numbers_orders))

-- a gate is its power, slot and target
parts : (g : Gate) → assembled (power g) (slot g) (target g) ≡ g
unfolding assembled power slot target
parts (Not t) = refl
parts (Powered p c t) = refl

-- only equal gates compare as equal
pub equal_gates : (g h : Gate) → compare_gates g h ≡ Equal → g ≡ h
unfolding compare_gates
equal_gates g h e =
    let q = then_equal _ _ e in
    let r = then_equal _ _ q.1 in
    sym (parts g) ∙ rw (equal_numbers _ _ q.0, equal_numbers _ _ r.0, equal_numbers _ _ r.1) (parts h)

-- ---- gates as numbers

module _ (n : ℕ) (b : n ≤ 32) where
  -- gates compare as their numbers do
  gates_code : (g h : Gate) → Valid n g → Valid n h → compare_gates g h ≡ compare_numbers (code g) (code h)
  unfolding turned
  gates_code g h v w = go (stands (code g) (code h))
    where
      go : Stands (code g) (code h) → compare_gates g h ≡ compare_numbers (code g) (code h)
      go (below l e) = rw e (earlier_gates ((earlier_code b v w).1 l))
      go (level l e) = rw (e, code_injective b v w l) (self gates_orders h)
      go (above l e) = rw e (gates_orders.turns h g ∙ ap turned (earlier_gates ((earlier_code b w v).1 l)))

  -- and lists of gates in dictionary order as their lists of numbers
  pub dictionary_code : (c d : List Gate) → AllValid n c → AllValid n d → dictionary compare_gates c d ≡ dictionary compare_numbers (map code c) (map code d)
  unfolding dictionary
  dictionary_code [] [] f k = refl
  dictionary_code [] (h ∷ d) f k = refl
  dictionary_code (g ∷ c) [] f k = refl
  dictionary_code (g ∷ c) (h ∷ d) f k = rw (gates_code g h f.0 k.0, dictionary_code c d f.1 k.1)

-- the gates of two lists of numbers compare in dictionary order as the numbers
pub dictionary_gates : (ks js : List ℕ) → AllCodes 32 ks → AllCodes 32 js → dictionary compare_gates (gates ks) (gates js) ≡ dictionary compare_numbers ks js
dictionary_gates ks js h i =
    dictionary_code 32 (omega arith) (gates ks) (gates js) (all_valid ks h) (all_valid js i) ∙ rw (code_gates 32 ks h, code_gates 32 js i)
  where
    all_valid : (l : List ℕ) → AllCodes 32 l → AllValid 32 (gates l)
    all_valid = every_map (Code 32) (Valid 32) gate (λ k w. w.valid)
