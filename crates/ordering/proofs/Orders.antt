-- Comparisons that order a type, and ways to make one of others: one comparison and then another, and the dictionary order of lists.
-- Assumes nothing.
use mathlib.Core.Path.{◌≡◌, refl, sym, ap, ◌∙◌}
use mathlib.Core.Logic.{◌≢◌, ◌⊎◌, inl, inr}
use mathlib.Core.List.{List, [], ◌∷◌, ◌++◌}
use Prim.Native.Nat.{ℕ, ◌-◌}
use native.Mathlib.Omega.{arith}
use Rattle.std.specs.declared.cmp.Ordering.{Ordering}
use Rattle.std.specs.declared.cmp.Ordering.TheVariants.{Less, Equal, Greater}
use Rattle.ordering.specs.Comparing.{count_of, turned, then, dictionary}

-- ---- comparisons

-- the three are three
pub less_equal : Less ≢ Equal
less_equal e = let z : ◌≡◌ {A = ℕ} 0 1 = cc in omega arith

pub less_greater : Less ≢ Greater
less_greater e = let z : ◌≡◌ {A = ℕ} 0 1 = cc in omega arith

pub equal_greater : Equal ≢ Greater
equal_greater e = let z : ◌≡◌ {A = ℕ} 0 1 = cc in omega arith

-- turned exchanges the counts 0 and 2 and leaves 1
pub count_turned : (k : Ordering) → count_of (turned k) ≡ 2 - count_of k
unfolding count_of turned
count_turned Less = refl
count_turned Equal = refl
count_turned Greater = refl

-- turning goes through "then"
turned_then : (a b : Ordering) → turned (then a b) ≡ then (turned a) (turned b)
unfolding turned then
turned_then Less b = refl
turned_then Equal b = refl
turned_then Greater b = refl

-- only equal is as it is when turned
turned_self : (k : Ordering) → k ≡ turned k → k ≡ Equal
unfolding turned
turned_self Less e = absurd (less_greater e)
turned_self Equal e = refl
turned_self Greater e = absurd (less_greater (sym e))

-- a comparison is not greater, or is not greater when turned
pub not_greater_either : (k : Ordering) → (k ≢ Greater) ⊎ (turned k ≢ Greater)
unfolding turned
not_greater_either Less = inl less_greater
not_greater_either Equal = inl equal_greater
not_greater_either Greater = inr less_greater

-- only equal is not greater both ways
pub not_greater_both : (k : Ordering) → k ≢ Greater → turned k ≢ Greater → k ≡ Equal
unfolding turned
not_greater_both Less h i = absurd (i refl)
not_greater_both Equal h i = refl
not_greater_both Greater h i = absurd (h refl)

-- a and then b can be less by a, or by b where a is equal
pub data ThenLess (a b : Ordering) : Type 0 where
  by_first : a ≡ Less → ThenLess a b
  by_second : a ≡ Equal → b ≡ Less → ThenLess a b

-- less is one of the two
pub then_less : (a b : Ordering) → then a b ≡ Less → ThenLess a b
unfolding then
then_less Less b e = by_first refl
then_less Equal b e = by_second refl e
then_less Greater b e = absurd (less_greater (sym e))

-- equal is equal by both
pub then_equal : (a b : Ordering) → then a b ≡ Equal → (a ≡ Equal) × (b ≡ Equal)
unfolding then
then_equal Less b e = absurd (less_equal e)
then_equal Equal b e = (refl, e)
then_equal Greater b e = absurd (equal_greater (sym e))

-- less by the first is less
pub then_first : (a b : Ordering) → a ≡ Less → then a b ≡ Less
unfolding then
then_first a b e = rw e

-- equal by the first is as by the second
pub then_second : (a b : Ordering) → a ≡ Equal → then a b ≡ b
unfolding then
then_second a b e = rw e

-- ---- what orders

-- f compares as an order does: the answer is turned with the arguments, what is equal compares alike, and less is transitive
pub record Orders {A : Type 0} (f : A → A → Ordering) : Type 0 where
  pub turns : (x y : A) → f y x ≡ turned (f x y)
  pub alike : (x y z : A) → f x y ≡ Equal → f x z ≡ f y z
  pub chains : (x y z : A) → f x y ≡ Less → f y z ≡ Less → f x z ≡ Less

module _ {A : Type 0} {f : A → A → Ordering} (o : Orders f) where
  -- each is equal to itself
  pub self : (x : A) → f x x ≡ Equal
  self x = turned_self (f x x) (o.turns x x)

  -- what is equal compares alike, on the right too
  alike_right : (x y z : A) → f y z ≡ Equal → f x y ≡ f x z
  alike_right x y z e = o.turns y x ∙ ap turned (o.alike y z x e) ∙ sym (o.turns z x)

  -- not greater is transitive
  pub not_greater_chains : (x y z : A) → f x y ≢ Greater → f y z ≢ Greater → f x z ≢ Greater
  not_greater_chains x y z h k = go (f x y) refl (f y z) refl
    where
      go : (a : Ordering) → f x y ≡ a → (b : Ordering) → f y z ≡ b → f x z ≢ Greater
      go Less d Less e = λ g. less_greater (sym (o.chains x y z d e) ∙ g)
      go Less d Equal e = λ g. h (alike_right x y z e ∙ g)
      go Less d Greater e = absurd (k e)
      go Equal d b e = λ g. k (sym (o.alike x y z d) ∙ g)
      go Greater d b e = absurd (h d)

  -- less is transitive by f and then by a second comparison, where it is by the second
  then_chains : (x y z : A) {a b c : Ordering} → (a ≡ Less → b ≡ Less → c ≡ Less) → then (f x y) a ≡ Less → then (f y z) b ≡ Less → then (f x z) c ≡ Less
  then_chains x y z {a} {b} {c} h d e = go (then_less _ _ d) (then_less _ _ e)
    where
      go : ThenLess (f x y) a → ThenLess (f y z) b → then (f x z) c ≡ Less
      go (by_first i) (by_first j) = then_first _ _ (o.chains x y z i j)
      go (by_first i) (by_second j q) = then_first _ _ (sym (alike_right x y z j) ∙ i)
      go (by_second i p) (by_first j) = then_first _ _ (o.alike x y z i ∙ j)
      go (by_second i p) (by_second j q) = then_second _ _ (o.alike x y z i ∙ j) ∙ h p q

-- ---- orders made of orders

-- comparing what h makes of the arguments
pub on_orders : {A B : Type 0} {f : A → A → Ordering} (h : B → A) → Orders f → Orders (λ x y. f (h x) (h y))
on_orders h o =
    record {
      turns = λ x y. o.turns (h x) (h y);
      alike = λ x y z. o.alike (h x) (h y) (h z);
      chains = λ x y z. o.chains (h x) (h y) (h z);
    }

-- one comparison, then another
pub then_orders : {A : Type 0} {f g : A → A → Ordering} → Orders f → Orders g → Orders (λ x y. then (f x y) (g x y))
then_orders o p =
    record {
      turns = λ x y. rw (o.turns x y, p.turns x y) (sym (turned_then _ _));
      alike = λ x y z e. let q = then_equal _ _ e in rw (o.alike x y z q.0, p.alike x y z q.1);
      chains = λ x y z. then_chains o x y z (p.chains x y z);
    }

-- ---- the dictionary order of lists

module _ {A : Type 0} {f : A → A → Ordering} (o : Orders f) where
  -- the first elements that differ decide
  pub first_difference : (u : List A) {x y : A} (l m : List A) → f x y ≡ Less → dictionary f (u ++ x ∷ l) (u ++ y ∷ m) ≡ Less
  unfolding dictionary
  first_difference [] l m e = then_first _ _ e
  first_difference (z ∷ u) l m e = then_second _ _ (self o z) ∙ first_difference u l m e

  -- "a list that ends sooner coming first"
  pub ends_sooner : (u : List A) (x : A) (l : List A) → dictionary f u (u ++ x ∷ l) ≡ Less
  unfolding dictionary
  ends_sooner [] x l = refl
  ends_sooner (z ∷ u) x l = then_second _ _ (self o z) ∙ ends_sooner u x l

  -- the answer is turned with the lists
  dictionary_turns : (l m : List A) → dictionary f m l ≡ turned (dictionary f l m)
  unfolding dictionary turned
  dictionary_turns [] [] = refl
  dictionary_turns [] (y ∷ m) = refl
  dictionary_turns (x ∷ l) [] = refl
  dictionary_turns (x ∷ l) (y ∷ m) = rw (o.turns x y, dictionary_turns l m) (sym (turned_then _ _))

  -- equal lists compare alike
  dictionary_alike : (l m k : List A) → dictionary f l m ≡ Equal → dictionary f l k ≡ dictionary f m k
  unfolding dictionary
  dictionary_alike [] [] k e = refl
  dictionary_alike [] (y ∷ m) k e = absurd (less_equal e)
  dictionary_alike (x ∷ l) [] k e = absurd (equal_greater (sym e))
  dictionary_alike (x ∷ l) (y ∷ m) [] e = refl
  dictionary_alike (x ∷ l) (y ∷ m) (z ∷ k) e = let q = then_equal _ _ e in rw (o.alike x y z q.0, dictionary_alike l m k q.1)

  -- less is transitive
  dictionary_chains : (l m k : List A) → dictionary f l m ≡ Less → dictionary f m k ≡ Less → dictionary f l k ≡ Less
  unfolding dictionary
  dictionary_chains [] [] k d e = e
  dictionary_chains [] (y ∷ m) [] d e = absurd (less_greater (sym e))
  dictionary_chains [] (y ∷ m) (z ∷ k) d e = refl
  dictionary_chains (x ∷ l) [] k d e = absurd (less_greater (sym d))
  dictionary_chains (x ∷ l) (y ∷ m) [] d e = absurd (less_greater (sym e))
  dictionary_chains (x ∷ l) (y ∷ m) (z ∷ k) d e = then_chains o x y z (dictionary_chains l m k) d e

  -- so lists are ordered where their elements are
  pub dictionary_orders : Orders (dictionary f)
  dictionary_orders = record { turns = dictionary_turns; alike = dictionary_alike; chains = dictionary_chains }

-- only equal lists compare as equal, where that holds of elements
pub dictionary_equal : {A : Type 0} {f : A → A → Ordering} → ((x y : A) → f x y ≡ Equal → x ≡ y) → (l m : List A) → dictionary f l m ≡ Equal → l ≡ m
unfolding dictionary
dictionary_equal h [] [] e = refl
dictionary_equal h [] (y ∷ m) e = absurd (less_equal e)
dictionary_equal h (x ∷ l) [] e = absurd (equal_greater (sym e))
dictionary_equal h (x ∷ l) (y ∷ m) e = let q = then_equal _ _ e in rw (h x y q.0, dictionary_equal h l m q.1)
