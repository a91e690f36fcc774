-- What is to be shown of compare, in the papers' words: the numbers by document 01's table, what refusals and success leave, and that it is a
-- total order on linked classes. Assumes nothing.
use Rattle.std.specs.Prelude.{ℕ, ◌-◌, ◌≤◌, ◌≡◌, ◌↔◌, ◌⊎◌, List, [], ◌∷◌, length}
use Rattle.gates.specs.declared.Gate.{Gate}
use Rattle.gates.specs.Circuit.{Linked}
use Rattle.gates.specs.Reduced.{Reduced}
use Rattle.text.specs.Heads.{unkept}
use Rattle.text.specs.declared.Head.{Head}
use Rattle.text.specs.declared.Kind.TheVariants.{Circuit}
use Rattle.ordering.specs.Comparing.{count_of, compare_lists}
use Rattle.habits.specs.Habits.{Exit}
use Rattle.habits.specs.Demands.{Refuses, Accepts, RefusalLeaves, Holds}
use Rattle.comparison.specs.Compare.{Compare}

-- ---- the numbers, and what is left

-- the table: number, line and text number, for the texts s and t and the lists l and m
pub data Due (s : List ℕ) (l : List Gate) (t : List ℕ) (m : List Gate) : ℕ → ℕ → ℕ → Type 0 where
  -- "Refusals come in the texts' order, with the text number"
  by_first : {n i : ℕ} → Refuses Circuit s (length l ∷ []) n i → Due s l t m n i 1
  by_second : {n i : ℕ} {g : Head} {c : List Gate} → Accepts Circuit s (length l ∷ []) g c → Refuses Circuit t (length m ∷ []) n i → Due s l t m n i 2
  -- success: number 0, line 0, text number 0
  no_refusal : {g h : Head} {c d : List Gate} → Accepts Circuit s (length l ∷ []) g c → Accepts Circuit t (length m ∷ []) h d → Due s l t m 0 0 0

-- what success leaves
pub record SuccessLeaves (s : List ℕ) (l : List Gate) (t : List ℕ) (m : List Gate) (x : Exit) : Type 0 where
  -- the two texts show these circuits, with these reduced lists
  pub head_1 : Head
  pub circuit_1 : List Gate
  pub head_2 : Head
  pub circuit_2 : List Gate
  pub accepts_1 : Accepts Circuit s (length l ∷ []) head_1 circuit_1
  pub accepts_2 : Accepts Circuit t (length m ∷ []) head_2 circuit_2
  pub reduced_1 : List Gate
  pub reduced_2 : List Gate
  pub is_reduced_1 : Reduced head_1.lines circuit_1 reduced_1
  pub is_reduced_2 : Reduced head_2.lines circuit_2 reduced_2
  -- "On success a list holds .. the reduced list where it compares reduced lists"
  pub list_1 : List Gate
  pub list_2 : List Gate
  pub lists : x.lent.lists ≡ list_1 ∷ list_2 ∷ []
  pub holds_1 : Holds reduced_1 l list_1
  pub holds_2 : Holds reduced_2 m list_2
  -- "says less, equal or greater (count 0, 1, 2)"
  pub counted : x.count ≡ count_of (compare_lists head_1.lines reduced_1 head_2.lines reduced_2)

pub record Demand (s : List ℕ) (l : List Gate) (t : List ℕ) (m : List Gate) (x : Exit) : Type 0 where
  -- a number is given, with its line and its text number, exactly if the table says so
  pub by_table : (n i u : ℕ) → ((x.number ≡ n) × (x.line ≡ i) × (x.text ≡ u)) ↔ Due s l t m n i u
  pub refusal_leaves : 1 ≤ x.number → RefusalLeaves l m x
  pub success_leaves : x.number ≡ 0 → SuccessLeaves s l t m x

-- ---- a total order

-- compare was run on two texts that show the circuit c on n lines and the circuit d on m lines, and its count was k
pub record Ran (n : ℕ) (c : List Gate) (m : ℕ) (d : List Gate) (k : ℕ) : Type 0 where
  pub text_1 : List ℕ
  pub list_1 : List Gate
  pub text_2 : List ℕ
  pub list_2 : List Gate
  pub accepts_1 : Accepts Circuit text_1 (length list_1 ∷ []) (unkept n) c
  pub accepts_2 : Accepts Circuit text_2 (length list_2 ∷ []) (unkept m) d
  pub exit : Exit
  pub says : Compare text_1 list_1 text_2 list_2 exit
  pub counted : exit.count ≡ k

-- "It is a total order on linked classes": 0 is less, 1 equal, 2 greater
pub record TotalOrder : Type 0 where
  -- "Equal on the same line count must mean linked"; on different numbers of lines never equal
  pub equal : {n m : ℕ} {c d : List Gate} {k : ℕ} → Ran n c m d k → (k ≡ 1) ↔ ((n ≡ m) × Linked n c d)
  -- one answer for two classes: it is kept when a circuit is replaced by a linked one, and when texts and lists are others
  pub one : {n m : ℕ} {c c' d d' : List Gate} {k j : ℕ} → Linked n c c' → Linked m d d' → Ran n c m d k → Ran n c' m d' j → k ≡ j
  -- exchanging the texts exchanges less and greater
  pub exchanged : {n m : ℕ} {c d : List Gate} {k j : ℕ} → Ran n c m d k → Ran m d n c j → j ≡ 2 - k
  pub reflexive : {n : ℕ} {c : List Gate} {k : ℕ} → Ran n c n c k → k ≤ 1
  pub total : {n m : ℕ} {c d : List Gate} {k j : ℕ} → Ran n c m d k → Ran m d n c j → (k ≤ 1) ⊎ (j ≤ 1)
  pub transitive : {n m o : ℕ} {c d e : List Gate} {k j i : ℕ} → Ran n c m d k → Ran m d o e j → Ran n c o e i → k ≤ 1 → j ≤ 1 → i ≤ 1
  pub antisymmetric : {n m : ℕ} {c d : List Gate} {k j : ℕ} → Ran n c m d k → Ran m d n c j → k ≤ 1 → j ≤ 1 → (n ≡ m) × Linked n c d
