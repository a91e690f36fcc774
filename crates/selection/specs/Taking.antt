-- What the parts of the code leave: next uses noted, a run opened, the lowest gate in front taken. The set of sites `rows` has those of the gates in
-- front, and `places` has their places. Assumes nothing.
use Rattle.std.specs.Prelude.{◌≡◌, ◌≢◌, List, ◌∷◌, ℕ, suc, ◌/◌, ◌≤◌, ◌<◌, length, take, drop, get_or, set, replicate}
use Rattle.gates.specs.declared.Gate.{Gate}
use Rattle.gates.specs.Circuit.{AllValid}
use Rattle.gates.specs.Code.{gate, gates, Code, AllCodes}
use Rattle.gates.specs.Reduced.{Reduced}
use Rattle.partners.specs.Shortest.{Shortest}
use Rattle.sites.specs.Sites.{Sites, Has, Inserted}
use Rattle.selection.specs.declared.Kind.TheVariants.{Target, Control}
use Rattle.selection.specs.Selection.{Selects}
use Rattle.selection.specs.Places.{rest, Numbers, line}
use Rattle.selection.specs.Runs.{NextUses, Lines, Whole}

-- ---- the gates in front, by what is open

-- the gate of number k at place i is open on both of its lines
pub record Ready (opened : List ℕ) (k i : ℕ) : Type 0 where
  pub there : i < get_or opened (line Target k) 0
  pub back : i < get_or opened (line Control k) 0

-- the gate at place i is left, of site s, and ready
pub record Shown (l opened : List ℕ) (s i : ℕ) : Type 0 where
  pub left : get_or l i 0 ≢ 0
  pub site : get_or l i 0 / 4 ≡ s
  pub ready : Ready opened (get_or l i 0) i

-- the set has the sites of the gates that are ready, and `places` has their places
pub record Marks (l opened places rows : List ℕ) : Type 0 where
  pub size : length places ≡ 1056
  pub sites : Sites rows
  pub shown : (s : ℕ) → s < 1056 → Has rows s → Shown l opened s (get_or places s 0)
  pub all : (i : ℕ) → get_or l i 0 ≢ 0 → Ready opened (get_or l i 0) i → Has rows (get_or l i 0 / 4) × (get_or places (get_or l i 0 / 4) 0 ≡ i)

-- next uses, lines and marks
pub record State (l : List ℕ) (r : ℕ) (next_target next_control opened running places rows : List ℕ) : Type 0 where
  pub room_target : r ≤ length next_target
  pub room_control : r ≤ length next_control
  pub targets : NextUses l r opened Target next_target
  pub controls : NextUses l r opened Control next_control
  pub lines : Lines l r opened running
  pub marks : Marks l opened places rows

-- ---- what the parts do

-- the next uses of the gates' lines are noted, and nothing is open
pub record Unopened (l : List ℕ) (r : ℕ) (next_target next_control opened : List ℕ) : Type 0 where
  pub targets : NextUses l r opened Target next_target
  pub controls : NextUses l r opened Control next_control
  pub lines : Lines l r opened (replicate 33 0)

-- the gate of number k at place p is marked if it is open on its other line too
pub data Marked (opened places rows : List ℕ) (p k other : ℕ) (places' rows' : List ℕ) : Type 0 where
  ready : p < get_or opened other 0 → places' ≡ set places (k / 4) p → Inserted rows (k / 4) rows' → Marked opened places rows p k other places' rows'
  waiting : get_or opened other 0 ≤ p → places' ≡ places → rows' ≡ rows → Marked opened places rows p k other places' rows'

-- a whole run of line y is open, and the other lines are as they were
pub record Opened (l : List ℕ) (r y : ℕ) (opened running opened' running' places' rows' : List ℕ) : Type 0 where
  pub lines : Lines l r opened' running'
  pub marks : Marks l opened' places' rows'
  pub whole : Whole l r opened' running' y
  pub rises : (z : ℕ) → get_or opened z 0 ≤ get_or opened' z 0
  pub others : (z : ℕ) → z ≢ y → (get_or opened' z 0 ≡ get_or opened z 0) × (get_or running' z 0 ≡ get_or running z 0)

-- the same, with the next uses
pub record OpenedNext (l : List ℕ) (r y : ℕ) (next_target next_control opened running opened' running' places' rows' : List ℕ) : Type 0 where
  pub state : State l r next_target next_control opened' running' places' rows'
  pub whole : Whole l r opened' running' y
  pub others : (z : ℕ) → z ≢ y → (get_or opened' z 0 ≡ get_or opened z 0) × (get_or running' z 0 ≡ get_or running z 0)

-- all that a turn needs: a shortest circuit is left, and a whole run of each line is open
pub record Prepared (l : List ℕ) (r : ℕ) (next_target next_control opened running places rows : List ℕ) : Type 0 where
  pub numbers : Numbers l r
  pub shortest : Shortest 32 (gates (rest l))
  pub state : State l r next_target next_control opened running places rows
  pub whole : (y : ℕ) → y < 33 → Whole l r opened running y

-- a turn: the gate of number k is the first of a selection from l, and the others are left
pub record Taken (l : List ℕ) (r : ℕ) (next_target next_control : List ℕ) (k : ℕ) (l' opened' running' places' rows' : List ℕ) : Type 0 where
  pub code : Code 32 k
  pub size : length (rest l) ≡ suc (length (rest l'))
  pub selects : (t : List Gate) → Selects (gates (rest l')) t → Selects (gates (rest l)) (gate k ∷ t)
  pub prepared : Prepared l' r next_target next_control opened' running' places' rows'

-- the first r have become the reduced list, and nothing after them has changed
pub record Ordered (entry : List ℕ) (r : ℕ) (exit : List ℕ) : Type 0 where
  pub reduced : (n : ℕ) → AllValid n (gates (take r entry)) → Reduced n (gates (take r entry)) (gates (take r exit))
  pub codes : AllCodes 32 (take r exit)
  pub after : drop r exit ≡ drop r entry
