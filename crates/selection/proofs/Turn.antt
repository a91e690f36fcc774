-- A turn: the gate of the lowest site in front is taken. Assumes nothing.
use mathlib.Core.Path.{◌≡◌, sym, ap, ◌∙◌}
use mathlib.Core.Logic.{◌≢◌, ◌↔◌}
use mathlib.Core.List.{List, ◌∷◌, ◌++◌}
use Prim.Native.Nat.{ℕ, suc, ◌+◌, ◌-◌, ◌*◌, ◌/◌, ◌≤◌, ◌<◌}
use native.Mathlib.Omega.{arith}
use native.Mathlib.Decide.{ℕ_discrete, dec_lt}
use lib.ListN.{length, take, drop, get_or, set, length-set, length-append}
use lib.Seq.{get_or-set_other}
use Rattle.gates.specs.declared.Gate.{Gate}
use Rattle.gates.specs.Code.{gate, gates, Code}
use Rattle.gates.specs.Sites.{Same, Less, low, tie, Front}
use Rattle.gates.proofs.Codes.{target_gate, slot_gate}
use Rattle.gates.proofs.CodeLists.{gates_append}
use Rattle.gates.proofs.Sites.{same_less}
use Rattle.partners.specs.Shortest.{Shortest}
use Rattle.partners.proofs.Shortest.{shortest_tail}
use Rattle.sites.specs.Sites.{Has, Removed, Lowest}
use Rattle.selection.specs.declared.Kind.{Kind}
use Rattle.selection.specs.declared.Kind.TheVariants.{Target, Control}
use Rattle.selection.specs.Places.{opposite}
use Rattle.selection.specs.Selection.{Selects, select}
use Rattle.selection.specs.Places.{rest, Numbers, line, InFront, Single}
use Rattle.selection.specs.Runs.{Uses, NextUse, NextUses, number, Lines, Differs, Whole}
use Rattle.selection.specs.Taking.{Ready, Shown, Marks, State, OpenedNext, Prepared, Taken}
use Rattle.selection.proofs.Fronts.{slide, passing_shortest}
use Rattle.selection.proofs.Places.{rest_at, rest_taken, front_place, place_in_front, some_front, in_front_free, lines_differ, shortest_single}
use Rattle.selection.proofs.Counting.{use_none, use_one, number_some, number_use, number_taken, number_kept}
use Rattle.selection.proofs.Opening.{Read, new, old, read, Kinds, same, other, kinds, left_within, left_below, left_line, ready_front, ready_line}
use Rattle.selection.proofs.Running.{whole_kept}

-- ---- where a whole run of each line is open, what is in front is ready

site_order : (k g : ℕ) → Less (gate k) (gate g) → k / 4 < g / 4
site_order k g (low h) = omega (arith, target_gate k, target_gate g)
site_order k g (tie e h) = omega (arith, target_gate k, target_gate g, slot_gate k, slot_gate g)

module _ (l : List ℕ) (r : ℕ) (opened running : List ℕ) (n : Numbers l r) (v : Lines l r opened running) (whole : (y : ℕ) → y < 33 → Whole l r opened running y) (i : ℕ) (w : InFront l i) where
  unblocked : (b : Kind) (j : ℕ) → j < i → get_or l j 0 ≢ 0 → line (opposite b) (get_or l j 0) ≢ line b (get_or l i 0)
  unblocked Target = w.there
  unblocked Control = w.back

  -- the first use that is not open is not before the gate: it, or an open one, would block the gate
  blocked : (b : Kind) (h j : ℕ) (d e : Kind) → h ≤ i → j < h → get_or l h 0 ≢ 0 → get_or l j 0 ≢ 0 → line d (get_or l h 0) ≡ line b (get_or l i 0) → line e (get_or l j 0) ≡ line b (get_or l i 0)
      → line d (get_or l j 0) ≢ line b (get_or l i 0) → Kinds b d → Kinds b e → Dec (h ≡ i) → ⊥
  blocked b h j d e a c x z o q f (same s) (same t) k = f (rw (sym s ∙ t) q)
  blocked b h j d e a c x z o q f (same s) (other t) k = unblocked b j (omega arith) z (rw t q)
  blocked b h j d e a c x z o q f (other s) t (yes k) =
      let u : line (opposite b) (get_or l h 0) ≡ line b (get_or l i 0) = rw s o in
      lines_differ b (get_or l i 0) (n.code i w.left) (sym (ap (λ (x : ℕ). line (opposite b) (get_or l x 0)) (sym k) ∙ u))
  blocked b h j d e a c x z o q f (other s) t (no k) = unblocked b h (omega arith) x (rw s o)

  past : (b : Kind) → i < get_or opened (line b (get_or l i 0)) 0
  past b = go (dec_lt i (get_or opened (line b (get_or l i 0)) 0))
    where
      go : Dec (i < get_or opened (line b (get_or l i 0)) 0) → i < get_or opened (line b (get_or l i 0)) 0
      go (yes a) = a
      go (no a) =
          let y = line b (get_or l i 0) in
          let h = get_or opened y 0 in
          let g = left_line n b i w.left in
          let k : h < r = omega (arith, left_within n i w.left) in
          let u = (v.each y g).found k in
          let x = whole y g k in
          let z = number_use y l h (λ e. x.0 (v.count y g ∙ e)) in
          absurd (blocked b h z.0 u.kind z.2.kind (omega arith) z.1 u.left z.2.left u.own z.2.own (x.1 u.kind u.own z.0 z.1 z.2.left) (kinds b u.kind) (kinds b z.2.kind) (ℕ_discrete h i))

  pub front_ready : Ready opened (get_or l i 0) i
  front_ready = record { there = past Target; back = past Control }

-- so what is open tells exactly what is in front
pub in_front_exactly : (l : List ℕ) (r : ℕ) (opened running : List ℕ) → Numbers l r → Lines l r opened running → ((y : ℕ) → y < 33 → Whole l r opened running y) → (i : ℕ) → InFront l i ↔ ((get_or l i 0 ≢ 0) × Ready opened (get_or l i 0) i)
in_front_exactly l r opened running n v whole i = (λ w. (w.left, front_ready l r opened running n v whole i w), λ t. ready_front n v t.0 t.1)

module _ {l : List ℕ} {r : ℕ} {nt nc opened running places rows : List ℕ} (w : Prepared l r nt nc opened running places rows) where
  -- each site in front is in the set
  front_marked : (s : Gate) → Front s (gates (rest l)) → (k : ℕ) × Same (gate k) s × Has rows (k / 4) × (k < 4224)
  front_marked s f =
      let u = front_place s l f in
      let a = place_in_front u.1 in
      (get_or l u.0 0, u.1.site, (w.state.marks.all u.0 a.left (front_ready l r opened running w.numbers w.state.lines w.whole u.0 a)).0, left_below w.numbers u.0 a.left)

  -- so while gates are left there is one
  pub some_mark : 0 < length (rest l) → (s : ℕ) × (s < 1056) × Has rows s
  some_mark h = let f = some_front l h in let u = front_marked f.0 f.1 in (u.0 / 4, omega (arith, u.3), u.2)

  -- ---- the gate of target t and slot s, the lowest in the set, is taken

  module _ {t s : ℕ} (p : ℕ) (b : Lowest rows t s) (at : get_or places (t * 33 + s) 0 ≡ p) where
    n : Numbers l r
    n = w.numbers

    shown : Shown l opened (t * 33 + s) p
    shown = rw at at (w.state.marks.shown (t * 33 + s) (omega (arith, b.target, b.slot)) b.there)

    pub turn_inside : p < r
    turn_inside = left_within n p shown.left

    pub turn_room : p < length l
    turn_room = omega (arith, turn_inside, n.size)

    pub turn_code : Code 32 (get_or l p 0)
    turn_code = n.code p shown.left

    -- its lines
    own_target : line Target (get_or l p 0) ≡ t + 1
    own_target = omega (arith, shown.site, b.slot)

    own_control : line Control (get_or l p 0) ≡ s
    own_control = omega (arith, shown.site, b.slot)

    pub slot_differs : s ≢ t + 1
    slot_differs e = lines_differ Target (get_or l p 0) turn_code (own_target ∙ sym (own_control ∙ e))

    open_target : p < get_or opened (t + 1) 0
    open_target = rw own_target at shown.ready.there

    open_control : p < get_or opened s 0
    open_control = rw own_control at shown.ready.back

    pub turn_counts : (1 ≤ get_or running (t + 1) 0) × (1 ≤ get_or running s 0)
    turn_counts = (
      omega (arith, number_some (t + 1) l (get_or opened (t + 1) 0) p Target open_target shown.left own_target, w.state.lines.count (t + 1) (omega (arith, b.target))),
      omega (arith, number_some s l (get_or opened s 0) p Control open_control shown.left own_control, w.state.lines.count s b.slot),
    )

    -- ---- what is left

    record Kept (j : ℕ) : Type 0 where
      other : j ≢ p
      same : get_or (set l p 0) j 0 ≡ get_or l j 0

    kept : (j : ℕ) → get_or (set l p 0) j 0 ≢ 0 → Kept j
    kept j d = go (read l p 0 j turn_room)
      where
        go : Read l p 0 j → Kept j
        go (new e v) = absurd (d v)
        go (old e v) = record { other = e; same = v }

    stays : (j : ℕ) → j ≢ p → get_or (set l p 0) j 0 ≡ get_or l j 0
    stays j d = get_or-set_other l p j 0 0 d

    kept_left : (j : ℕ) → get_or (set l p 0) j 0 ≢ 0 → get_or l j 0 ≢ 0
    kept_left j d = rw (kept j d).same at d

    pub turn_numbers : Numbers (set l p 0) r
    turn_numbers = record {
      size = length-set l p 0 ∙ n.size;
      few = n.few;
      code = λ i d. rw (kept i d).same (n.code i (kept_left i d));
    }

    -- ---- lines

    uses_kept : (y q : ℕ) → q ≢ p → Uses l y q → Uses (set l p 0) y q
    uses_kept y q d u = let e = stays q d in record { left = rw e u.left; kind = u.kind; own = rw e u.own }

    -- a use that is not open is not the gate's
    not_open : (y q : ℕ) → get_or opened y 0 ≤ q → Uses l y q → q ≢ p
    not_open y q h u e =
        let own : line u.kind (get_or l p 0) ≡ y = rw e at u.own in
        let o : p < get_or opened y 0 = rw own at (ready_line u.kind shown.ready) in
        omega arith

    next_kept : (y a q : ℕ) → get_or opened y 0 ≤ a → NextUse l r y a q → NextUse (set l p 0) r y a q
    next_kept y a q h u = record {
      from = u.from;
      within = u.within;
      gap = λ j c e d. rw (kept j d).same (u.gap j c e (kept_left j d));
      found = λ c. uses_kept y q (not_open y q (omega (arith, u.from)) (u.found c)) (u.found c);
    }

    next_uses_kept : (c : Kind) (next : List ℕ) → NextUses l r opened c next → NextUses (set l p 0) r opened c next
    next_uses_kept c next f i d =
        let e = (kept i d).same in
        rw e (λ h. next_kept (line c (get_or l i 0)) (suc i) (get_or next i 0) (omega arith) (f i (kept_left i d) h))

    module _ (running' : List ℕ) (stored : running' ≡ set (set running (t + 1) (get_or running (t + 1) 0 - 1)) s (get_or (set running (t + 1) (get_or running (t + 1) 0 - 1)) s 0 - 1)) where
      first : (y : ℕ) → Read running (t + 1) (get_or running (t + 1) 0 - 1) y
      first y = read running (t + 1) (get_or running (t + 1) 0 - 1) y (omega (arith, b.target, w.state.lines.counts))

      second : (y : ℕ) → Read (set running (t + 1) (get_or running (t + 1) 0 - 1)) s (get_or (set running (t + 1) (get_or running (t + 1) 0 - 1)) s 0 - 1) y
      second y = read (set running (t + 1) (get_or running (t + 1) 0 - 1)) s (get_or (set running (t + 1) (get_or running (t + 1) 0 - 1)) s 0 - 1) y (omega (arith, b.slot, w.state.lines.counts, length-set running (t + 1) (get_or running (t + 1) 0 - 1)))

      -- the counts of its lines are one less, the others are as they were
      counts_less : (y : ℕ) (c : Kind) → y < 33 → line c (get_or l p 0) ≡ y → number y (set l p 0) (get_or opened y 0) ≡ get_or running y 0 - 1
      counts_less y c g own =
          let o : p < get_or opened y 0 = rw own at (ready_line c shown.ready) in
          omega (arith, number_taken y l p (get_or opened y 0) o, use_one y (get_or l p 0) c shown.left own, w.state.lines.count y g)

      counts_same : (y : ℕ) → y < 33 → y ≢ t + 1 → y ≢ s → number y (set l p 0) (get_or opened y 0) ≡ get_or running y 0
      counts_same y g d e = go (dec_lt p (get_or opened y 0))
        where
          off : (c : Kind) → line c (get_or l p 0) ≢ y
          off Target z = d (sym z ∙ own_target)
          off Control z = e (sym z ∙ own_control)

          go : Dec (p < get_or opened y 0) → number y (set l p 0) (get_or opened y 0) ≡ get_or running y 0
          go (yes h) = omega (arith, number_taken y l p (get_or opened y 0) h, use_none y (get_or l p 0) (λ x. off), w.state.lines.count y g)
          go (no h) = omega (arith, number_kept y l p (get_or opened y 0) (omega arith), w.state.lines.count y g)

      pub others_kept : (y : ℕ) → y ≢ t + 1 → y ≢ s → get_or running' y 0 ≡ get_or running y 0
      others_kept y d e = go (second y) (first y)
        where
          go : Read (set running (t + 1) (get_or running (t + 1) 0 - 1)) s (get_or (set running (t + 1) (get_or running (t + 1) 0 - 1)) s 0 - 1) y → Read running (t + 1) (get_or running (t + 1) 0 - 1) y → get_or running' y 0 ≡ get_or running y 0
          go (new z v) u = absurd (e z)
          go (old z v) (new z' v') = absurd (d z')
          go (old z v) (old z' v') = ap (λ (x : List ℕ). get_or x y 0) stored ∙ v ∙ v'

      count_taken : (y : ℕ) → y < 33 → get_or running' y 0 ≡ number y (set l p 0) (get_or opened y 0)
      count_taken y g = rw stored (go (second y) (first y))
        where
          go : Read (set running (t + 1) (get_or running (t + 1) 0 - 1)) s (get_or (set running (t + 1) (get_or running (t + 1) 0 - 1)) s 0 - 1) y → Read running (t + 1) (get_or running (t + 1) 0 - 1) y
              → get_or (set (set running (t + 1) (get_or running (t + 1) 0 - 1)) s (get_or (set running (t + 1) (get_or running (t + 1) 0 - 1)) s 0 - 1)) y 0 ≡ number y (set l p 0) (get_or opened y 0)
          go (new z v) u =
              let e : get_or (set running (t + 1) (get_or running (t + 1) 0 - 1)) s 0 ≡ get_or running s 0 = get_or-set_other running (t + 1) s (get_or running (t + 1) 0 - 1) 0 slot_differs in
              v ∙ ap (λ (x : ℕ). x - 1) e ∙ sym (rw z (counts_less s Control b.slot own_control))
          go (old z v) (new z' v') = v ∙ v' ∙ sym (rw z' (counts_less (t + 1) Target (omega (arith, b.target)) own_target))
          go (old z v) (old z' v') = v ∙ v' ∙ sym (counts_same y g z' z)

      lines_taken : Lines (set l p 0) r opened running'
      lines_taken = record {
        places = w.state.lines.places;
        counts = ap length stored ∙ length-set (set running (t + 1) (get_or running (t + 1) 0 - 1)) s _ ∙ length-set running (t + 1) _ ∙ w.state.lines.counts;
        each = λ y g.
            let u = w.state.lines.each y g in
            record {
              within = u.within;
              found = λ h. uses_kept y (get_or opened y 0) (not_open y (get_or opened y 0) (omega arith) (u.found h)) (u.found h);
              alike = λ i j c d x z e f. u.alike i j c d (kept_left i x) (kept_left j z) (rw (kept i x).same at e) (rw (kept j z).same at f);
            };
        count = count_taken;
      }

      -- ---- marks

      marks_taken : (rows' : List ℕ) → Removed rows (t * 33 + s) rows' → Marks (set l p 0) opened places rows'
      marks_taken rows' q = record {
        size = w.state.marks.size;
        sites = q.sites;
        shown = λ x g h. taken_shown x g h (ℕ_discrete x (t * 33 + s));
        all = λ i d o. taken_all i d (rw (kept i d).same at o);
      }
        where
          taken_shown : (x : ℕ) → x < 1056 → Has rows' x → Dec (x ≡ t * 33 + s) → Shown (set l p 0) opened x (get_or places x 0)
          taken_shown x g h (yes e) = absurd (q.gone (rw e at h))
          taken_shown x g h (no e) =
              let u = w.state.marks.shown x g (q.was x g h) in
              let d : get_or places x 0 ≢ p = λ z. e (sym u.site ∙ ap (λ (i : ℕ). get_or l i 0 / 4) z ∙ shown.site) in
              let c = stays (get_or places x 0) d in
              record { left = rw c u.left; site = rw c u.site; ready = rw c u.ready }

          taken_all : (i : ℕ) → get_or (set l p 0) i 0 ≢ 0 → Ready opened (get_or l i 0) i → Has rows' (get_or (set l p 0) i 0 / 4) × (get_or places (get_or (set l p 0) i 0 / 4) 0 ≡ i)
          taken_all i d o =
              let k = kept i d in
              let u = w.state.marks.all i (kept_left i d) o in
              let c : get_or l i 0 / 4 ≢ t * 33 + s = λ z. k.other (sym u.1 ∙ ap (λ (x : ℕ). get_or places x 0) z ∙ at) in
              rw k.same (q.stays (get_or l i 0 / 4) (omega (arith, left_below n i (kept_left i d))) c u.0, u.1)

      pub turn_state : (rows' : List ℕ) → Removed rows (t * 33 + s) rows' → State (set l p 0) r nt nc opened running' places rows'
      turn_state rows' q = record {
        room_target = w.state.room_target;
        room_control = w.state.room_control;
        targets = next_uses_kept Target nt w.state.targets;
        controls = next_uses_kept Control nc w.state.controls;
        lines = lines_taken;
        marks = marks_taken rows' q;
      }

    pub turn_differs : (y : ℕ) → y < 33 → get_or opened y 0 < r → Differs (set l p 0) y (get_or opened y 0)
    turn_differs y g h c e j a d =
        let u = (w.state.lines.each y g).found h in
        let k = stays (get_or opened y 0) (not_open y (get_or opened y 0) (omega arith) u) in
        rw (kept j d).same ((w.whole y g h).1 c (rw k at e) j a (kept_left j d))

    -- ---- the selection

    gates_left : gates (rest l) ≡ gates (rest (take p l)) ++ gate (get_or l p 0) ∷ gates (rest (drop (suc p) l))
    gates_left = ap (λ (x : List ℕ). gates x) (rest_at l p turn_room shown.left) ∙ gates_append (rest (take p l)) (get_or l p 0 ∷ rest (drop (suc p) l))

    gates_taken : gates (rest (set l p 0)) ≡ gates (rest (take p l)) ++ gates (rest (drop (suc p) l))
    gates_taken = ap (λ (x : List ℕ). gates x) (rest_taken l p turn_room) ∙ gates_append (rest (take p l)) (rest (drop (suc p) l))

    in_front : InFront l p
    in_front = ready_front n w.state.lines shown.left shown.ready

    taken_length : length (rest l) ≡ suc (length (rest (set l p 0)))
    taken_length =
        omega (arith, ap length (rest_at l p turn_room shown.left), ap length (rest_taken l p turn_room), length-append (rest (take p l)) (get_or l p 0 ∷ rest (drop (suc p) l)), length-append (rest (take p l)) (rest (drop (suc p) l)))

    pub turn_shortest : Shortest 32 (gates (rest (set l p 0)))
    turn_shortest = rw gates_taken (shortest_tail 32 (passing_shortest (rw gates_left at w.shortest) (slide (gates (rest (take p l))) (gates (rest (drop (suc p) l))) (in_front_free (omega (arith, turn_room)) in_front))))

    pub turn_single : Single (set l p 0)
    turn_single = shortest_single 32 (set l p 0) turn_shortest

    taken_selects : (u : List Gate) → Selects (gates (rest (set l p 0))) u → Selects (gates (rest l)) (gate (get_or l p 0) ∷ u)
    taken_selects u k =
        rw gates_left (select (gates (rest (take p l))) (gate (get_or l p 0)) (gates (rest (drop (suc p) l))) (in_front_free (omega (arith, turn_room)) in_front)
        (λ x f o. (let v = front_marked x (rw gates_left f) in b.least (v.0 / 4) (omega (arith, site_order v.0 (get_or l p 0) (same_less v.1 o), shown.site)) v.2))
        (rw gates_taken at k))

    -- the runs of its two lines are whole again
    pub turn_taken : (running' : List ℕ) → running' ≡ set (set running (t + 1) (get_or running (t + 1) 0 - 1)) s (get_or (set running (t + 1) (get_or running (t + 1) 0 - 1)) s 0 - 1)
        → (opened₁ running₁ places₁ rows₁ opened₂ running₂ places₂ rows₂ : List ℕ)
        → OpenedNext (set l p 0) r (t + 1) nt nc opened running' opened₁ running₁ places₁ rows₁
        → OpenedNext (set l p 0) r s nt nc opened₁ running₁ opened₂ running₂ places₂ rows₂
        → Taken l r nt nc (get_or l p 0) (set l p 0) opened₂ running₂ places₂ rows₂
    turn_taken running' e opened₁ running₁ places₁ rows₁ opened₂ running₂ places₂ rows₂ o q = record {
      code = turn_code;
      size = taken_length;
      selects = taken_selects;
      prepared = record { numbers = turn_numbers; shortest = turn_shortest; state = q.state; whole = λ y g. whole y g (ℕ_discrete y s) (ℕ_discrete y (t + 1)) };
    }
      where
        old_whole : (y : ℕ) → y < 33 → y ≢ t + 1 → y ≢ s → Whole (set l p 0) r opened running' y
        old_whole y g c d h = ((λ z. (w.whole y g h).0 (sym (others_kept running' e y c d) ∙ z)), turn_differs y g h)

        whole : (y : ℕ) → y < 33 → Dec (y ≡ s) → Dec (y ≡ t + 1) → Whole (set l p 0) r opened₂ running₂ y
        whole y g (yes c) d = rw c q.whole
        whole y g (no c) (yes d) = whole_kept (set l p 0) r y opened₁ running₁ opened₂ running₂ (q.others y c) (rw d o.whole)
        whole y g (no c) (no d) = whole_kept (set l p 0) r y opened₁ running₁ opened₂ running₂ (q.others y c) (whole_kept (set l p 0) r y opened running' opened₁ running₁ (o.others y d) (old_whole y g d c))
