-- What a push keeps: freedom, fronts and the normal form; and that gates of different sites that pass may be pushed in either order.
-- Assumes nothing.
use mathlib.Core.Path.{◌≡◌, sym}
use mathlib.Core.Logic.{◌⊎◌, inl, inr}
use mathlib.Core.List.{List, [], ◌∷◌, ◌++◌}
use Rattle.gates.specs.declared.Gate.{Gate}
use Rattle.gates.specs.Circuit.{Passes}
use Rattle.gates.specs.Sites.{Same, Less, Free, free_nil, free_cons, Front, here, there}
use Rattle.gates.proofs.Pushing.{merged, free_head, free_tail, NotMeets, NotEnters, Turn, meets, enters, stays, turn, push, Lowest, Normal, normal_nil, normal_cons}
use Rattle.gates.proofs.Sites.{Order, before, level, after, order, same_refl, same_sym, same_trans, less_same, same_less, less_trans, less_irrefl, less_asym}
use Rattle.gates.proofs.Sites.{passes_sym, passes_same, passes_same_right}
use Rattle.gates.proofs.Push.{free_same, push_nil, push_meets, push_enters, push_stays}
use Rattle.gates.proofs.Merge.{Sum, gone, one, sum, merged_elim}

-- ---- freedom: where h passes g, it is free over a list exactly if it is over the list with g pushed

pub free_push : (v : List Gate) {g h : Gate} → Passes h g → Free h v → Free h (push v g)
free_push [] p f = rw push_nil (free_cons p free_nil)
free_push (a ∷ v) {g} {h} p (free_cons q f) = go (free_push v p f) (turn a v g)
  where
    go : Free h (push v g) → Turn a v g → Free h (push (a ∷ v) g)
    go ih (meets x s) = rw (push_meets x s) (merged_elim (Free h) a g v f (λ y t. free_cons (passes_same_right t q) f))
    go ih (enters x y l) = rw (push_enters x y l) (free_cons p (free_cons q f))
    go ih (stays m i) = rw (push_stays m i) (free_cons q ih)

pub free_pushed : (v : List Gate) {g h : Gate} → Passes h g → Free h (push v g) → Free h v
free_pushed [] p f = free_nil
free_pushed (a ∷ v) {g} {h} p f = go (λ x. free_pushed v p x) (turn a v g)
  where
    go : (Free h (push v g) → Free h v) → Turn a v g → Free h (a ∷ v)
    go ih (meets x s) =
        merged_elim (λ l. Free h l → Free h (a ∷ v)) a g v (λ y. free_cons (passes_same_right (same_sym s) p) y)
        (λ y t z. free_cons (passes_same_right (same_sym t) (free_head z)) (free_tail z))
        (rw (push_meets x s) at f)
    go ih (enters x y l) = free_tail (rw (push_enters x y l) at f)
    go ih (stays m i) = let z : Free h (a ∷ push v g) = rw (push_stays m i) at f in free_cons (free_head z) (ih (free_tail z))

-- ---- fronts: a push adds at most the site of the gate pushed, and only if that was free

free_front : {g s : Gate} {v : List Gate} → Free g v → Front s v → Passes s g
free_front {g = g} {s = s} free_nil x = elim x [ ]
free_front (free_cons p f) (here e) = passes_sym (passes_same_right e p)
free_front (free_cons p f) (there q r) = free_front f r

front_cons : {s a : Gate} {v : List Gate} {X : Type 0} → Front s (a ∷ v) → (Same a s → X) → (Passes s a → Front s v → X) → X
front_cons (here e) x y = x e
front_cons (there p f) x y = y p f

front_nil : {s : Gate} {X : Type 0} → Front s [] → X
front_nil f = elim f [ ]

pub front_push : (v : List Gate) {s g : Gate} → Front s (push v g) → Front s v ⊎ (Same g s × Free g v)
front_push [] {s} {g} f = front_cons (rw push_nil at f) (λ e. inr (e, free_nil)) (λ p z. front_nil z)
front_push (a ∷ v) {s} {g} f = go (λ x. front_push v x) (turn a v g)
  where
    go : (Front s (push v g) → Front s v ⊎ (Same g s × Free g v)) → Turn a v g → Front s (a ∷ v) ⊎ (Same g s × Free g (a ∷ v))
    go ih (meets x e) =
        merged_elim (λ l. Front s l → Front s (a ∷ v) ⊎ (Same g s × Free g (a ∷ v))) a g v
        (λ y. inl (there (passes_same_right (same_sym e) (free_front x y)) y))
        (λ b t y. front_cons y (λ q. inl (here (same_trans t q))) (λ p z. inl (there (passes_same_right (same_sym t) p) z)))
        (rw (push_meets x e) at f)
    go ih (enters x p l) = front_cons (rw (push_enters x p l) at f) (λ e. inr (e, free_cons (passes_sym p) x)) (λ q z. inl z)
    go ih (stays m i) = front_cons (rw (push_stays m i) at f) (λ e. inl (here e)) (λ p z. on p (ih z))
      where
        on : Passes s a → Front s v ⊎ (Same g s × Free g v) → Front s (a ∷ v) ⊎ (Same g s × Free g (a ∷ v))
        on p (inl y) = inl (there p y)
        on p (inr y) = inr (y.0, free_cons (passes_same (same_sym y.0) p) y.1)

-- ---- the normal form is kept

pub normal_push : (g : Gate) {v : List Gate} → Normal v → Normal (push v g)
normal_push g normal_nil = rw push_nil (normal_cons normal_nil (λ s f p. front_nil f))
normal_push g (normal_cons {a} {v} w b) = go (normal_push g w) (turn a v g)
  where
    go : Normal (push v g) → Turn a v g → Normal (push (a ∷ v) g)
    go ih (meets x s) = rw (push_meets x s) (merged_elim Normal a g v w (λ y t. normal_cons w (λ r f p. same_less (same_sym t) (b r f (passes_same_right (same_sym t) p)))))
    go ih (enters x p l) = rw (push_enters x p l) (normal_cons (normal_cons w b) (λ r f q. front_cons f (λ e. less_same l e) (λ y z. less_trans l (b r z y))))
    go ih (stays m i) = rw (push_stays m i) (normal_cons ih (λ r f p. on r p (front_push v f)))
      where
        way : (r : Gate) → Passes r a → Same g r → Free g v → Order a g → Less a r
        way r p e f (before l) = less_same l e
        way r p e f (level s) = absurd (m f s)
        way r p e f (after l) = absurd (i f (passes_sym (passes_same (same_sym e) p)) l)

        on : (r : Gate) → Passes r a → Front r v ⊎ (Same g r × Free g v) → Less a r
        on r p (inl f) = b r f p
        on r p (inr y) = way r p y.0 y.1 (order a g)

-- ---- where a gate stands first

-- a gate that is first in the order stays first
behind : {g h : Gate} (w : List Gate) → Less g h → push (g ∷ w) h ≡ g ∷ push w h
behind w l = push_stays (λ f s. less_irrefl s l) (λ f p m. less_asym l m)

-- behind a, in a normal form, all that passes a is after a: so h goes to the front, where h is not after a
pub head : {a h : Gate} {v : List Gate} → Lowest a v → Free a v → Free h v → ((s : Gate) → Less a s → Less h s) → push v h ≡ h ∷ v
head b free_nil f l = push_nil _
head b (free_cons {a = c} p e) (free_cons q f) l = push_enters f (passes_sym q) (l c (b c (here (same_refl c)) (passes_sym p)))

-- ---- two pushes commute

-- two gates that both go to the front
cross : {g h : Gate} (w : List Gate) → Passes g h → (Same g h → ⊥) → Free g w → Free h w → push w g ≡ g ∷ w → push w h ≡ h ∷ w → push (g ∷ w) h ≡ push (h ∷ w) g
cross {g} {h} w p ns fg fh eg eh = go (order g h)
  where
    go : Order g h → push (g ∷ w) h ≡ push (h ∷ w) g
    go (before l) = cc (behind w l, push_enters fg (passes_sym p) l)
    go (level s) = absurd (ns s)
    go (after l) = cc (behind w l, push_enters fh p l)

-- by what g and h do at the first gate a
module _ {a : Gate} {v : List Gate} {g h : Gate} where
  meet_enter : Lowest a v → Free g v → Same a g → Free h v → Passes a h → Less h a → push (push (a ∷ v) g) h ≡ push (push (a ∷ v) h) g
  meet_enter b fg s fh p l = cc (push_meets fg s, go (sum a g), push_enters fh p l, behind (a ∷ v) (less_same l s))
    where
      go : Sum a g → push (merged a g ++ v) h ≡ h ∷ (merged a g ++ v)
      go (gone e) = rw e (head b (free_same (same_sym s) fg) fh (λ r m. less_trans l m))
      go (one x e t) = rw e (push_enters fh (passes_same t p) (less_same l t))

  meet_stay : Passes g h → Free g v → Same a g → NotMeets a v h → NotEnters a v h → push (push (a ∷ v) g) h ≡ push (push (a ∷ v) h) g
  meet_stay q fg s m i = cc (push_meets fg s, go (sum a g), push_stays m i, push_meets (free_push v q fg) s)
    where
      go : Sum a g → push (merged a g ++ v) h ≡ merged a g ++ push v h
      go (gone e) = rw e
      go (one x e t) = rw e (push_stays (λ f r. m f (same_trans t r)) (λ f p l. i f (passes_same (same_sym t) p) (less_same l (same_sym t))))

  enter_stay : Passes g h → (Same g h → ⊥) → Free g v → Passes a g → Less g a → NotMeets a v h → NotEnters a v h → push (push (a ∷ v) g) h ≡ push (push (a ∷ v) h) g
  enter_stay q ns fg p l m i =
      cc (push_enters fg p l, push_stays {a = g} {v = a ∷ v} {g = h} (λ f e. ns e) (λ f r k. i (free_tail f) (passes_sym (free_head f)) (less_trans k l)), push_stays m i, push_enters (free_push v q fg) p l)

  stay_stay : Passes g h → NotMeets a v g → NotEnters a v g → NotMeets a v h → NotEnters a v h → push (push v g) h ≡ push (push v h) g → push (push (a ∷ v) g) h ≡ push (push (a ∷ v) h) g
  stay_stay q m i m' i' ih =
      cc (push_stays m i, push_stays m' i', push_stays {a = a} {v = push v g} {g = h} (λ f e. m' (free_pushed v (passes_sym q) f) e) (λ f p l. i' (free_pushed v (passes_sym q) f) p l), push_stays {a = a} {v = push v h} {g = g} (λ f e. m (free_pushed v q f) e) (λ f p l. i (free_pushed v q f) p l))

pub commute : {v : List Gate} {g h : Gate} → Normal v → Passes g h → (Same g h → ⊥) → push (push v g) h ≡ push (push v h) g
commute {g = g} {h} normal_nil q ns = rw (push_nil g, push_nil h) (cross [] q ns free_nil free_nil (push_nil g) (push_nil h))
commute {g = g} {h} (normal_cons {a} {v} w b) q ns = go (commute w q ns) (turn a v g) (turn a v h)
  where
    go : push (push v g) h ≡ push (push v h) g → Turn a v g → Turn a v h → push (push (a ∷ v) g) h ≡ push (push (a ∷ v) h) g
    go ih (meets f s) (meets f' s') = absurd (ns (same_trans (same_sym s) s'))
    go ih (meets f s) (enters f' p' l') = meet_enter b f s f' p' l'
    go ih (meets f s) (stays m' i') = meet_stay q f s m' i'
    go ih (enters f p l) (meets f' s') = sym (meet_enter b f' s' f p l)
    go ih (enters f p l) (enters f' p' l') =
        rw (push_enters f p l, push_enters f' p' l') (cross (a ∷ v) q ns (free_cons (passes_sym p) f) (free_cons (passes_sym p') f') (push_enters f p l) (push_enters f' p' l'))
    go ih (enters f p l) (stays m' i') = enter_stay q ns f p l m' i'
    go ih (stays m i) (meets f' s') = sym (meet_stay (passes_sym q) f' s' m i)
    go ih (stays m i) (enters f' p' l') = sym (enter_stay (passes_sym q) (λ s. ns (same_sym s)) f' p' l' m i)
    go ih (stays m i) (stays m' i') = stay_stay q m i m' i' ih
