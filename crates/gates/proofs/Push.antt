-- The equations of `push`, and that gates of one site do alike. Assumes nothing.
use mathlib.Core.Path.{◌≡◌, refl}
use mathlib.Core.List.{List, [], ◌∷◌, ◌++◌}
use Rattle.gates.specs.declared.Gate.{Gate}
use Rattle.gates.specs.Circuit.{Passes}
use Rattle.gates.specs.Sites.{Same, Less, Free, free_nil, free_cons}
use Rattle.gates.proofs.Pushing.{merged, NotMeets, NotEnters, Turn, meets, enters, stays, turn, place, push}
use Rattle.gates.proofs.Sites.{same_sym, same_trans, same_less, less_irrefl, passes_same, passes_same_right}

-- ---- no later proof opens the definition of push

pub push_nil : (g : Gate) → push [] g ≡ g ∷ []
unfolding push
push_nil g = refl

place_meets : {a : Gate} {v : List Gate} {g : Gate} (t : Turn a v g) (w : List Gate) → Free g v → Same a g → place t w ≡ merged a g ++ v
unfolding place
place_meets (meets f s) w x y = refl
place_meets (enters f p l) w x y = absurd (less_irrefl (same_sym y) l)
place_meets (stays m i) w x y = absurd (m x y)

place_enters : {a : Gate} {v : List Gate} {g : Gate} (t : Turn a v g) (w : List Gate) → Free g v → Passes a g → Less g a → place t w ≡ g ∷ a ∷ v
unfolding place
place_enters (meets f s) w x p l = absurd (less_irrefl (same_sym s) l)
place_enters (enters f q m) w x p l = refl
place_enters (stays m i) w x p l = absurd (i x p l)

place_stays : {a : Gate} {v : List Gate} {g : Gate} (t : Turn a v g) (w : List Gate) → NotMeets a v g → NotEnters a v g → place t w ≡ a ∷ w
unfolding place
place_stays (meets f s) w m i = absurd (m f s)
place_stays (enters f p l) w m i = absurd (i f p l)
place_stays (stays x y) w m i = refl

pub push_meets : {a : Gate} {v : List Gate} {g : Gate} → Free g v → Same a g → push (a ∷ v) g ≡ merged a g ++ v
unfolding push
push_meets {a} {v} {g} f s = place_meets (turn a v g) (push v g) f s

pub push_enters : {a : Gate} {v : List Gate} {g : Gate} → Free g v → Passes a g → Less g a → push (a ∷ v) g ≡ g ∷ a ∷ v
unfolding push
push_enters {a} {v} {g} f p l = place_enters (turn a v g) (push v g) f p l

pub push_stays : {a : Gate} {v : List Gate} {g : Gate} → NotMeets a v g → NotEnters a v g → push (a ∷ v) g ≡ a ∷ push v g
unfolding push
push_stays {a} {v} {g} m i = place_stays (turn a v g) (push v g) m i

-- ---- gates of one site do alike

pub free_same : {g h : Gate} {v : List Gate} → Same g h → Free g v → Free h v
free_same s free_nil = free_nil
free_same s (free_cons p f) = free_cons (passes_same s p) (free_same s f)

pub stays_same : {a : Gate} {v : List Gate} {g h : Gate} → Same g h → NotMeets a v g → NotEnters a v g → push (a ∷ v) h ≡ a ∷ push v h
stays_same s m i =
    push_stays (λ f t. m (free_same (same_sym s) f) (same_trans t (same_sym s)))
    (λ f p l. i (free_same (same_sym s) f) (passes_same_right (same_sym s) p) (same_less s l))
