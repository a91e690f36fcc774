-- Pushing two gates of one site is pushing their merge, or nothing where they vanish.
-- Assumes nothing.
use mathlib.Core.Path.{◌≡◌}
use mathlib.Core.List.{List, [], ◌∷◌}
use Prim.Native.Nat.{ℕ}
use Rattle.gates.specs.declared.Gate.{Gate}
use Rattle.gates.specs.Circuit.{Passes, Valid, AllValid}
use Rattle.gates.specs.Sites.{Same, Less, Free, free_nil, free_cons}
use Rattle.gates.proofs.Pushing.{merged, NotMeets, NotEnters, Turn, meets, enters, stays, turn, push, pushes, Lowest, Normal, normal_nil, normal_cons}
use Rattle.gates.proofs.Sites.{same_sym, same_trans, same_less}
use Rattle.gates.proofs.Sites.{passes_sym, passes_same_right, passes_self}
use Rattle.gates.proofs.Merge.{Sum, gone, one, sum, Triple, neither, left, right, both, triple}
use Rattle.gates.proofs.Push.{free_same, push_nil, push_meets, push_enters, push_stays, stays_same}
use Rattle.gates.proofs.Normal.{free_pushed, head}

-- by what g does at the first gate a
module _ {n : ℕ} {a : Gate} {v : List Gate} {g h : Gate} where
  meet : Lowest a v → Valid n a → Valid n g → Valid n h → Free g v → Same a g → Same g h → push (push (a ∷ v) g) h ≡ pushes (a ∷ v) (merged g h)
  meet b va vg vh f s e = go (triple s e va vg vh)
    where
      fh : Free h v
      fh = free_same e f

      first : push v h ≡ h ∷ v
      first = head b (free_same (same_sym s) f) fh (λ r l. same_less (same_sym (same_trans s e)) l)

      go : Triple a g h → push (push (a ∷ v) g) h ≡ pushes (a ∷ v) (merged g h)
      go (neither x y z) = rw (push_meets f s, x, y, first, z)
      go (left k x y z t) = rw (push_meets f s, x, y, first, push_meets (free_same t f) (same_trans s t), z)
      go (right m x y z t) = rw (push_meets f s, x, y, push_meets fh (same_trans (same_sym t) (same_trans s e)), z)
      go (both m k x y z t t') = rw (push_meets f s, x, y, push_meets fh (same_trans (same_sym t) (same_trans s e)), push_meets (free_same t' f) (same_trans s t'), z)

  enter : Valid n g → Free g v → Passes a g → Less g a → Same g h → push (push (a ∷ v) g) h ≡ pushes (a ∷ v) (merged g h)
  enter vg f p l e = go (sum g h)
    where
      go : Sum g h → push (push (a ∷ v) g) h ≡ pushes (a ∷ v) (merged g h)
      go (gone x) = rw (push_enters f p l, push_meets (free_cons (passes_sym (passes_same_right e p)) (free_same e f)) e, x)
      go (one k x t) = rw (push_enters f p l, push_meets (free_cons (passes_sym (passes_same_right e p)) (free_same e f)) e, x, push_enters (free_same t f) (passes_same_right t p) (same_less (same_sym t) l))

  stay : Valid n g → NotMeets a v g → NotEnters a v g → Same g h → push (push v g) h ≡ pushes v (merged g h) → push (push (a ∷ v) g) h ≡ pushes (a ∷ v) (merged g h)
  stay vg m i e ih = go (sum g h)
    where
      self : Passes g h
      self = passes_same_right e (passes_self vg)

      down : Free h (push v g) → Free g v
      down f = free_same (same_sym e) (free_pushed v (passes_sym self) f)

      behind : push (a ∷ push v g) h ≡ a ∷ push (push v g) h
      behind = push_stays (λ f t. m (down f) (same_trans t (same_sym e))) (λ f p l. i (down f) (passes_same_right (same_sym e) p) (same_less e l))

      go : Sum g h → push (push (a ∷ v) g) h ≡ pushes (a ∷ v) (merged g h)
      go (gone x) = rw (push_stays m i, behind, ih, x)
      go (one k x t) = rw (push_stays m i, behind, ih, x, stays_same t m i)

pub again : {n : ℕ} {v : List Gate} {g h : Gate} → Normal v → AllValid n v → Valid n g → Valid n h → Same g h → push (push v g) h ≡ pushes v (merged g h)
again {v = []} {g} {h} normal_nil u vg vh e = go (sum g h)
  where
    go : Sum g h → push (push [] g) h ≡ pushes [] (merged g h)
    go (gone x) = rw (push_nil g, push_meets free_nil e, x)
    go (one k x t) = rw (push_nil g, push_meets free_nil e, x, push_nil k)
again {v = a ∷ v} {g} {h} (normal_cons w b) u vg vh e = go (again w u.1 vg vh e) (turn a v g)
  where
    go : push (push v g) h ≡ pushes v (merged g h) → Turn a v g → push (push (a ∷ v) g) h ≡ pushes (a ∷ v) (merged g h)
    go ih (meets f s) = meet b u.0 vg vh f s e
    go ih (enters f p l) = enter vg f p l e
    go ih (stays m i) = stay vg m i e ih
