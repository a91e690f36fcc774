-- A circuit reaches, by steps forwards alone, what pushing its gates makes of it.
-- Assumes nothing.
use mathlib.Core.List.{List, [], ◌∷◌, ◌++◌, append-nil, append_assoc}
use Prim.Native.Nat.{ℕ}
use Rattle.gates.specs.declared.Gate.{Gate}
use Rattle.gates.specs.Circuit.{Valid, AllValid, pass, Step, step, Reaches, stop, more}
use Rattle.gates.specs.Sites.{Free, free_nil, free_cons}
use Rattle.gates.proofs.Pushing.{merged, Turn, meets, enters, stays, turn, push, pushes}
use Rattle.gates.proofs.Every.{every_append, every_left, every_right}
use Rattle.gates.proofs.Sites.{passes_sym}
use Rattle.gates.proofs.Merge.{merged_rewrite, all_valid_merged}
use Rattle.gates.proofs.Push.{push_nil, push_meets, push_enters, push_stays}

module _ (n : ℕ) where
  -- ---- valid circuits, joined and split

  pub all_valid_append : (c e : List Gate) → AllValid n c → AllValid n e → AllValid n (c ++ e)
  all_valid_append = every_append (Valid n)

  pub all_valid_left : (c e : List Gate) → AllValid n (c ++ e) → AllValid n c
  all_valid_left = every_left (Valid n)

  pub all_valid_right : (c e : List Gate) → AllValid n (c ++ e) → AllValid n e
  all_valid_right = every_right (Valid n)

  -- ---- steps with gates before and after

  pub step_cons : {a : Gate} {c d : List Gate} → Valid n a → Step n c d → Step n (a ∷ c) (a ∷ d)
  step_cons {a} h (step u v l f k) = step (a ∷ u) v l (h, f) (h, k)

  pub step_append : {c d : List Gate} (e : List Gate) → AllValid n e → Step n c d → Step n (c ++ e) (d ++ e)
  step_append e h (step u v {x} {y} l f k) =
      rw (append_assoc (u ++ x) v e, append_assoc (u ++ y) v e)
      (step u (v ++ e) l (rw (append_assoc (u ++ x) v e) at (all_valid_append (u ++ x ++ v) e f h)) (rw (append_assoc (u ++ y) v e) at (all_valid_append (u ++ y ++ v) e k h)))

  reaches_cons : {a : Gate} {c d : List Gate} → Valid n a → Reaches n c d → Reaches n (a ∷ c) (a ∷ d)
  reaches_cons h stop = stop
  reaches_cons h (more s r) = more (step_cons h s) (reaches_cons h r)

  reaches_append : {c d : List Gate} (e : List Gate) → AllValid n e → Reaches n c d → Reaches n (c ++ e) (d ++ e)
  reaches_append e h stop = stop
  reaches_append e h (more s r) = more (step_append e h s) (reaches_append e h r)

  reaches_trans : {c d e : List Gate} → Reaches n c d → Reaches n d e → Reaches n c e
  reaches_trans stop q = q
  reaches_trans (more s r) q = more s (reaches_trans r q)

  -- ---- a chain keeps circuits valid

  pub step_all_valid : {c d : List Gate} → Step n c d → AllValid n d
  step_all_valid (step u v l f k) = k

  pub reaches_all_valid : {c d : List Gate} → Reaches n c d → AllValid n c → AllValid n d
  reaches_all_valid stop f = f
  reaches_all_valid (more s r) f = reaches_all_valid r (step_all_valid s)

  -- ---- a push is a chain

  -- a gate goes left past all that it passes
  slide : {g : Gate} {v : List Gate} → AllValid n v → Valid n g → Free g v → Reaches n (v ++ (g ∷ [])) (g ∷ v)
  slide h k free_nil = stop
  slide h k (free_cons {v = v} p f) =
      reaches_trans (reaches_cons h.0 (slide h.1 k f)) (more (step [] v (pass (passes_sym p)) (h.0, (k, h.1)) (k, (h.0, h.1))) stop)

  pub push_reach : (v : List Gate) {g : Gate} → AllValid n v → Valid n g → Reaches n (v ++ (g ∷ [])) (push v g)
  push_reach [] h k = rw push_nil stop
  push_reach (a ∷ v) {g} h k = go (push_reach v h.1 k) (turn a v g)
    where
      go : Reaches n (v ++ (g ∷ [])) (push v g) → Turn a v g → Reaches n (a ∷ (v ++ (g ∷ []))) (push (a ∷ v) g)
      go ih (meets f s) =
          rw (push_meets f s)
          (reaches_trans (reaches_cons h.0 (slide h.1 k f)) (more (step [] v (merged_rewrite s) (h.0, (k, h.1)) (all_valid_append (merged a g) v (all_valid_merged g h.0) h.1)) stop))
      go ih (enters f p l) =
          rw (push_enters f p l)
          (reaches_trans (reaches_cons h.0 (slide h.1 k f)) (more (step [] v (pass p) (h.0, (k, h.1)) (k, (h.0, h.1))) stop))
      go ih (stays m i) = rw (push_stays m i) (reaches_cons h.0 ih)

  pub all_valid_push : (v : List Gate) {g : Gate} → AllValid n v → Valid n g → AllValid n (push v g)
  all_valid_push v {g} h k = reaches_all_valid (push_reach v h k) (all_valid_append v (g ∷ []) h (k, tt))

  pub pushes_reach : (v c : List Gate) → AllValid n v → AllValid n c → Reaches n (v ++ c) (pushes v c)
  pushes_reach v [] h k = rw append-nil stop
  pushes_reach v (g ∷ c) h k =
      reaches_trans (rw (append_assoc v (g ∷ []) c) at (reaches_append c k.1 (push_reach v h k.0))) (pushes_reach (push v g) c (all_valid_push v h k.0) k.1)
