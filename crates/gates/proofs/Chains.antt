-- Chains of steps: an example of a step backwards; links are symmetric, transitive and keep circuits valid; and a chain between two circuits is
-- one between them with the same gates put before and after both. Assumes nothing.
use mathlib.Core.List.{List, [], ◌∷◌, ◌++◌}
use Prim.Native.Nat.{ℕ}
use native.Mathlib.Omega.{arith}
use Rattle.gates.specs.declared.Gate.{Gate}
use Rattle.gates.specs.declared.Gate.TheVariants.{Not}
use Rattle.gates.specs.Circuit.{Valid, valid_not, AllValid, cancel, Step, step, Linked, done, forth, back, Reaches, stop, more}
use Rattle.gates.proofs.Reach.{step_cons, step_append, step_all_valid}

-- two NOTs on one line vanish, and backwards they come of no gates
vanish : Step 1 (Not 0 ∷ Not 0 ∷ []) []
vanish = let w : Valid 1 (Not 0) = valid_not {t = 0} (omega arith) in step [] [] (cancel 0) (w, (w, tt)) tt

put_in : Linked 1 [] (Not 0 ∷ Not 0 ∷ [])
put_in = back vanish done

module _ {n : ℕ} where
  -- ---- from link to link

  pub reaches_linked : {c d : List Gate} → Reaches n c d → Linked n c d
  reaches_linked stop = done
  reaches_linked (more s r) = forth s (reaches_linked r)

  pub linked_trans : {c d e : List Gate} → Linked n c d → Linked n d e → Linked n c e
  linked_trans done k = k
  linked_trans (forth s l) k = forth s (linked_trans l k)
  linked_trans (back s l) k = back s (linked_trans l k)

  -- two circuits that are linked to one are linked
  pub linked_both : {c d e : List Gate} → Linked n c d → Linked n c e → Linked n d e
  linked_both done k = k
  linked_both (forth s l) k = linked_both l (back s k)
  linked_both (back s l) k = linked_both l (forth s k)

  pub linked_sym : {c d : List Gate} → Linked n c d → Linked n d c
  linked_sym l = linked_both l done

  -- ---- what is linked to a valid circuit is valid

  step_left : {c d : List Gate} → Step n c d → AllValid n c
  step_left (step u v w f k) = f

  pub linked_all_valid : {c d : List Gate} → Linked n c d → AllValid n c → AllValid n d
  linked_all_valid done f = f
  linked_all_valid (forth s l) f = linked_all_valid l (step_all_valid n s)
  linked_all_valid (back s l) f = linked_all_valid l (step_left s)

  -- ---- the same gates before and after

  linked_cons : {g : Gate} {c d : List Gate} → Valid n g → Linked n c d → Linked n (g ∷ c) (g ∷ d)
  linked_cons h done = done
  linked_cons h (forth s l) = forth (step_cons n h s) (linked_cons h l)
  linked_cons h (back s l) = back (step_cons n h s) (linked_cons h l)

  -- with the gates u before
  pub linked_before : {c d : List Gate} (u : List Gate) → AllValid n u → Linked n c d → Linked n (u ++ c) (u ++ d)
  linked_before [] f l = l
  linked_before (g ∷ u) f l = linked_cons f.0 (linked_before u f.1 l)

  -- with the gates v after
  pub linked_after : {c d : List Gate} (v : List Gate) → AllValid n v → Linked n c d → Linked n (c ++ v) (d ++ v)
  linked_after v f done = done
  linked_after v f (forth s l) = forth (step_append n v f s) (linked_after v f l)
  linked_after v f (back s l) = back (step_append n v f s) (linked_after v f l)

  pub linked_context : {c d : List Gate} (u v : List Gate) → AllValid n u → AllValid n v → Linked n c d → Linked n (u ++ c ++ v) (u ++ d ++ v)
  linked_context u v f k l = linked_after v k (linked_before u f l)

  -- circuits linked one by one are linked when joined
  pub linked_join : {c c' d d' : List Gate} → AllValid n c → AllValid n d → Linked n c c' → Linked n d d' → Linked n (c ++ d) (c' ++ d')
  linked_join {c} {c'} {d} f k l m = linked_trans (linked_after d k l) (linked_before c' (linked_all_valid l f) m)
