-- What the search answers, of a circuit with the fewest gates: the place that it names is the only one from which passes alone bring a gate beside
-- the new one to be merged, and it names none exactly if there is none (document 02, order 3). Assumes nothing.
use mathlib.Core.Path.{◌≡◌, refl}
use mathlib.Core.Logic.{◌↔◌}
use mathlib.Core.List.{List}
use Prim.Native.Nat.{ℕ}
use native.Mathlib.Omega.{arith}
use lib.ListN.{length, take}
use Rattle.gates.specs.Code.{gate, gates}
use Rattle.partners.specs.Shortest.{Shortest}
use Rattle.partners.specs.Partner.{Brought, NoPartner}
use Rattle.partners.proofs.PartnerSearch.{at_most_one}
use Rattle.std.specs.Prelude.{Option, Some, None}
use Rattle.stacks.specs.Remaining.{remaining}
use Rattle.stacks.specs.Found.{Found}

module _ (l : List ℕ) (n g : ℕ) where
  pub only_named : (k j i : ℕ) → Shortest k (gates (remaining (take n l))) → Found l n g (Some j) → Brought (gates (remaining (take n l))) (gate g) i → i ≡ length (remaining (take j l))
  only_named k j i w f b = at_most_one k w b f.brought

  pub none_named : (r : Option ℕ) → Found l n g r → (r ≡ None) ↔ NoPartner (gates (remaining (take n l))) (gate g)
  none_named (Some j) f = (λ e. absurd (let z : ◌≡◌ {A = ℕ} 0 1 = cc in omega arith), λ none. absurd (none (length (remaining (take j l))) f.brought))
  none_named None f = (λ e. f, λ none. refl)
