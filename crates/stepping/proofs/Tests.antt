-- Two gates by their numbers: the tests of whether they pass, and of whether they have one site. Assumes nothing.
use mathlib.Core.Path.{◌≡◌, refl}
use mathlib.Core.Logic.{◌≢◌}
use mathlib.Core.Bool.{Bool, true, false, not}
use Prim.Native.Nat.{ℕ, ◌+◌, ◌/◌, ◌%◌}
use native.Mathlib.Omega.{arith}
use lib.Dec.{eqb}
use borrow.Author.Tests.{eq-eqb, eqb-true, eqb-false}
use Rattle.gates.specs.Circuit.{Passes}
use Rattle.gates.specs.Sites.{Same}
use Rattle.gates.specs.Code.{gate}
use Rattle.gates.specs.Whether.{Whether}
use Rattle.gates.proofs.Codes.{target_gate, slot_gate}
use Rattle.gates.proofs.CodePairs.{one_site, same_site}

module _ (a b : ℕ) where
  -- the first's target is the second's control
  pub first_on_control : a / 132 + 1 ≡ b / 4 % 33 → Whether (Passes (gate a) (gate b)) (not (eqb (a / 132 + 1) (b / 4 % 33)))
  first_on_control e = rw (eq-eqb (a / 132 + 1) (b / 4 % 33) e) (λ p. p.there (omega (arith, target_gate a, slot_gate b)))

  -- it is not, and so the other way round decides
  pub whether_pass : a / 132 + 1 ≢ b / 4 % 33 → Whether (Passes (gate a) (gate b)) (not (eqb (b / 132 + 1) (a / 4 % 33)))
  whether_pass h = go (eqb (b / 132 + 1) (a / 4 % 33)) refl
    where
      go : (t : Bool) → eqb (b / 132 + 1) (a / 4 % 33) ≡ t → Whether (Passes (gate a) (gate b)) (not t)
      go true e = λ p. p.back (omega (arith, eqb-true (b / 132 + 1) (a / 4 % 33) e, target_gate b, slot_gate a))
      go false e = let n = eqb-false (b / 132 + 1) (a / 4 % 33) e in omega (arith, target_gate a, target_gate b, slot_gate a, slot_gate b)

  pub whether_one_site : Whether (Same (gate a) (gate b)) (eqb (a / 4) (b / 4))
  whether_one_site = go (eqb (a / 4) (b / 4)) refl
    where
      go : (t : Bool) → eqb (a / 4) (b / 4) ≡ t → Whether (Same (gate a) (gate b)) t
      go true e = one_site a b (eqb-true (a / 4) (b / 4) e)
      go false e = λ s. eqb-false (a / 4) (b / 4) e (same_site a b s)
