-- The lines that gates and circuits touch, and the lines that a cascade names (document 02, order 8). Assumes nothing.
use Rattle.std.specs.Prelude.{◌≡◌, true, List, ◌∷◌, ℕ, suc}
use Rattle.gates.specs.declared.Gate.{Gate}
use Rattle.gates.specs.Circuit.{target, slot}
use Rattle.meaning.specs.Pattern.{has}
use Rattle.cascades.specs.Control.{control_lines}
use Rattle.cascades.specs.Cascade.{Controlled}

-- the gate g "touches" the line i: it acts on i, or is controlled by it
pub data Touches (g : Gate) (i : ℕ) : Type 0 where
  as_target : target g ≡ i → Touches g i
  as_control : slot g ≡ suc i → Touches g i

-- what holds of some element of a list
pub data Some {A : Type 0} (P : A → Type 0) : List A → Type 0 where
  here : {x : A} {l : List A} → P x → Some P (x ∷ l)
  there : {x : A} {l : List A} → Some P l → Some P (x ∷ l)

-- some gate of the circuit touches the line i
abbrev pub Touched : List Gate → ℕ → Type 0
Touched c i = Some (λ g. Touches g i) c

-- "some mct names it": the line i is a control of some mct gate of the cascade, negated or not, or its target
abbrev pub Named : List Controlled → ℕ → Type 0
Named gs i = Some (λ g. has i (g.target ∷ control_lines g.controls) ≡ true) gs
