-- A record of the gate list, read as kind, control and target. Assumes nothing.
use Rattle.std.specs.Prelude.{◌≡◌, ◌≢◌, List, [], ◌∷◌, ℕ}
use Rattle.gates.specs.declared.Gate.{Gate}
use Rattle.gates.specs.declared.Gate.TheVariants.{Not, Powered}
use Rattle.gates.specs.Circuit.{Valid}
use Rattle.gates.specs.Code.{code}

-- three numbers, as kind, control and target
abbrev pub three : ℕ → ℕ → ℕ → List ℕ
three a b c = a ∷ b ∷ c ∷ []

-- a gate as kind, control and target: the kinds 1, 2 and 3 are the powers of v, cn and vp; 4 is a NOT, which has no control
unfoldable pub gate_parts : Gate → List ℕ
gate_parts (Not t) = three 4 0 t
gate_parts (Powered p c t) = three p c t

-- what is read of the number k: the parts of the gate on 32 lines that has it; kind 0, which is none, if no gate has it
pub data RecordParts (k : ℕ) : List ℕ → Type 0 where
  of_gate : {g : Gate} → Valid 32 g → code g ≡ k → RecordParts k (gate_parts g)
  of_none : ((g : Gate) → Valid 32 g → code g ≢ k) → RecordParts k (three 0 0 0)
