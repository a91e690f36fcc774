-- The gate of a code. Assumes nothing.
use native.Mathlib.Nat.{le_refl}
use Rattle.gates.proofs.Codes.{below}
use Rattle.records.proofs.GateRecord.of.Goals as goal

pub decode-requires : goal.decode-requires
decode-requires c = below (le_refl 32) c.requires
