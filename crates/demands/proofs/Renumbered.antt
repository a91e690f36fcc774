-- An exit with another number, and all else as it is. Assumes nothing.
use Prim.Native.Nat.{ℕ}
use Rattle.jobs.specs.Jobs.{Exit}

abbrev pub renumbered : ℕ → Exit → Exit
renumbered n x = record { number = n; line = x.line; gates = x.gates; bytes = x.bytes; list = x.list; area = x.area }
