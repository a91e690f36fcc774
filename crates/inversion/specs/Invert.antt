-- What invert says of a circuit text (document 02, order 7, "Inverse and joining of circuits"): number, line, gates, bytes, and each record and byte
-- lent to it, for all inputs. Assumes nothing.
use Rattle.std.specs.Prelude.{ℕ, List}
use Rattle.gates.specs.Inverse.{inverse}
use Rattle.text.specs.declared.Kind.TheVariants.{Circuit}
use Rattle.text.specs.Judging.{Judged, turned_away, accepted}
use Rattle.records.specs.declared.Done.{Done}
use Rattle.records.specs.declared.Outcome.{Outcome}
use Rattle.jobs.specs.Jobs.{reducing, Entry, Exit, judged, Settled}
use Rattle.jobs.specs.Handing.{HandsOne}

-- what a text was judged to be, with the inverse of its circuit: "reverses a circuit and exchanges v and vp"
unfoldable pub inverse_judged : Judged → Judged
inverse_judged (turned_away r l) = turned_away r l
inverse_judged (accepted h c) = accepted h (inverse c)

-- the contract: "then reduces it". It refuses what reduce refuses, and answers as reduce does, by the inverse of the circuit read
unfoldable pub Invert : Entry → Exit → Type 0
Invert e x = Settled reducing e (inverse_judged (judged Circuit e)) x

-- what the covered part promises, which is given only the length of the list
abbrev pub Hands : List ℕ → ℕ → List ℕ → Done Outcome → List ℕ → Type 0
Hands s room a d a' = HandsOne (λ l x. Invert (record { text = s; list = l; area = a }) x) room d a'
