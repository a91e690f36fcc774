-- `jobs::size_rules` meets its contract. Assumes nothing.
use native.Mathlib.Omega.{arith}
use borrow.Author.Tests.{lt-ltb, le-ltb}
use Rattle.text.specs.Judging.{first}
use Rattle.habits.specs.Habits.{size_rules}
use Rattle.jobs.proofs.size_rules.Goals as goal

pub returns-then-size-gt60000 : goal.returns-then-size-gt60000
unfolding size_rules first
returns-then-size-gt60000 c = rw (lt-ltb 60000 c.args.size (omega arith))

pub returns-then-room-lt4096 : goal.returns-then-room-lt4096
unfolding size_rules first
returns-then-room-lt4096 c = rw (le-ltb 60000 c.args.size (omega arith), lt-ltb c.args.room 4096 (omega arith))

pub returns : goal.returns
unfolding size_rules first
returns c = rw (le-ltb 60000 c.args.size (omega arith), le-ltb c.args.room 4096 (omega arith))
