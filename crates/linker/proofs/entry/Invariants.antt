use Rattle.std.proofs.Common.{ℕ, ◌-◌, length}
use Rattle.linker.specs.Links.{Enters}
use Rattle.owned.specs.Ends.{StandsS}
use Rattle.linker.proofs.entry.Given as goal

-- what is left is entered where the whole is
abbrev pub invariant-loop-place : goal.invariant-loop-place
invariant-loop-place l = StandsS l.rows l.place × ((j : ℕ) → Enters l.rows l.place j → Enters l.rows l.at j)

abbrev pub decreases-loop-place : goal.decreases-loop-place
decreases-loop-place l = length l.rows - l.place
