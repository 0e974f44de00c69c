use Rattle.std.proofs.Common.{◌≡◌, ℕ, ◌<◌}
use Rattle.owned.specs.VarSets.{bit_of}
use Rattle.owned.proofs.varset.VarSet.first_difference.Given as goal

abbrev pub invariant-loop-x : goal.invariant-loop-x
invariant-loop-x l = (l.first ≡ l.n) × ((i : ℕ) → i < l.x → bit_of l.self.0 i ≡ bit_of l.other.0 i)
