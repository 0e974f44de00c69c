use Rattle.owned.specs.Decode.{variable}
use Rattle.owned.proofs.Bits.{Made}
use Rattle.owned.proofs.varset.VarSet.of_those.Given as goal

abbrev pub invariant-loop-x : goal.invariant-loop-x
invariant-loop-x g l = goal.F-IsAlwaysCallable g l.is_meant × Made (λ y b. goal.F-post g l.is_meant (variable y) b) l.x l.those.0
