use Rattle.owned.specs.Decode.{read_e}
use Rattle.owned.proofs.Ends.{Rest}
use Rattle.owned.proofs.decode.+expressions_end.Given as goal

abbrev pub decreases-expressions_end : goal.decreases-expressions_end
decreases-expressions_end l = l.depth

abbrev pub invariant-loop-i : goal.invariant-loop-i
invariant-loop-i l = Rest l.rows (λ us. read_e l.depth us) l.n l.at l._i l.end
