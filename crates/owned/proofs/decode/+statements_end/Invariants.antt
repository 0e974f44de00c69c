use Rattle.owned.specs.Decode.{read_s}
use Rattle.owned.proofs.Ends.{Rest}
use Rattle.owned.proofs.decode.+statements_end.Given as goal

abbrev pub decreases-statements_end : goal.decreases-statements_end
decreases-statements_end l = l.depth

abbrev pub invariant-loop-i : goal.invariant-loop-i
invariant-loop-i l = Rest l.rows (λ us. read_s l.depth us) l.n l.at l._i l.end
