use Rattle.owned.proofs.Tables.{Filled}
use Rattle.owned.proofs.procs.procedures.Given as goal

abbrev pub invariant-loop-n : goal.invariant-loop-n
invariant-loop-n l = Filled l.rows l.start-items l.at l.n
