use Rattle.owned.proofs.Whole.{Rest}
use Rattle.owned.proofs.program.Program.all_kept.Given as goal

abbrev pub invariant-loop-f : goal.invariant-loop-f
invariant-loop-f l = Rest l.self.rows.now l.self.starts.now l.f
