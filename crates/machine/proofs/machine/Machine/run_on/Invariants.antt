use Rattle.std.proofs.Common.{◌≡◌}
use Rattle.machine.specs.Memory.{control, memory}
use Rattle.machine.proofs.WholeRuns.{GoingOn}
use Rattle.machine.proofs.machine.Machine.run_on.Given as goal

abbrev pub invariant-loop-next : goal.invariant-loop-next
invariant-loop-next g l = GoingOn l.budget (control l.initial.self) (memory l.initial.self) l.left (control l.self) (memory l.self) × (l.at ≡ (control l.self).pos)

abbrev pub decreases-loop-next : goal.decreases-loop-next
decreases-loop-next g l = l.left
