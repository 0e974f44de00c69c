use Rattle.std.proofs.Common.{◌-◌}
use Rattle.machine.specs.Memory.{control, memory}
use Rattle.machine.proofs.Closing.{CloseSofar}
use Rattle.machine.proofs.machine.Machine.finish.Given as goal

abbrev pub invariant-loop-x : goal.invariant-loop-x
invariant-loop-x l = CloseSofar (control l.initial.self) (memory l.initial.self) (control l.self) (memory l.self) l.x l.mask

abbrev pub decreases-loop-x : goal.decreases-loop-x
decreases-loop-x l = l.many - l.x
