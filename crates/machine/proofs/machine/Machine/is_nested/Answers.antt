use Rattle.std.proofs.Common.{arith}
use Rattle.machine.specs.Memory.{control, memory}
use Rattle.machine.proofs.Evaluating.{can_left, can_next}
use Rattle.machine.proofs.machine.Machine.is_nested.Goals as goal

pub bounds-self-at-then-self-at-ge2 : goal.bounds-self-at-then-self-at-ge2
bounds-self-at-then-self-at-ge2 c = (can_left (control c.args.self.now) (memory c.args.self.now) c.args.at (omega arith) c.requires).here

pub bounds-self-at-else-self-at-ge2-2 : goal.bounds-self-at-else-self-at-ge2-2
bounds-self-at-else-self-at-ge2-2 c = (can_next (control c.args.self.now) (memory c.args.self.now) c.args.at (omega arith) (omega arith) c.requires).here
