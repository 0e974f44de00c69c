use Rattle.std.proofs.Common.{◌+◌, ◌*◌}
use Rattle.machine.specs.Memory.{control, memory}
use Rattle.machine.proofs.Passing.{PassSofar}
use Rattle.machine.proofs.machine.Machine.pass_arguments.Given as goal

abbrev pub invariant-loop-i : goal.invariant-loop-i
invariant-loop-i l = PassSofar (control l.initial.self) (memory l.initial.self) l.at l.many (control l.self) (memory l.self) (l.at + 2 * l.i) l.i
