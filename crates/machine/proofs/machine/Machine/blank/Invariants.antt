use Rattle.std.proofs.Common.{◌≤◌}
use Rattle.machine.proofs.Opening.{Zeroed}
use Rattle.machine.proofs.machine.Machine.blank.Given as goal

abbrev pub invariant-loop-x : goal.invariant-loop-x
invariant-loop-x l = (l.from ≤ l.x) × Zeroed l.base l.from l.x l.initial.frames l.frames
