use Rattle.std.proofs.Common.{◌-◌, length}
use Rattle.machine.proofs.machine.Machine.+nested.Given as goal

abbrev pub decreases-nested : goal.decreases-nested
decreases-nested l = length l.self.now.rows.now - l.at
