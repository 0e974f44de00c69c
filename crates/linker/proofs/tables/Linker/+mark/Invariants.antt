use Rattle.std.proofs.Common.{◌-◌, length}
use Rattle.linker.proofs.tables.Linker.+mark.Given as goal

abbrev pub decreases-mark : goal.decreases-mark
decreases-mark l = length l.self.now.rows.now - l.at
