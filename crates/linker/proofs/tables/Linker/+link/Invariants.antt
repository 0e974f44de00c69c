use Rattle.std.proofs.Common.{◌-◌, length}
use Rattle.linker.proofs.tables.Linker.+link.Given as goal

abbrev pub decreases-link : goal.decreases-link
decreases-link l = length l.self.now.rows.now - l.at
