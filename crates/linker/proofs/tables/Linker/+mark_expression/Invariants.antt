use Rattle.std.proofs.Common.{◌-◌, length}
use Rattle.linker.proofs.tables.Linker.+mark_expression.Given as goal

abbrev pub decreases-mark_expression : goal.decreases-mark_expression
decreases-mark_expression l = length l.self.now.rows.now - l.at
