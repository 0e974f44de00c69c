use Rattle.std.proofs.Common.{◌-◌, length}
use Rattle.owned.proofs.checker.Checker.+numbers.Given as goal

abbrev pub decreases-numbers : goal.decreases-numbers
decreases-numbers l = length l.self.now.program.rows.now - l.at
