use Rattle.std.proofs.Common.{◌+◌, ◌-◌, ◌*◌, length}
use Rattle.owned.proofs.checker.Checker.+branch_repeat_sequence_statement.Given as goal

abbrev pub decreases-branch : goal.decreases-branch
decreases-branch l = 2 * (length l.self.now.program.rows.now - l.at)

abbrev pub decreases-repeat : goal.decreases-repeat
decreases-repeat l = 2 * (length l.self.now.program.rows.now - l.at)

abbrev pub decreases-sequence : goal.decreases-sequence
decreases-sequence l = 2 * (length l.self.now.program.rows.now - l.at)

abbrev pub decreases-statement : goal.decreases-statement
decreases-statement l = 2 * (length l.self.now.program.rows.now - l.at) + 1
