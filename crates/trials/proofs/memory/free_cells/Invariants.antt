-- Each free cell lies behind the one before it.
use Rattle.std.proofs.Common.{◌-◌}
use Rattle.trials.proofs.memory.free_cells.Given as goal

abbrev pub decreases-loop-at : goal.decreases-loop-at
decreases-loop-at l = l.machine.cells.free.cells - l.at
