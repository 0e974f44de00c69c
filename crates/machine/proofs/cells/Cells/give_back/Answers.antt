use Rattle.machine.proofs.Releasing.{cell_freed}
use Rattle.machine.proofs.cells.Cells.give_back.Goals as goal

pub returns : goal.returns
returns c = cell_freed c.give_back.ensures.many c.give_back.ensures.back
