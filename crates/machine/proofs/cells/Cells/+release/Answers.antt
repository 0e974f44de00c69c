use Rattle.std.proofs.Common.{arith}
use Rattle.machine.proofs.Releasing.{can_release_inside, cell_in_use, box_released}
use Rattle.machine.proofs.cells.Cells.+release.Goals as goal

pub release-requires : goal.release-requires
release-requires t c = (omega arith, can_release_inside (omega arith) (omega arith) c.requires)

pub give_back-requires : goal.give_back-requires
give_back-requires t c = cell_in_use (omega arith) (omega arith) c.release.ensures c.requires

pub returns : goal.returns
returns t c = box_released (omega arith) (omega arith) c.release.ensures c.give_back.ensures
