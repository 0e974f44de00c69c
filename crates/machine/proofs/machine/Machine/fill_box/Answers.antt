use Rattle.machine.proofs.Performing.{fill_room, fill_release, fill_index, fill_done}
use Rattle.machine.proofs.machine.Machine.fill_box.Goals as goal

pub bounds-self-cell : goal.bounds-self-cell
bounds-self-cell c = fill_room c.cell_of-cell.ensures c.take-word.ensures c.requires

pub release-requires : goal.release-requires
release-requires c = fill_release c.cell_of-cell.ensures c.take-word.ensures c.kind_of-kind.ensures c.requires

pub bounds-self-cell-2 : goal.bounds-self-cell-2
bounds-self-cell-2 c = fill_index c.cell_of-cell.ensures c.take-word.ensures c.kind_of-kind.ensures c.release.ensures c.requires

pub returns : goal.returns
returns c = fill_done c.cell_of-cell.ensures c.take-word.ensures c.kind_of-kind.ensures c.release.ensures
