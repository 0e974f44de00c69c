use Rattle.machine.proofs.Performing.{look_cell, look_there, look_done}
use Rattle.machine.proofs.machine.Machine.look_into.Goals as goal

pub bounds-self-cell : goal.bounds-self-cell
bounds-self-cell c = look_cell c.cell_of-cell.ensures c.requires

pub store-requires : goal.store-requires
store-requires c = look_there c.cell_of-cell.ensures c.requires

pub returns : goal.returns
returns c = look_done c.cell_of-cell.ensures c.store.ensures.here c.store.ensures.stored
