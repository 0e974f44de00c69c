use Rattle.machine.proofs.Performing.{unbox_room, unbox_in_use, unbox_put, unbox_done}
use Rattle.machine.proofs.machine.Machine.open_box.Goals as goal

pub bounds-self-cell : goal.bounds-self-cell
bounds-self-cell c = unbox_room c.cell_of-cell.ensures c.requires

pub give_back-requires : goal.give_back-requires
give_back-requires c = unbox_in_use c.cell_of-cell.ensures c.requires

pub put-requires : goal.put-requires
put-requires c = unbox_put c.cell_of-cell.ensures c.give_back.ensures c.store.ensures.here c.store.ensures.stored c.requires

pub returns : goal.returns
returns c = unbox_done c.cell_of-cell.ensures c.give_back.ensures c.store.ensures.here c.store.ensures.stored c.put.ensures
