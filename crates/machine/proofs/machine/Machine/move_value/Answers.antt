use Rattle.machine.proofs.Performing.{move_put, move_done}
use Rattle.machine.proofs.machine.Machine.move_value.Goals as goal

pub put-requires : goal.put-requires
put-requires c = move_put c.take-word.ensures c.requires

pub returns : goal.returns
returns c = move_done c.take-word.ensures c.put.ensures
