use Rattle.machine.proofs.Performing.{show_can, show_done}
use Rattle.machine.proofs.machine.Machine.show.Goals as goal

pub value-word-requires : goal.value-word-requires
value-word-requires c = show_can c.requires

pub returns : goal.returns
returns c = show_done c.value-word.ensures c.write_number.ensures.here c.write_number.ensures.same
