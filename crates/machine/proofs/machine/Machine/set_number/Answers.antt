use Rattle.machine.proofs.Performing.{set_can, set_there, set_done}
use Rattle.machine.proofs.machine.Machine.set_number.Goals as goal

pub value-word-requires : goal.value-word-requires
value-word-requires c = set_can c.requires

pub store-requires : goal.store-requires
store-requires c = set_there c.args.at c.requires

pub returns : goal.returns
returns c = set_done c.value-word.ensures c.store.ensures.here c.store.ensures.stored
