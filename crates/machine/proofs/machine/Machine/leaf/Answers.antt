use Rattle.machine.specs.Memory.{control, memory}
use Rattle.machine.proofs.Evaluating.{leaf_room, leaf_number, leaf_load, leaf_variable}
use Rattle.machine.proofs.machine.Machine.leaf.Goals as goal

pub load-requires : goal.load-requires
load-requires c = leaf_load (control c.args.self.now) (memory c.args.self.now) c.args.at c.requires.leaf c.if-self-at-eq0.false c.requires.can

pub returns-then-self-at-eq0 : goal.returns-then-self-at-eq0
returns-then-self-at-eq0 c = leaf_number (control c.args.self.now) (memory c.args.self.now) c.args.at c.requires.leaf c.if-self-at-eq0.true

pub returns-else-self-at-eq0 : goal.returns-else-self-at-eq0
returns-else-self-at-eq0 c = leaf_variable (control c.args.self.now) (memory c.args.self.now) c.args.at c.requires.leaf c.if-self-at-eq0.false c.load.ensures

pub bounds-self-at : goal.bounds-self-at
bounds-self-at c = leaf_room (control c.args.self.now) (memory c.args.self.now) c.args.at c.requires.leaf c.requires.can
