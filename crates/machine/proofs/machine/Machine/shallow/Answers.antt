use Rattle.std.proofs.Common.{arith}
use Rattle.machine.specs.Memory.{control, memory}
use Rattle.machine.proofs.Evaluating.{can_left, can_next, leaves_done, two_leaves}
use Rattle.machine.proofs.machine.Machine.shallow.Goals as goal

pub leaf-a-requires-clause-can : goal.leaf-a-requires-clause-can
leaf-a-requires-clause-can c = can_left (control c.args.self.now) (memory c.args.self.now) c.args.at (omega arith) c.requires.can

pub leaf-b-requires-clause-can : goal.leaf-b-requires-clause-can
leaf-b-requires-clause-can c = let l = two_leaves c.args.self.now.rows.now c.args.at c.requires.shallow (omega arith) in can_next (control c.args.self.now) (memory c.args.self.now) c.args.at (omega arith) l.0 c.requires.can

pub returns : goal.returns
returns c = leaves_done (control c.args.self.now) (memory c.args.self.now) c.args.at (omega arith) (two_leaves c.args.self.now.rows.now c.args.at c.requires.shallow (omega arith)).0 c.leaf-a.ensures c.leaf-b.ensures c.combine.ensures
