use Rattle.std.proofs.Common.{arith}
use Rattle.machine.proofs.Variables.{took_number, took_box}
use Rattle.machine.proofs.machine.Machine.take.Goals as goal

pub returns-then-kind_of-gt0 : goal.returns-then-kind_of-gt0
returns-then-kind_of-gt0 c = took_box c.kind_of.ensures c.load-word.ensures c.requires c.if-kind_of-gt0.true c.store.ensures.here c.store.ensures.stored

pub returns-else-kind_of-gt0 : goal.returns-else-kind_of-gt0
returns-else-kind_of-gt0 c = took_number c.kind_of.ensures c.load-word.ensures (omega arith)
