use Rattle.std.proofs.Common.{length, ap, arith}
use Rattle.machine.specs.Memory.{Control}
use Rattle.machine.proofs.Passing.{pass_start, pass_end, pass_room, pass_can, pass_more}
use Rattle.machine.proofs.machine.Machine.pass_arguments.Goals as goal

pub loop-i-init : goal.loop-i-init
loop-i-init c = pass_start (omega arith) (omega (arith, c.requires.room))

pub argument-word-requires : goal.argument-word-requires
argument-word-requires c = record { room = pass_room c.loop-i.invariant c.loop-i-test.true c.requires; can = pass_can c.loop-i.invariant c.loop-i-test.true c.requires }

pub overflow_add-at : goal.overflow_add-at
overflow_add-at c = omega (arith, ap (λ (z : Control). length z.code.rows) c.loop-i.invariant.here, pass_room c.loop-i.invariant c.loop-i-test.true c.requires)

pub loop-i-preserved : goal.loop-i-preserved
loop-i-preserved c = pass_more c.loop-i.invariant c.loop-i-test.true c.argument-word.ensures c.store_next.ensures.here c.store_next.ensures.stored c.requires (omega arith)

pub returns : goal.returns
returns c = pass_end c.loop-i.invariant (omega arith)
