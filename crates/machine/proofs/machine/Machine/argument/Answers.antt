use Rattle.machine.proofs.Passing.{one_took, one_lent}
use Rattle.machine.proofs.machine.Machine.argument.Goals as goal

pub returns-then-self-at-eq0 : goal.returns-then-self-at-eq0
returns-then-self-at-eq0 c = one_took c.if-self-at-eq0.true c.take.ensures

pub returns-else-self-at-eq0 : goal.returns-else-self-at-eq0
returns-else-self-at-eq0 c = one_lent c.if-self-at-eq0.false c.load.ensures
