use Rattle.machine.proofs.Branching.{if_can, if_first, if_second}
use Rattle.machine.proofs.machine.Machine.branch.Goals as goal
use Rattle.machine.proofs.machine.Machine.branch.Goals.{then-word-eq0, else-word-eq0}

pub value-word-requires : goal.value-word-requires
value-word-requires c = rw c.requires.at (if_can c.requires.can)

pub returns-clause-stepped : goal.returns-clause-stepped
returns-clause-stepped c = elim c.if-word-eq0.branch [
  | then-word-eq0 w ↦ rw (w.next-is, c.requires.at) (if_second (rw c.requires.at at c.value-word.ensures) w.if-word-eq0.true)
  | else-word-eq0 w ↦ rw (w.next-is, c.requires.at) (if_first (rw c.requires.at at c.value-word.ensures) w.if-word-eq0.false)
]
