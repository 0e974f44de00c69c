use Rattle.std.proofs.Common.{◌+◌, sym, arith}
use Rattle.machine.specs.Memory.{control, memory}
use Rattle.machine.proofs.Evaluating.{second_there, can_left, can_right, past_left, both_done, nests_operator}
use Rattle.machine.proofs.machine.Machine.+nested.Goals as goal
use Rattle.machine.proofs.machine.Machine.+nested.Goals.{then-is_nested, else-is_nested, then-is_nested-2, else-is_nested-2}

pub bounds-self-at : goal.bounds-self-at
bounds-self-at t c = second_there (control c.args.self.now) (memory c.args.self.now) c.args.at c.requires.operator c.requires.can

pub is_nested-requires : goal.is_nested-requires
is_nested-requires t c = can_left (control c.args.self.now) (memory c.args.self.now) c.args.at c.requires.operator c.requires.can

pub is_nested-requires-2 : goal.is_nested-requires-2
is_nested-requires-2 t c = can_right (control c.args.self.now) (memory c.args.self.now) c.args.at c.requires.operator c.requires.can

pub nested-a-requires : goal.nested-a-requires
nested-a-requires t c = (omega (arith, c.requires.can.here), (can_left (control c.args.self.now) (memory c.args.self.now) c.args.at c.requires.operator c.requires.can, nests_operator c.args.self.now.rows.now (c.args.at + 1) (sym c.if-is_nested.ensures)))

pub shallow-a-requires-clause-can : goal.shallow-a-requires-clause-can
shallow-a-requires-clause-can t c = can_left (control c.args.self.now) (memory c.args.self.now) c.args.at c.requires.operator c.requires.can

pub nested-b-requires : goal.nested-b-requires
nested-b-requires t c = (omega (arith, c.requires.can.here, past_left (control c.args.self.now) (memory c.args.self.now) c.args.at c.requires.operator c.requires.can), (can_right (control c.args.self.now) (memory c.args.self.now) c.args.at c.requires.operator c.requires.can, nests_operator c.args.self.now.rows.now _ (sym c.if-is_nested-2.ensures)))

pub shallow-b-requires-clause-can : goal.shallow-b-requires-clause-can
shallow-b-requires-clause-can t c = can_right (control c.args.self.now) (memory c.args.self.now) c.args.at c.requires.operator c.requires.can

pub returns : goal.returns
returns t c =
    both_done (control c.args.self.now) (memory c.args.self.now) c.args.at c.requires.operator
    (elim c.if-is_nested.branch [ then-is_nested w ↦ rw w.a-is w.nested-a.ensures | else-is_nested w ↦ rw w.a-is w.shallow-a.ensures ])
    (elim c.if-is_nested-2.branch [ then-is_nested-2 w ↦ rw w.b-is w.nested-b.ensures | else-is_nested-2 w ↦ rw w.b-is w.shallow-b.ensures ]) c.combine.ensures
