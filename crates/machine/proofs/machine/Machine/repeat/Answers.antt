use Rattle.std.proofs.Common.{◌≡◌, ◌+◌, arith}
use Rattle.std.proofs.lemmas.Result.{err_from_is_err_and}
use Rattle.machine.specs.declared.machine.Halt.TheVariants.{Spent}
use Rattle.machine.proofs.Branching.{while_can, while_off, while_spent, while_on}
use Rattle.machine.proofs.machine.Machine.repeat.Goals as goal

pub value-word-requires : goal.value-word-requires
value-word-requires c = rw c.requires.at (while_can c.requires.can)

pub returns-then-word-eq0-clause-stepped : goal.returns-then-word-eq0-clause-stepped
returns-then-word-eq0-clause-stepped c = while_off (rw c.requires.at at c.value-word.ensures) c.if-word-eq0.true c.proceed.ensures.here c.proceed.ensures.same

pub returns-in_err-self-clause-stepped : goal.returns-in_err-self-clause-stepped
returns-in_err-self-clause-stepped c =
    let p = err_from_is_err_and c.from_residual.result c.from_residual.ensures.1 in
    let spent : c.in_err-self.field-0.0 ≡ Spent = grind (arith, c.in_err-self.ensures.value) in
    let none : c.args.self.now.turns ≡ 0 = grind (arith, c.in_err-self.ensures.ok_part, c.checked_sub.ensures) in
    rw (p.1, p.2, spent) (while_spent (rw c.requires.at at c.value-word.ensures) c.if-word-eq0.false none)

pub returns-clause-stepped : goal.returns-clause-stepped
returns-clause-stepped c = let more : c.in_ok-self.field-0 + 1 ≡ c.args.self.now.turns = grind (arith, c.in_ok-self.ensures.ok_part, c.checked_sub.ensures) in rw c.requires.at (while_on (rw c.requires.at at c.value-word.ensures) c.if-word-eq0.false more)
