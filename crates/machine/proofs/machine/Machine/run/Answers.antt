use Rattle.std.proofs.Common.{◌≡◌, ◌-◌, refl, subst, arith}
use Rattle.std.proofs.lemmas.Result.{err_from_is_err_and}
use Rattle.machine.specs.declared.machine.Halt.TheVariants.{Spent}
use Rattle.machine.specs.Memory.{control, memory, with_turns}
use Rattle.machine.specs.Calls.{Opened}
use Rattle.machine.proofs.Starting.{run_spent, run_open, run_can, run_end}
use Rattle.machine.proofs.machine.Machine.run.Goals as goal

pub returns-in_err-self-clause-came : goal.returns-in_err-self-clause-came
returns-in_err-self-clause-came g c =
    let p = err_from_is_err_and c.from_residual.result c.from_residual.ensures.1 in
    let spent : c.in_err-self.field-0.0 ≡ Spent = grind (arith, c.in_err-self.ensures.value) in
    let none : c.args.self.now.turns ≡ 0 = grind (arith, c.in_err-self.ensures.ok_part, c.checked_sub.ensures) in
    rw (p.1, p.2, spent) (run_spent c.if-self-eq0.false none)

pub open-at-requires-clause-row : goal.open-at-requires-clause-row
open-at-requires-clause-row g c = let r = run_open c.if-self-eq0.false refl c.requires in r.0

pub open-at-requires-clause-room : goal.open-at-requires-clause-room
open-at-requires-clause-room g c = let r = run_open c.if-self-eq0.false refl c.requires in r.2

pub run_on-requires-clause-can : goal.run_on-requires-clause-can
run_on-requires-clause-can g c = let left : c.in_ok-self.field-0 ≡ c.args.self.now.turns - 1 = grind (arith, c.in_ok-self.ensures.ok_part, c.checked_sub.ensures) in let some : c.args.self.now.turns ≡ 0 → ⊥ = λ z. grind (arith, z, c.in_ok-self.ensures.ok_part, c.checked_sub.ensures) in let opened = subst (λ l. Opened (with_turns (control c.args.self.now) l) (memory c.args.self.now) 0 0 (control c.open-at.new.self) (memory c.open-at.new.self)) left c.open-at.ensures.opened in run_can c.if-self-eq0.false refl some opened c.requires

pub returns-clause-came : goal.returns-clause-came
returns-clause-came g c = let left : c.in_ok-self.field-0 ≡ c.args.self.now.turns - 1 = grind (arith, c.in_ok-self.ensures.ok_part, c.checked_sub.ensures) in let some : c.args.self.now.turns ≡ 0 → ⊥ = λ z. grind (arith, z, c.in_ok-self.ensures.ok_part, c.checked_sub.ensures) in let opened = subst (λ l. Opened (with_turns (control c.args.self.now) l) (memory c.args.self.now) 0 0 (control c.open-at.new.self) (memory c.open-at.new.self)) left c.open-at.ensures.opened in run_end c.if-self-eq0.false refl some opened (control c.run_on.new.self) c.run_on.result c.run_on.ensures.came
