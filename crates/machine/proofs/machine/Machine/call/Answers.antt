use Rattle.std.proofs.Common.{◌≡◌, ◌-◌, refl, ap, ◌∙◌, arith}
use Rattle.std.proofs.lemmas.Result.{err_from_is_err_and}
use Rattle.machine.specs.declared.machine.Halt.TheVariants.{Spent}
use Rattle.machine.specs.Memory.{control, with_turns}
use Rattle.machine.proofs.Calling.{call_can, call_spent, call_open, call_done}
use Rattle.machine.proofs.machine.Machine.call.Goals as goal

pub pass_arguments-requires : goal.pass_arguments-requires
pass_arguments-requires c = call_can c.args.dest.0 c.args.f c.requires.at c.requires.many c.if-self-eq0.false refl c.requires.can

pub returns-in_err-self-clause-stepped : goal.returns-in_err-self-clause-stepped
returns-in_err-self-clause-stepped c =
    let p = err_from_is_err_and c.from_residual.result c.from_residual.ensures.1 in
    let spent : c.in_err-self.field-0.0 ≡ Spent = grind (arith, c.in_err-self.ensures.value) in
    let none : c.pass_arguments.new.self.turns ≡ 0 = grind (arith, c.in_err-self.ensures.ok_part, c.checked_sub.ensures) in
    rw (p.1, p.2, spent) (call_spent c.args.dest.0 c.args.f c.requires.at c.requires.many c.if-self-eq0.false refl c.pass_arguments.ensures none)

pub open-requires-clause-row : goal.open-requires-clause-row
open-requires-clause-row c = let left : c.in_ok-self.field-0 ≡ c.pass_arguments.new.self.turns - 1 = grind (arith, c.in_ok-self.ensures.ok_part, c.checked_sub.ensures) in let here = c.suspend.ensures.here ∙ ap (λ l. with_turns (control c.pass_arguments.new.self) l) left in let r = call_open c.args.dest.0 c.args.f c.requires.at c.requires.many c.if-self-eq0.false refl c.pass_arguments.ensures here c.suspend.ensures.suspended c.requires.can in r.0

pub open-requires-clause-room : goal.open-requires-clause-room
open-requires-clause-room c = let left : c.in_ok-self.field-0 ≡ c.pass_arguments.new.self.turns - 1 = grind (arith, c.in_ok-self.ensures.ok_part, c.checked_sub.ensures) in let here = c.suspend.ensures.here ∙ ap (λ l. with_turns (control c.pass_arguments.new.self) l) left in let r = call_open c.args.dest.0 c.args.f c.requires.at c.requires.many c.if-self-eq0.false refl c.pass_arguments.ensures here c.suspend.ensures.suspended c.requires.can in r.2

pub returns-clause-stepped : goal.returns-clause-stepped
returns-clause-stepped c = let left : c.in_ok-self.field-0 ≡ c.pass_arguments.new.self.turns - 1 = grind (arith, c.in_ok-self.ensures.ok_part, c.checked_sub.ensures) in let some : c.pass_arguments.new.self.turns ≡ 0 → ⊥ = λ z. grind (arith, z, c.in_ok-self.ensures.ok_part, c.checked_sub.ensures) in let here = c.suspend.ensures.here ∙ ap (λ l. with_turns (control c.pass_arguments.new.self) l) left in call_done c.args.dest.0 c.args.f c.requires.at c.requires.many c.if-self-eq0.false refl c.pass_arguments.ensures here c.suspend.ensures.suspended some refl c.open.ensures.opened
