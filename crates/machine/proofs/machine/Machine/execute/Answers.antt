use Rattle.std.proofs.Common.{Some, Ok, ap, ◌∙◌, inl, inr}
use Rattle.std.proofs.lemmas.Result.{err_from_is_err_and}
use Rattle.machine.specs.Memory.{control, memory}
use Rattle.machine.specs.Steps.{halted}
use Rattle.machine.proofs.Stepping.{if_can, if_done, while_can, while_done, call_can, call_done, transfer_can, transfer_done, transfer_err, drop_can, drop_done, skip_done, no_pair, set_can, set_done, show_can, show_done, show_kept}
use Rattle.machine.proofs.machine.Machine.execute.Goals as goal

pub set_number-requires : goal.set_number-requires
set_number-requires c = rw c.requires.at (set_can c.in-Set.x c.in-Set.ensures c.requires.can)

pub transfer-requires : goal.transfer-requires
transfer-requires c = transfer_can c.in-Between.what c.in-Between.x c.in-Between.y c.in-Between.ensures c.requires.can

pub drop_value-requires : goal.drop_value-requires
drop_value-requires c = drop_can c.in-Drop.x c.in-Drop.ensures c.requires.can

pub branch-self-requires-clause-can : goal.branch-self-requires-clause-can
branch-self-requires-clause-can c = if_can c.in-If.ensures c.requires.can

pub repeat-requires-clause-can : goal.repeat-requires-clause-can
repeat-requires-clause-can c = while_can c.in-While.ensures c.requires.can

pub show-requires : goal.show-requires
show-requires c = rw c.requires.at (show_can c.in-Show.ensures c.requires.can)

pub call-requires-clause-can : goal.call-requires-clause-can
call-requires-clause-can c = call_can c.in-Call.x c.in-Call.f c.in-Call.many c.in-Call.ensures c.requires.can

pub returns-in-Skip-clause-stepped : goal.returns-in-Skip-clause-stepped
returns-in-Skip-clause-stepped c = elim c.in-Skip.is [
  | inl e ↦ skip_done (c.statement.ensures ∙ ap Some e) c.proceed.ensures.here c.proceed.ensures.same
  | inr e ↦ no_pair (control c.proceed.new.self) (memory c.proceed.new.self) (Ok tt) (c.statement.ensures ∙ ap Some e)
]

pub returns-in-Set-clause-stepped : goal.returns-in-Set-clause-stepped
returns-in-Set-clause-stepped c = set_done c.in-Set.x c.in-Set.ensures (rw c.requires.at at c.set_number.ensures) c.proceed-in-Set.ensures.here c.proceed-in-Set.ensures.same

pub returns-in_ok-transfer-in-Between-clause-stepped : goal.returns-in_ok-transfer-in-Between-clause-stepped
returns-in_ok-transfer-in-Between-clause-stepped c = transfer_done c.in-Between.what c.in-Between.x c.in-Between.y c.in-Between.ensures c.in_ok-transfer-in-Between.ensures.done c.proceed-in-Between.ensures.here c.proceed-in-Between.ensures.same

pub returns-in_err-transfer-in-Between-clause-stepped : goal.returns-in_err-transfer-in-Between-clause-stepped
returns-in_err-transfer-in-Between-clause-stepped c =
    let p = err_from_is_err_and c.from_residual.result c.from_residual.ensures.1 in
    rw (p.1, p.2) (transfer_err c.in-Between.what c.in-Between.x c.in-Between.y (control c.transfer.new.self) (memory c.transfer.new.self) c.in_err-transfer-in-Between.field-0.0 c.in-Between.ensures c.in_err-transfer-in-Between.ensures.done)

pub returns-in-Drop-clause-stepped : goal.returns-in-Drop-clause-stepped
returns-in-Drop-clause-stepped c = drop_done c.in-Drop.x c.in-Drop.ensures c.drop_value.ensures c.proceed-in-Drop.ensures.here c.proceed-in-Drop.ensures.same

pub returns-in-If-clause-stepped : goal.returns-in-If-clause-stepped
returns-in-If-clause-stepped c = if_done (control c.branch-self.new.self) (memory c.branch-self.new.self) (Ok tt) c.in-If.ensures c.branch-self.ensures.stepped

pub returns-in-While-clause-stepped : goal.returns-in-While-clause-stepped
returns-in-While-clause-stepped c = while_done (control c.repeat.new.self) (memory c.repeat.new.self) (halted c.repeat.result) c.in-While.ensures c.repeat.ensures.stepped

pub returns-in-Call-clause-stepped : goal.returns-in-Call-clause-stepped
returns-in-Call-clause-stepped c = call_done c.in-Call.x c.in-Call.f c.in-Call.many (control c.call.new.self) (memory c.call.new.self) (halted c.call.result) c.in-Call.ensures c.call.ensures.stepped

pub returns-in-Show-clause-stepped : goal.returns-in-Show-clause-stepped
returns-in-Show-clause-stepped c = show_done c.in-Show.ensures (rw c.requires.at at c.show.ensures) c.proceed-in-Show.ensures.here c.proceed-in-Show.ensures.same

pub returns-in-Show-clause-kept : goal.returns-in-Show-clause-kept
returns-in-Show-clause-kept c = show_kept c.show.ensures.word c.show.ensures.here c.proceed-in-Show.ensures.here
