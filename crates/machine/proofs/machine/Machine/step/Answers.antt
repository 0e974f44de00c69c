use Rattle.std.proofs.Common.{arith}
use Rattle.std.proofs.lemmas.Result.{err_from_is_err_and}
use Rattle.machine.specs.Memory.{control, memory}
use Rattle.machine.proofs.Advancing.{step_execute, executed_halt, step_leave, left_on, step_finish, step_result, finished}
use Rattle.machine.proofs.machine.Machine.step.Goals as goal

pub execute-requires-clause-can : goal.execute-requires-clause-can
execute-requires-clause-can c = step_execute (omega arith) c.requires.can

pub returns-in_err-execute-clause-advanced : goal.returns-in_err-execute-clause-advanced
returns-in_err-execute-clause-advanced c =
    let p = err_from_is_err_and c.from_residual.result c.from_residual.ensures.1 in
    rw (p.1, p.2) (executed_halt (omega arith) (control c.execute.new.self) (memory c.execute.new.self) c.in_err-execute.field-0.0 c.in_err-execute.ensures.stepped)

pub leave-requires : goal.leave-requires
leave-requires c = step_leave (omega arith) (omega arith) c.requires.can

pub returns-then-self-gt-FRAME_WORDS-clause-advanced : goal.returns-then-self-gt-FRAME_WORDS-clause-advanced
returns-then-self-gt-FRAME_WORDS-clause-advanced c = left_on (omega arith) (omega arith) c.leave.result c.leave.ensures.stepped

pub finish-requires : goal.finish-requires
finish-requires c = step_finish (omega arith) (omega arith) c.requires.can

pub result-requires-clause-there : goal.result-requires-clause-there
result-requires-clause-there c = let r = step_result (omega arith) (omega arith) c.finish.ensures c.requires.can in r.1

pub returns-clause-advanced : goal.returns-clause-advanced
returns-clause-advanced c = finished (omega arith) (omega arith) c.finish.ensures c.result.ensures
