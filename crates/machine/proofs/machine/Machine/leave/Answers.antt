use Rattle.std.proofs.Common.{refl}
use Rattle.machine.proofs.Returning.{leave_finish, leave_result, leave_put, leave_done}
use Rattle.machine.proofs.machine.Machine.leave.Goals as goal

pub finish-requires : goal.finish-requires
finish-requires c = leave_finish c.requires

pub result-word-requires-clause-there : goal.result-word-requires-clause-there
result-word-requires-clause-there c = let r = leave_result c.finish.ensures c.requires in r.1

pub put-requires : goal.put-requires
put-requires c = leave_put c.finish.ensures refl refl c.result-word.ensures c.resume-dest.ensures.here c.resume-dest.ensures.same c.resume-dest.ensures.dest c.requires

pub returns-clause-stepped : goal.returns-clause-stepped
returns-clause-stepped c = leave_done c.finish.ensures refl refl c.result-word.ensures c.resume-dest.ensures.here c.resume-dest.ensures.same c.resume-dest.ensures.dest c.put.ensures
