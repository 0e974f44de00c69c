use Rattle.std.proofs.Common.{arith}
use Rattle.std.proofs.lemmas.Result.{err_from_is_err_and}
use Rattle.machine.specs.Memory.{control, memory}
use Rattle.machine.proofs.WholeRuns.{run_left, run_step, run_again, run_done, run_halt, kept_on}
use Rattle.machine.proofs.machine.Machine.run_on.Goals as goal

pub step-requires-clause-can : goal.step-requires-clause-can
step-requires-clause-can g c = run_step c.loop-next.invariant.0 c.requires.can

pub overflow_sub-left : goal.overflow_sub-left
overflow_sub-left g c = run_left c.loop-next.invariant.0 c.requires.can

pub returns-in-Done : goal.returns-in-Done
returns-in-Done g c = record { came = run_done c.loop-next.invariant.0 (control c.step.new.self) (memory c.step.new.self) c.in-Done.result (rw c.in-Done.is at c.in_ok-next.ensures.advanced); kept = kept_on c.loop-next.invariant.0.kept c.in_ok-next.ensures.kept }

pub returns-in_err-next : goal.returns-in_err-next
returns-in_err-next g c =
    let p = err_from_is_err_and c.from_residual.result c.from_residual.ensures.1 in
    record { came = rw (p.1, p.2) (run_halt c.loop-next.invariant.0 (control c.step.new.self) (memory c.step.new.self) c.in_err-next.field-0.0 c.in_err-next.ensures.advanced); kept = kept_on c.loop-next.invariant.0.kept c.in_err-next.ensures.kept }

pub loop-next-smaller : goal.loop-next-smaller
loop-next-smaller g c = omega (arith, run_left c.loop-next.invariant.0 c.requires.can)

pub loop-next-preserved : goal.loop-next-preserved
loop-next-preserved g c = (run_again c.loop-next.invariant.0 c.in-Going.next (rw c.in-Going.is at c.in_ok-next.ensures.advanced) c.in_ok-next.ensures.kept, rw c.in-Going.is at c.in_ok-next.ensures.next)
