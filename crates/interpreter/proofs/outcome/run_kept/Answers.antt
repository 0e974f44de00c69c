use Rattle.std.proofs.Common.{refl, arith, rules}
use Rattle.machine.specs.Memory.{control}
use Rattle.interpreter.proofs.Outcomes.{starting, enough_steps, told, went_as}
use Rattle.interpreter.proofs.outcome.run_kept.Goals as goal

pub run-outcome-requires : goal.run-outcome-requires
run-outcome-requires g c = record { prog = c.requires.prog; cells = _; depth = _; turns = c.args.limits.turns; starts = starting c.requires c.link.ensures refl refl refl (omega arith) refl c.new-free.ensures.many c.new-free.ensures.list (omega arith) (search rules) refl refl (search rules) (enough_steps c.args.limits.turns _ c.from.result (search rules)) }

pub returns : goal.returns
returns g c =
    went_as _ _ _ c.args.limits.turns _ (search rules) c.ending-ran.ensures
    (told c.args.limits.turns c.requires _ (control c.run-outcome.new.self) c.run-outcome.result _ (c.run-outcome.ensures.came c.requires.prog c.args.limits.cells c.args.limits.depth c.args.limits.turns (starting c.requires c.link.ensures refl refl refl (omega arith) refl c.new-free.ensures.many c.new-free.ensures.list (omega arith) (search rules) refl refl (search rules) (enough_steps c.args.limits.turns _ c.from.result (search rules)))) c.run-outcome.ensures.kept refl)
