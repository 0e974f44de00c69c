use Rattle.std.proofs.Common.{sym, subst, arith}
use Rattle.owned.specs.Views.{seen, SaysS}
use Rattle.owned.proofs.Calls.{args_there, args_few, call_untaken, call_missing, call_unlike, call_unhanded, call_lent, calls_number, calls_box}
use Rattle.owned.proofs.checker.Checker.call.Goals as goal
use Rattle.owned.proofs.checker.Checker.call.Goals.{else-not-is_number-via-then-not-is_number+else-is_lent_by, else-not-is_number-via-else-not-is_number}

pub returns-then-not-takes : goal.returns-then-not-takes
returns-then-not-takes c = call_untaken (seen c.args.self.now) c.args.at c.args.x c.args.f c.args.n c.args.full c.requires.1 c.if-not-takes.ensures

pub returns-then-f-self : goal.returns-then-f-self
returns-then-f-self c = call_missing (seen c.args.self.now) c.args.at c.args.x c.args.f c.args.n c.args.full c.requires.1 c.if-not-takes.ensures c.if-f-self.true

pub returns-then-ne : goal.returns-then-ne
returns-then-ne c = call_unlike (seen c.args.self.now) c.args.at c.args.x c.args.f c.args.n c.args.full c.requires.1 c.if-not-takes.ensures _ c.procedure-callee.ensures _ _ c.kind.ensures c.kind-2.ensures c.if-ne.ensures

pub arguments-arguments-requires : goal.arguments-arguments-requires
arguments-arguments-requires c = args_there (seen c.args.self.now) c.args.at c.args.x c.args.f c.args.n c.args.full c.requires.1 c.requires.0

pub hands-requires : goal.hands-requires
hands-requires c = omega (arith, args_few (seen c.args.self.now) c.args.at c.args.x c.args.f c.args.n c.args.full c.requires.1 c.requires.0 c.arguments-arguments.result.now c.arguments-arguments.ensures, c.ranges.n)

pub returns-in_err-after : goal.returns-in_err-after
returns-in_err-after c =
    subst (λ o. SaysS (seen c.args.self.now) c.args.at c.args.full o) (sym c.from_residual.ensures)
    (call_unhanded (seen c.args.self.now) c.args.at c.args.x c.args.f c.args.n c.args.full c.requires.1 c.if-not-takes.ensures _ c.procedure-callee.ensures _ _ c.kind.ensures c.kind-2.ensures c.if-ne.ensures c.arguments-arguments.result.now c.arguments-arguments.ensures c.in_err-after.ensures)

pub returns-then-is_lent_by : goal.returns-then-is_lent_by
returns-then-is_lent_by c =
    call_lent (seen c.args.self.now) c.args.at c.args.x c.args.f c.args.n c.args.full c.requires.1 c.if-not-takes.ensures _ c.procedure-callee.ensures _ _ c.kind.ensures c.kind-2.ensures c.if-ne.ensures c.arguments-arguments.result.now c.arguments-arguments.ensures _ c.in_ok-after.ensures c.if-not-is_number.ensures c.if-is_lent_by.ensures

pub returns : goal.returns
returns c =
    elim c.else-not-is_number.branch [
      | else-not-is_number-via-then-not-is_number+else-is_lent_by w ↦
          calls_box (seen c.args.self.now) c.args.at c.args.x c.args.f c.args.n c.args.full c.requires.1 c.if-not-takes.ensures _ c.procedure-callee.ensures _ _ c.kind.ensures c.kind-2.ensures c.if-ne.ensures c.arguments-arguments.result.now c.arguments-arguments.ensures _ c.in_ok-after.ensures _ c.filled.ensures w.if-not-is_number.ensures w.if-is_lent_by.ensures
      | else-not-is_number-via-else-not-is_number w ↦
          calls_number (seen c.args.self.now) c.args.at c.args.x c.args.f c.args.n c.args.full c.requires.1 c.if-not-takes.ensures _ c.procedure-callee.ensures _ _ c.kind.ensures c.kind-2.ensures c.if-ne.ensures c.arguments-arguments.result.now c.arguments-arguments.ensures _ c.in_ok-after.ensures _ c.filled.ensures w.if-not-is_number.ensures
    ]
