use Rattle.owned.specs.Views.{seen, sig_of}
use Rattle.owned.proofs.Arguments.{hands_other, hands_twice, hands_number, hands_box}
use Rattle.owned.proofs.checker.Checker.hands.Goals as goal
use Rattle.owned.proofs.checker.Checker.hands.Goals.{else-not-is_number-via-then-not-is_number+else-stands_among, else-not-is_number-via-else-not-is_number}

pub returns-then-arguments-callee : goal.returns-then-arguments-callee
returns-then-arguments-callee c = hands_other (seen c.args.self.now) (sig_of c.args.callee.now) c.args.arguments.now c.args.full (λ e. c.if-arguments-callee.true e)

pub returns-then-stands_among : goal.returns-then-stands_among
returns-then-stands_among c =
    hands_twice (seen c.args.self.now) (sig_of c.args.callee.now) c.args.arguments.now c.args.full c.loop-i.i c.loop-i.left c.loop-i.invariant c.loop-i-test.true _ c.if-not-hands_over.ensures
    c.if-not-is_number.ensures c.if-stands_among.ensures

pub loop-i-preserved : goal.loop-i-preserved
loop-i-preserved c =
    elim c.else-not-is_number.branch [
      | else-not-is_number-via-then-not-is_number+else-stands_among w ↦
          hands_box (seen c.args.self.now) (sig_of c.args.callee.now) c.args.arguments.now c.args.full c.loop-i.i c.loop-i.left c.loop-i.invariant c.loop-i-test.true _ c.if-not-hands_over.ensures
          c.after_argument-left.result c.after_argument-left.ensures w.if-not-is_number.ensures w.if-stands_among.ensures
      | else-not-is_number-via-else-not-is_number w ↦
          hands_number (seen c.args.self.now) (sig_of c.args.callee.now) c.args.arguments.now c.args.full c.loop-i.i c.loop-i.left c.loop-i.invariant c.loop-i-test.true _ c.if-not-hands_over.ensures
          c.after_argument-left.result c.after_argument-left.ensures w.if-not-is_number.ensures
    ]
