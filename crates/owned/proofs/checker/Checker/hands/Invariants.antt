use Rattle.owned.specs.Views.{seen, sig_of}
use Rattle.owned.proofs.Arguments.{Left}
use Rattle.owned.proofs.checker.Checker.hands.Given as goal

abbrev pub invariant-loop-i : goal.invariant-loop-i
invariant-loop-i l = Left (seen l.self) (sig_of l.callee) l.arguments l.initial.left l.i l.left
