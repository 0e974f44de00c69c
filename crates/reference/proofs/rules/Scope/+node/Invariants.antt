-- The nesting that is still allowed falls.
use Rattle.reference.proofs.rules.Scope.+node.Given as goal

abbrev pub decreases-node : goal.decreases-node
decreases-node g l = l.depth
