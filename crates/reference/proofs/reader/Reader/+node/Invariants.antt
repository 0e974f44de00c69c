-- The nesting that is still allowed falls.
use Rattle.reference.proofs.reader.Reader.+node.Given as goal

abbrev pub decreases-node : goal.decreases-node
decreases-node l = l.depth
